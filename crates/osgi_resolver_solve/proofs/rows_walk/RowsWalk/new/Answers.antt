-- The candidates of the root's rivals are out, and no decision is made.
use Rattle.std.proofs.Common.{subst, sym}
use Rattle.osgi_base.specs.declared.ids.RevisionId.{RevisionId}
use Rattle.osgi_resolver_solve.specs.computed.Layers.{IsInRows, TakesRivals}
use Rattle.osgi_resolver_solve.proofs.Layers.{first-place, in_rows-first}
use Rattle.osgi_resolver_solve.proofs.rows_walk.RowsWalk.new.Goals as goal

pub invariant_of-result : goal.invariant_of-result
invariant_of-result c =
    let s = c.args.path in
    let l = c.args.rows in
    let m = c.take_out_rivals.new.rows in
    let n = c.take_out_rivals.result in
    let taken = subst (λ (root : RevisionId). TakesRivals s.world.known root l n m) c.root-root.ensures.root c.take_out_rivals.ensures.taken in
    subst (IsInRows s m) (sym c.new.ensures.items) (in_rows-first s l m n c.requires.problem c.requires.empty c.requires.all taken)

pub returns : goal.returns
returns c =
    let s = c.args.path in
    let l = c.args.rows in
    let m = c.take_out_rivals.new.rows in
    let n = c.take_out_rivals.result in
    let taken = subst (λ (root : RevisionId). TakesRivals s.world.known root l n m) c.root-root.ensures.root c.take_out_rivals.ensures.taken in
    record { there = first-place s l m n c.requires.empty taken }
