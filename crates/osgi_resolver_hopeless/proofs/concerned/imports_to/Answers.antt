-- One revision more.
use Rattle.std.proofs.Common.{ℕ, inl, inr, get_or, sym, subst}
use Rattle.std.proofs.lemmas.List.{get_or_default, take_all}
use Rattle.osgi_space_rows.specs.Rows.{imports_of}
use Rattle.osgi_space_rules.proofs.Grow.{in_more}
use Rattle.osgi_world.specs.Lists.{In}
use Rattle.osgi_resolver_hopeless.proofs.concerned.imports_to.Goals as goal

pub loop-revision-init : goal.loop-revision-init
loop-revision-init c = λ n row none i same. elim none [ ]

pub loop-revision-preserved : goal.loop-revision-preserved
loop-revision-preserved c = λ n row there i same.
    let revisions = c.args.revisions.now in
    let k = c.loop-revision.revision-index in
    let within = c.loop-revision-test.true in
    elim ((in_more revisions k (get_or revisions k 0) within (get_or_default revisions k 0 (get_or revisions k 0) within) n).0 there) [
      | inl old ↦ c.in_ok-add_imports.ensures.kept row (c.loop-revision.invariant n row old i same)
      | inr e ↦ c.in_ok-add_imports.ensures.added row (subst (λ (m : ℕ). In row (imports_of c.args.rows.now m)) e i) same
    ]

pub returns : goal.returns
returns c = record {
  imports = λ n row there i same. c.loop-revision.invariant n row (subst (In n) (sym (take_all c.loop-revision.revision-index c.args.revisions.now c.loop-revision-test.false)) there) i same;
}
