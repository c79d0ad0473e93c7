-- The revision, one more fragment, and all of them.
use Rattle.std.proofs.Common.{get_or, subst}
use Rattle.osgi_candidates.specs.computed.InUses.{HasRevision}
use Rattle.osgi_candidates.proofs.Using.{IsSame, put_revision, puts_in_use}
use Rattle.osgi_space_rules.proofs.Grow.{grow_done, grow_step}
use Rattle.osgi_space_rules.proofs.Items.{no_revision, there}
use Rattle.osgi_space_rules.specs.computed.Growing.{Grows}
use Rattle.osgi_candidates.proofs.in_use.add_in_use.Goals as goal

pub loop-fragment-preserved : goal.loop-fragment-preserved
loop-fragment-preserved c =
    let fragments = c.items-fragment-items.result.now in
    let i = c.loop-fragment.fragment-index in
    let within = c.loop-fragment-test.true in
    let f = get_or fragments i no_revision in
    grow_step IsSame _ _ _ fragments i f within (there fragments i no_revision within) c.loop-fragment.invariant
    (put_revision c.loop-fragment.in_use _ f c.in_ok-insert-2.ensures.updates)

pub returns : goal.returns
returns c =
    let first = c.insert.new.self in
    let now = c.loop-fragment.in_use in
    let grown = grow_done IsSame (HasRevision first) (HasRevision now) c.items-fragment-items.result.now c.loop-fragment.fragment-index c.loop-fragment-test.false c.loop-fragment.invariant in
    record {
      added =
          puts_in_use c.args.in_use.now first now c.args.wiring.now (put_revision c.args.in_use.now first c.args.wiring.now.revision c.in_ok-insert.ensures.updates)
          (subst (λ fs. Grows (HasRevision first) (HasRevision now) IsSame fs) c.items-fragment-items.ensures.items grown);
    }
