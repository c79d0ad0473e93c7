-- One more fragment.
use Rattle.std.proofs.Common.{rules, ◌≡◌, get_or}
use Rattle.std.proofs.lemmas.List.{get_or_default}
use Rattle.osgi_base.specs.declared.ids.RevisionId.{RevisionId}
use Rattle.osgi_space_rules.specs.computed.Keys.{attachment}
use Rattle.osgi_space_rules.proofs.Grow.{grow_done, grow_step, pushed}
use Rattle.osgi_space_rules.proofs.indexed.add_fragments.Goals as goal

pub loop-fragment-preserved : goal.loop-fragment-preserved
loop-fragment-preserved c =
    let fragments = c.items-fragment-items.result.now in
    let i = c.loop-fragment.fragment-index in
    let none : RevisionId = record { 0 = 0 } in
    let within = c.loop-fragment-test.true in
    grow_step (λ f key. key ≡ attachment c.args.wiring.now.revision f) _ _ _ fragments i (get_or fragments i none) within (get_or_default fragments i none (get_or fragments i none) within) c.loop-fragment.invariant
    (pushed c.loop-fragment.attached.items c.push.new.self.items _ (search rules))

pub returns : goal.returns
returns c = rw (← c.items-fragment-items.ensures.items) (record { added = grow_done _ _ _ c.items-fragment-items.result.now c.loop-fragment.fragment-index c.loop-fragment-test.false c.loop-fragment.invariant })
