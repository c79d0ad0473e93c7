-- One more wire.
use Rattle.std.proofs.Common.{rules, ◌≡◌, get_or}
use Rattle.std.proofs.lemmas.List.{get_or_default}
use Rattle.osgi_space_rules.specs.computed.Keys.{wired_place}
use Rattle.osgi_space_rules.proofs.Grow.{grow_done, grow_step, pushed}
use Rattle.osgi_world.specs.declared.wiring.Wire.{Wire}
use Rattle.osgi_space_rules.proofs.indexed.add_wired.Goals as goal

pub loop-wire-preserved : goal.loop-wire-preserved
loop-wire-preserved c =
    let wires = c.items-wire-items.result.now in
    let i = c.loop-wire.wire-index in
    let none : Wire = record { requirement = record { owner = record { 0 = 0 }; index = 0 }; capability = record { provider = record { 0 = 0 }; owner = record { 0 = 0 }; index = 0 } } in
    let within = c.loop-wire-test.true in
    grow_step (λ (w : Wire) key. key ≡ wired_place c.args.wiring.now.revision w.requirement) _ _ _ wires i (get_or wires i none) within (get_or_default wires i none (get_or wires i none) within) c.loop-wire.invariant
    (pushed c.loop-wire.wired.items c.push.new.self.items _ (search rules))

pub returns : goal.returns
returns c = rw (← c.items-wire-items.ensures.items) (record { added = grow_done _ _ _ c.items-wire-items.result.now c.loop-wire.wire-index c.loop-wire-test.false c.loop-wire.invariant })
