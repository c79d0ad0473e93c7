-- The next wire, the last one and the first whose key another has.
use Rattle.std.proofs.Common.{◌≡◌, get_or, refl, subst}
use Rattle.std.specs.Prelude.{true}
use Rattle.std.specs.BTreeSet.{Updates}
use Rattle.std.proofs.lemmas.Bool.{false≢true}
use Rattle.osgi_space_rules.specs.computed.Keys.{wire_cmp, wire_key}
use Rattle.osgi_space_rules.proofs.Distinct.{differ_done, differ_step, fresh, no_two, seen, two_found, two_weaker}
use Rattle.osgi_space_rules.proofs.Exact.{inserted, wire_exact, wire_total}
use Rattle.osgi_space_rules.proofs.Grow.{grow_step}
use Rattle.osgi_space_rules.proofs.Items.{no_wire, there}
use Rattle.osgi_space_rules.proofs.WireKeys.{double_keys, keys_double}
use Rattle.osgi_world.specs.Consistency.{AreDouble}
use Rattle.osgi_world.specs.declared.wiring.Wire.{Wire}
use Rattle.osgi_space_rules.proofs.doubles.are_wires_single.Goals as goal

pub returns-then-wires-lt2 : goal.returns-then-wires-lt2
returns-then-wires-lt2 c = record { single = (λ t. no_two (AreDouble c.args.known.now) c.args.wires.now c.if-wires-lt2.true, λ d. refl) }

pub loop-wire-preserved : goal.loop-wire-preserved
loop-wire-preserved c =
    let key = wire_key c.args.known.now in
    let wires = c.args.wires.now in
    let i = c.loop-wire.wire-index in
    let within = c.loop-wire-test.true in
    let w = get_or wires i no_wire in
    let updates = subst (λ k. Updates wire_cmp c.loop-wire.keys c.insert.new.self k true) c.new-key.ensures.key c.in_ok-insert.ensures.updates in
    record {
      keys = grow_step (λ (v : Wire) k. k ≡ key v) _ _ _ wires i w within (there wires i no_wire within) c.loop-wire.invariant.keys (inserted wire_total wire_exact c.loop-wire.keys c.insert.new.self _ updates);
      differ =
          differ_step (λ (v z : Wire). key v ≡ key z) wires i w within (there wires i no_wire within) c.loop-wire.invariant.differ
          (fresh wire_cmp key c.loop-wire.keys _ c.loop-wire.invariant.keys w c.new-key.result c.new-key.ensures.key c.in_ok-insert.field-0 c.in_ok-insert.ensures.added c.if-not-branch.false);
    }

pub returns-then-not-branch : goal.returns-then-not-branch
returns-then-not-branch c =
    let key = wire_key c.args.known.now in
    let wires = c.args.wires.now in
    let i = c.loop-wire.wire-index in
    let within = c.loop-wire-test.true in
    let w = get_or wires i no_wire in
    let same =
    two_found (λ (v z : Wire). key v ≡ key z) wires i w within (there wires i no_wire within)
    (seen wire_cmp key c.loop-wire.keys _ c.loop-wire.invariant.keys w c.new-key.result c.new-key.ensures.key c.in_ok-insert.field-0 c.in_ok-insert.ensures.added c.if-not-branch.true) in
    let two = two_weaker (λ (v z : Wire). key v ≡ key z) (AreDouble c.args.known.now) (keys_double c.args.known.now) wires same in
    record { single = (λ t. absurd (false≢true t), λ differ. absurd (differ two)) }

pub returns : goal.returns
returns c =
    let key = wire_key c.args.known.now in
    let differ = differ_done (λ (v z : Wire). key v ≡ key z) c.args.wires.now c.loop-wire.wire-index c.loop-wire-test.false c.loop-wire.invariant.differ in
    record { single = (λ t two. differ (two_weaker (AreDouble c.args.known.now) (λ (v z : Wire). key v ≡ key z) (double_keys c.args.known.now) c.args.wires.now two), λ d. refl) }
