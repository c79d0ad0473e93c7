-- The keys of the wires so far, which differ.
use Rattle.std.proofs.Common.{◌≡◌, take}
use Rattle.osgi_space_rules.specs.computed.Growing.{Grows, Has, Nothing}
use Rattle.osgi_space_rules.specs.computed.Keys.{wire_cmp, wire_key}
use Rattle.osgi_world.specs.Lists.{Two}
use Rattle.osgi_world.specs.declared.wiring.Wire.{Wire}
use Rattle.osgi_space_rules.proofs.doubles.are_wires_single.Given as goal

abbrev pub invariant-loop-wire : goal.invariant-loop-wire
invariant-loop-wire l = record {
  keys : Grows Nothing (Has wire_cmp l.keys) (λ (w : Wire) key. key ≡ wire_key l.known w) (take l.wire-index l.wires);
  differ : ¬ Two (λ (v w : Wire). wire_key l.known v ≡ wire_key l.known w) (take l.wire-index l.wires);
}
