-- The hosts are those of the wires so far.
use Rattle.std.proofs.Common.{take}
use Rattle.osgi_ops.specs.Loading.{all_with_fragments, AreRequired}
use Rattle.osgi_loader.proofs.searched.required.Given as goal

abbrev pub invariant-loop-wire : goal.invariant-loop-wire
invariant-loop-wire l = AreRequired l.wirings.world l.«package» (take l.wire-index l.wires) (all_with_fragments l.wirings.world l.hosts.items)
