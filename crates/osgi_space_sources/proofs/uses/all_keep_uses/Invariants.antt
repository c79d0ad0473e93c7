-- No constraint of the wirings so far is violated.
use Rattle.std.proofs.Common.{Any, take}
use Rattle.osgi_space_sources.specs.computed.Clashes.{KeepsUses}
use Rattle.osgi_world.specs.declared.wiring.Wiring.{Wiring}
use Rattle.osgi_space_sources.proofs.uses.all_keep_uses.Given as goal

abbrev pub invariant-loop-wiring : goal.invariant-loop-wiring
invariant-loop-wiring l = ¬ Any (λ (g : Wiring). ¬ KeepsUses l.rows g.revision.0) (take l.wiring-index l.wirings)
