-- The set has what the wirings so far use, and what it had.
use Rattle.std.proofs.Common.{take}
use Rattle.osgi_candidates.specs.computed.InUses.{HasRevision, IsUsedBy}
use Rattle.osgi_space_rules.specs.computed.Growing.{Grows}
use Rattle.osgi_candidates.proofs.in_use.add_all_in_use.Given as goal

abbrev pub invariant-loop-wiring : goal.invariant-loop-wiring
invariant-loop-wiring l = Grows (HasRevision l.initial.in_use) (HasRevision l.in_use) IsUsedBy (take l.wiring-index l.wirings)
