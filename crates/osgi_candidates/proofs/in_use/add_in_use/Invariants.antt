-- The fragments so far are added to the set.
use Rattle.std.proofs.Common.{take}
use Rattle.osgi_candidates.specs.computed.InUses.{HasRevision}
use Rattle.osgi_candidates.proofs.Using.{IsSame}
use Rattle.osgi_space_rules.specs.computed.Growing.{Grows}
use Rattle.osgi_candidates.proofs.in_use.add_in_use.Given as goal

abbrev pub invariant-loop-fragment : goal.invariant-loop-fragment
invariant-loop-fragment l = Grows (HasRevision l.initial.in_use) (HasRevision l.in_use) IsSame (take l.fragment-index l.fragment-items)
