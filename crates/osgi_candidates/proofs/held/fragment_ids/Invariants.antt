-- The ids of the fragments so far.
use Rattle.std.proofs.Common.{take}
use Rattle.std.specs.Ordering.{nat_cmp}
use Rattle.osgi_candidates.proofs.Standing.{IsId}
use Rattle.osgi_space_rules.specs.computed.Growing.{Grows, Has, Nothing}
use Rattle.osgi_candidates.proofs.held.fragment_ids.Given as goal

abbrev pub invariant-loop-fragment : goal.invariant-loop-fragment
invariant-loop-fragment l = Grows Nothing (Has nat_cmp l.ids) IsId (take l.fragment-index l.fragments)
