-- The candidates at the places so far are added.
use Rattle.std.proofs.Common.{take}
use Rattle.osgi_candidates.specs.computed.Collecting.{Asks, Extends, IsAtSome}
use Rattle.osgi_candidates.specs.computed.Fitting.{IsFit}
use Rattle.osgi_candidates.proofs.offers.Offers.add_places.Given as goal

abbrev pub invariant-loop-place : goal.invariant-loop-place
invariant-loop-place l = IsFit l.self → Asks l.self l.at l.requirement → Extends l.self l.at l.initial.found l.found (IsAtSome (take l.place-index l.places))
