-- The candidates of the hosts so far are added.
use Rattle.std.proofs.Common.{take}
use Rattle.osgi_candidates.specs.computed.Collecting.{Asks, Extends, IsAtOf}
use Rattle.osgi_candidates.specs.computed.Fitting.{IsFit}
use Rattle.osgi_candidates.proofs.offers.Offers.add_hosts.Given as goal

abbrev pub invariant-loop-host : goal.invariant-loop-host
invariant-loop-host l = IsFit l.self → Asks l.self l.at l.requirement → Extends l.self l.at l.initial.found l.found (IsAtOf l.place (take l.host-index l.hosts))
