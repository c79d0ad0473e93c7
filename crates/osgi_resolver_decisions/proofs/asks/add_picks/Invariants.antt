-- The picks of the candidates so far are added.
use Rattle.std.proofs.Common.{◌≡◌, ◌++◌, map, take}
use Rattle.osgi_world.specs.Decisions.{pick}
use Rattle.osgi_resolver_decisions.specs.computed.Asks.{decisions_in}
use Rattle.osgi_resolver_decisions.proofs.asks.add_picks.Given as goal

abbrev pub invariant-loop-capability : goal.invariant-loop-capability
invariant-loop-capability l = decisions_in l.asks.items ≡ decisions_in l.initial.asks.items ++ map (pick l.host l.requirement) (take l.capability-index l.candidates)
