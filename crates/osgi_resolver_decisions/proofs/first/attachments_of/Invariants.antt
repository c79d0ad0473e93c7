-- The decisions on the fragments so far.
use Rattle.std.proofs.Common.{◌≡◌, map, take}
use Rattle.osgi_world.specs.Decisions.{attaching}
use Rattle.osgi_resolver_decisions.specs.computed.Asks.{decisions_in}
use Rattle.osgi_resolver_decisions.proofs.first.attachments_of.Given as goal

abbrev pub invariant-loop-fragment : goal.invariant-loop-fragment
invariant-loop-fragment l = decisions_in l.attachments.items ≡ map (attaching l.host) (take l.fragment-index l.fragments)
