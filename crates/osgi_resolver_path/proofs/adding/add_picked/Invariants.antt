-- The wires of the candidates so far are added.
use Rattle.std.proofs.Common.{◌≡◌, ◌++◌, filter, map, take}
use Rattle.osgi_world.specs.Decisions.{is_yes, pick}
use Rattle.osgi_resolver_path.specs.computed.Valued.{value_in}
use Rattle.osgi_resolver_path.specs.computed.Views.{wire_to}
use Rattle.osgi_resolver_path.proofs.adding.add_picked.Given as goal

abbrev pub invariant-loop-capability : goal.invariant-loop-capability
invariant-loop-capability l = l.wires ≡ l.initial.wires ++ map (wire_to l.requirement) (filter (λ c. is_yes (value_in l.values (pick l.host l.requirement c))) (take l.capability-index l.candidates))
