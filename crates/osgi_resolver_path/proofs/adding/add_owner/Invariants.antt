-- The wires of the requirements so far are added.
use Rattle.std.proofs.Common.{◌≡◌, ◌++◌, flat_map, map}
use Rattle.osgi_world.specs.Lists.{In, below}
use Rattle.osgi_world.specs.Partial.{wires_for}
use Rattle.osgi_world.specs.declared.problem.Problem.{Problem}
use Rattle.osgi_resolver_path.specs.computed.Views.{IsOwner, IsReadyWith, decided_in}
use Rattle.osgi_resolver_path.specs.declared.course.Course.{Course}
use Rattle.osgi_resolver_path.proofs.adding.add_owner.Given as goal

abbrev pub invariant-loop-index : goal.invariant-loop-index
invariant-loop-index l =
    (P : Problem) (course : Course) → IsReadyWith P l.lists l.values course → In l.host course.ids.items → IsOwner P course l.host l.owner →
    l.wires ≡ l.initial.wires ++ flat_map (wires_for P (decided_in course) l.host) (map (λ i. record { owner = l.owner; index = i }) (below l.index))
