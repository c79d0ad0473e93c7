-- The wires of the owners so far are added.
use Rattle.std.proofs.Common.{◌≡◌, ◌++◌, flat_map, take}
use Rattle.osgi_base.specs.declared.ids.RevisionId.{RevisionId}
use Rattle.osgi_world.specs.Lists.{In}
use Rattle.osgi_world.specs.Partial.{wires_for}
use Rattle.osgi_world.specs.Payloads.{requirements_of}
use Rattle.osgi_world.specs.declared.problem.Problem.{Problem}
use Rattle.osgi_resolver_path.specs.computed.Views.{IsOwner, IsReadyWith, decided_in}
use Rattle.osgi_resolver_path.specs.declared.course.Course.{Course}
use Rattle.osgi_resolver_path.proofs.adding.add_owners.Given as goal

abbrev pub invariant-loop-owner : goal.invariant-loop-owner
invariant-loop-owner l =
    (P : Problem) (course : Course) → IsReadyWith P l.lists l.values course → In l.host course.ids.items → ((o : RevisionId) → In o l.owners → IsOwner P course l.host o) →
    l.wires ≡ l.initial.wires ++ flat_map (wires_for P (decided_in course) l.host) (requirements_of P.world.known (take l.owner-index l.owners))
