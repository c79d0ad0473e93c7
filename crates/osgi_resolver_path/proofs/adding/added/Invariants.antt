-- The wirings of the members so far.
use Rattle.std.proofs.Common.{◌≡◌, map, take}
use Rattle.osgi_world.specs.Partial.{wiring}
use Rattle.osgi_world.specs.declared.problem.Problem.{Problem}
use Rattle.osgi_resolver_path.specs.computed.Views.{IsReady, decided_in}
use Rattle.osgi_resolver_path.proofs.adding.added.Given as goal

abbrev pub invariant-loop-member : goal.invariant-loop-member
invariant-loop-member l = (P : Problem) → IsReady P l.lists l.course → l.list ≡ map (wiring P (decided_in l.course)) (take l.member-index l.course.ids.items)
