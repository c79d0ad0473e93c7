-- Those of the members so far that are not decided.
use Rattle.std.proofs.Common.{◌↔◌, ℕ, take}
use Rattle.osgi_space_rows.specs.Agree.{id}
use Rattle.osgi_world.specs.Hopeless.{IsDecided}
use Rattle.osgi_world.specs.Lists.{In}
use Rattle.osgi_world.specs.declared.problem.Problem.{Problem}
use Rattle.osgi_resolver_decisions.specs.computed.Known.{IsProblemIn}
use Rattle.osgi_resolver_path.specs.computed.Moving.{IsLearnt}
use Rattle.osgi_resolver_path.specs.computed.Views.{IsAt, decided_in}
use Rattle.osgi_resolver_path.proofs.views.undecided.Given as goal

abbrev pub invariant-loop-place : goal.invariant-loop-place
invariant-loop-place l =
    (P : Problem) → IsProblemIn l.lists.offers P → IsLearnt l.lists l.course → IsAt P l.course → (n : ℕ) →
    In n l.list.items ↔ In (id n) (take l.place l.course.ids.items) × ¬ IsDecided P (decided_in l.course) (id n)
