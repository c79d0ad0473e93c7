-- The revisions so far are decided.
use Rattle.std.proofs.Common.{ℕ, take}
use Rattle.osgi_resolver_path.specs.Standing.{IsProblemOf, made}
use Rattle.osgi_space_rows.specs.Agree.{id}
use Rattle.osgi_world.specs.Hopeless.{IsDecided}
use Rattle.osgi_world.specs.Lists.{In}
use Rattle.osgi_world.specs.Partial.{partial}
use Rattle.osgi_world.specs.Wirings.{InForce}
use Rattle.osgi_world.specs.declared.problem.Problem.{Problem}
use Rattle.osgi_resolver_hopeless.proofs.settled.are_decided.Given as goal

abbrev pub invariant-loop-revision : goal.invariant-loop-revision
invariant-loop-revision l = (P : Problem) → IsProblemOf l.path P → ((n : ℕ) → In n l.revisions → InForce (partial P (made P l.path)) (id n)) → (n : ℕ) → In n (take l.revision-index l.revisions) → IsDecided P (made P l.path) (id n)
