-- The fragments of the members so far were added.
use Rattle.std.proofs.Common.{ℕ, take}
use Rattle.osgi_base.specs.declared.ids.RevisionId.{RevisionId}
use Rattle.osgi_resolver_path.specs.Standing.{IsProblemOf, made}
use Rattle.osgi_space_sources.specs.laws.Adding.{Each}
use Rattle.osgi_space_sources.specs.computed.Adds.{Adds}
use Rattle.osgi_space_rows.specs.Agree.{id}
use Rattle.osgi_world.specs.DueDecisions.{fragments_of}
use Rattle.osgi_world.specs.Lists.{In}
use Rattle.osgi_world.specs.declared.problem.Problem.{Problem}
use Rattle.osgi_resolver_hopeless.proofs.rivals.new_revisions.Given as goal

abbrev pub invariant-loop-member : goal.invariant-loop-member
invariant-loop-member l = (P : Problem) → IsProblemOf l.path P → Adds (Each (λ (m : RevisionId) (n : ℕ). In (id n) (fragments_of P (made P l.path) m)) (take l.member-index l.members)) l.initial.new l.new
