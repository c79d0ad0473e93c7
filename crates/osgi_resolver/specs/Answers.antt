-- What a resolve answers.
use Rattle.std.specs.Prelude.{◌≡◌, ℕ, ◌+◌, List}
use Rattle.osgi_base.specs.declared.ids.RevisionId.{RevisionId}
use Rattle.osgi_world.specs.Candidates.{IsFirstLacking, IsLacking, IsProblem}
use Rattle.osgi_world.specs.ChoiceWords.{made_by}
use Rattle.osgi_world.specs.Consistency.{Extends}
use Rattle.osgi_world.specs.Effort.{IsEffortAbove, IsEffortWithin, IsFirst}
use Rattle.osgi_world.specs.Partial as partial
use Rattle.osgi_world.specs.declared.problem.Problem.{Problem}
use Rattle.osgi_world.specs.declared.wiring.ReqRef.{ReqRef}
use Rattle.osgi_world.specs.declared.wiring.Wiring.{Wiring}
use Rattle.osgi_world.specs.declared.world.World.{World}
use Rattle.osgi_resolver.specs.declared.answer.Answer.{Answer}
use Rattle.osgi_resolver.specs.declared.answer.Answer.TheVariants.{Found, NoWord, Spent}
use Rattle.osgi_resolver.specs.declared.answer.Cause.{Cause}
use Rattle.osgi_resolver.specs.declared.answer.Cause.TheVariants.{NoCandidate, Clash}

-- the root's first mandatory effective requirement without candidates; a clash where there is none
abbrev pub IsCause : Problem → Cause → Type 0
IsCause P (NoCandidate q) = IsFirstLacking P q
IsCause P Clash = (q : ReqRef) → ¬ IsLacking P q

-- the effort is within the budget, and this is the first good word with the wirings that it adds, or else no consistent wirings
-- with the root in force extend the present ones, for that cause; or the effort is above the budget, and one word more than the
-- budget was visited
abbrev pub IsAnswer : Problem → ℕ → Answer → Type 0
IsAnswer P budget (Found word added) = IsFirst P word × IsEffortWithin P budget × (added ≡ partial.added P (made_by P word))
IsAnswer P budget (NoWord cause) = ((V : List Wiring) → ¬ Extends P.world.known P.world.wirings V P.root) × IsEffortWithin P budget × IsCause P cause
IsAnswer P budget (Spent visited) = (visited ≡ budget + 1) × IsEffortAbove P budget

-- the answer to the problem of resolving the root in the world
pub record IsAnswerTo (W : World) (root : RevisionId) (budget : ℕ) (answer : Answer) : Type 0 where
  pub problem : Problem
  pub world : problem.world ≡ W
  pub root_is : problem.root ≡ root
  pub is_problem : IsProblem problem
  pub is : IsAnswer problem budget answer
