-- How far a search over all words has come.
use Rattle.std.specs.Prelude.{◌≡◌, ◌≤◌, ℕ, List, ◌∷◌, [], ◌++◌, length}
use Rattle.osgi_resolver_theory.specs.Search.{Upto}
use Rattle.osgi_resolver_search.specs.Outcomes.{IsOutcome}
use Rattle.osgi_world.specs.ChoiceWords.{made_by, width}
use Rattle.osgi_world.specs.declared.problem.Problem.{Problem}
use Rattle.cases_slow_search.specs.declared.seen.Seen.{Seen}
use Rattle.cases_slow_search.specs.declared.seen.Seen.TheVariants.{Passed, Ended}

-- n words that are not hopeless are before the place f, and none of them is complete
pub record HasPassed (P : Problem) (f : List ℕ) (n : ℕ) : Type 0 where
  pub earlier : List (List ℕ)
  pub upto : Upto P f earlier
  pub number : length earlier ≡ n

-- the place after a word and all that extend it
abbrev pub after : Problem → List ℕ → List ℕ
after P w = w ++ width P (made_by P w) ∷ []

-- the words before the place f were looked at, and the walker stands at x
abbrev pub IsSeen : Problem → ℕ → List ℕ → List ℕ → Seen → Type 0
IsSeen P budget f x (Passed visited) = (visited ≤ budget) × HasPassed P f visited
IsSeen P budget f x (Ended outcome) = IsOutcome P budget x outcome

-- where the search goes on, the walker that stood at w stands there again
abbrev pub StaysAt : List ℕ → List ℕ → Seen → Type 0
StaysAt w x (Passed visited) = x ≡ w
StaysAt w x (Ended outcome) = Unit {0}
