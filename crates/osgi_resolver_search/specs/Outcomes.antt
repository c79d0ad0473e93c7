-- How a search ends.
use Rattle.std.specs.Prelude.{◌≡◌, ℕ, ◌+◌, List}
use Rattle.osgi_world.specs.Consistency.{Extends}
use Rattle.osgi_world.specs.Effort.{IsEffortAbove, IsEffortWithin, IsFirst}
use Rattle.osgi_world.specs.declared.problem.Problem.{Problem}
use Rattle.osgi_world.specs.declared.wiring.Wiring.{Wiring}
use Rattle.osgi_resolver_search.specs.declared.depth_first.Outcome.{Outcome}
use Rattle.osgi_resolver_search.specs.declared.depth_first.Outcome.TheVariants.{Found, NoWord, Spent}

-- at the word w: the effort is within the budget, and w is the first good word, or else no wirings extend the present ones; or the
-- effort is above the budget
abbrev pub IsOutcome : Problem → ℕ → List ℕ → Outcome → Type 0
IsOutcome P budget w Found = IsFirst P w × IsEffortWithin P budget
IsOutcome P budget w NoWord = ((V : List Wiring) → ¬ Extends P.world.known P.world.wirings V P.root) × IsEffortWithin P budget
IsOutcome P budget w (Spent visited) = (visited ≡ budget + 1) × IsEffortAbove P budget
