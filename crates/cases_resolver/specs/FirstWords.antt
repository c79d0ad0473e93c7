-- What the slow search answers.
use Rattle.std.specs.Prelude.{ℕ, []}
use Rattle.osgi_resolver_search.specs.Outcomes.{IsOutcome}
use Rattle.osgi_resolver_search.specs.declared.depth_first.Outcome.TheVariants as outcome
use Rattle.osgi_world.specs.declared.problem.Problem.{Problem}
use Rattle.cases_resolver.specs.declared.slowly.FirstWord.{FirstWord}
use Rattle.cases_resolver.specs.declared.slowly.FirstWord.TheVariants.{Found, NoWord, Spent}

-- the search with the budget ends so; where it finds the first good word, it gives that word
abbrev pub IsFirstWord : Problem → ℕ → FirstWord → Type 0
IsFirstWord P budget (Found word) = IsOutcome P budget word outcome.Found
IsFirstWord P budget NoWord = IsOutcome P budget [] outcome.NoWord
IsFirstWord P budget (Spent visited) = IsOutcome P budget [] (outcome.Spent visited)
