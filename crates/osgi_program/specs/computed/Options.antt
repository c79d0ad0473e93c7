-- Options of a run as they are read, one after another. No public promise speaks of these.
use Rattle.std.specs.Prelude.{ℕ, ◌≡◌, List, [], ◌∷◌, ◌++◌, Option, None, Some, codes}
use Rattle.osgi_ops.specs.Settings.{Bounds, standard_bounds}
use Rattle.osgi_ops.specs.declared.limits.TheConstants.{MAX_BUDGET, MAX_HANDINGS}
use Rattle.osgi_program.specs.Words.{AreOptions, GivenOption, IsChosen, numbers_of, run_options}
use Rattle.osgi_program.specs.declared.words.RunOption.{RunOption}
use Rattle.osgi_program.specs.declared.words.RunOption.TheVariants.{Budget, Handings}

-- the option, with this number
abbrev pub given_as : RunOption → ℕ → GivenOption
given_as Budget number = record { name = codes "--budget"; number = Some number }
given_as Handings number = record { name = codes "--handings"; number = Some number }

-- the greatest number that may stand behind it
abbrev pub greatest_of : RunOption → ℕ
greatest_of Budget = MAX_BUDGET
greatest_of Handings = MAX_HANDINGS

-- which of the numbers that were given is its own
abbrev pub so_far : RunOption → Option ℕ → Option ℕ → Option ℕ
so_far Budget budget handings = budget
so_far Handings budget handings = handings

-- the numbers with that of one more option
abbrev pub budget_with : RunOption → ℕ → Option ℕ → Option ℕ
budget_with Budget number budget = Some number
budget_with Handings number budget = budget

abbrev pub handings_with : RunOption → ℕ → Option ℕ → Option ℕ
handings_with Budget number handings = handings
handings_with Handings number handings = Some number

-- a number that was given, as one of those that an option gives
abbrev pub held : Option ℕ → List (Option ℕ)
held None = []
held (Some number) = Some number ∷ []

-- after the options that gave these, the words are options too, and all of them together give these limits
pub record AsksMore (budget handings : Option ℕ) (words : List (List ℕ)) (bounds : Bounds) : Type 0 where
  pub given : List GivenOption
  pub are : AreOptions run_options words given
  pub one_budget : IsChosen standard_bounds.budget (held budget ++ numbers_of (codes "--budget") given) bounds.budget
  pub one_limit : IsChosen standard_bounds.handings (held handings ++ numbers_of (codes "--handings") given) bounds.handings
  pub entries : bounds.entries ≡ standard_bounds.entries
