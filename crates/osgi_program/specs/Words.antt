-- The words of the command line, and what they ask for.
use Rattle.std.specs.Prelude.{ℕ, ◌≡◌, ◌≤◌, ◌⊎◌, List, [], ◌∷◌, ◌++◌, Option, None, Some, length, map, filter, codes}
use Rattle.std.specs.Str.{bytes_eq}
use Rattle.std.specs.Str.Parse.{IsNumeral, digits_value}
use Rattle.osgi_ops.specs.Settings.{Bounds, standard_bounds}
use Rattle.osgi_ops.specs.declared.limits.TheConstants.{MAX_BUDGET, MAX_HANDINGS}

-- ---- options

-- the word is one to ten digits of a number from 1 to this one
pub record IsNumberUpTo (greatest : ℕ) (word : List ℕ) (number : ℕ) : Type 0 where
  pub numeral : IsNumeral 10 word
  pub short : length word ≤ 10
  pub is : number ≡ digits_value 10 word
  pub least : 1 ≤ number
  pub most : number ≤ greatest

-- the words begin with an option of this name and with the word of its number, and these stand after it: name and number are two
-- words, or one with `=` between them
abbrev pub IsOption : List ℕ → List (List ℕ) → List ℕ → List (List ℕ) → Type 0
IsOption name words word rest = (words ≡ name ∷ word ∷ rest) ⊎ (words ≡ (name ++ codes "=" ++ word) ∷ rest)

-- and its number is one from 1 to the greatest
abbrev pub GivesNumber : List ℕ → ℕ → List (List ℕ) → ℕ → List (List ℕ) → Type 0
GivesNumber name greatest words number rest = (word : List ℕ) × IsOption name words word rest × IsNumberUpTo greatest word number

-- an option that there is: its name, and the greatest number that may stand behind it; none where it has no number
pub record Offered : Type 0 where
  pub name : List ℕ
  pub greatest : Option ℕ

-- an option that is given: its name, and its number, where it has one
pub record GivenOption : Type 0 where
  pub name : List ℕ
  pub number : Option ℕ

-- an option without a number is its name alone
abbrev pub IsGivenSo : Option ℕ → Option ℕ → List ℕ → List (List ℕ) → List (List ℕ) → Type 0
IsGivenSo None None name words rest = words ≡ name ∷ rest
IsGivenSo (Some greatest) (Some number) name words rest = GivesNumber name greatest words number rest
IsGivenSo _ _ name words rest = ⊥

-- the words begin with one of the options that there are, given so, and these stand after it
abbrev pub IsOneOf : List Offered → List (List ℕ) → GivenOption → List (List ℕ) → Type 0
IsOneOf [] words given rest = ⊥
IsOneOf (offered ∷ others) words given rest = ((given.name ≡ offered.name) × IsGivenSo offered.greatest given.number offered.name words rest) ⊎ IsOneOf others words given rest

-- the options of a run
abbrev pub run_options : List Offered
run_options = record { name = codes "--budget"; greatest = Some MAX_BUDGET } ∷ record { name = codes "--handings"; greatest = Some MAX_HANDINGS } ∷ []

-- the words are options, given so, one after another in any order
pub data AreOptions (all : List Offered) : List (List ℕ) → List GivenOption → Type 0 where
  none : AreOptions all [] []
  leads : {words rest : List (List ℕ)} {first : GivenOption} {more : List GivenOption} → IsOneOf all words first rest → AreOptions all rest more → AreOptions all words (first ∷ more)

-- the numbers that the options of this name give
abbrev pub numbers_of : List ℕ → List GivenOption → List (Option ℕ)
numbers_of name given = map (λ (g : GivenOption). g.number) (filter (λ (g : GivenOption). bytes_eq g.name name) given)

-- the option is given at most once, and its number counts; where it is not given, the standard one does
abbrev pub IsChosen : ℕ → List (Option ℕ) → ℕ → Type 0
IsChosen standard [] number = number ≡ standard
IsChosen standard (given ∷ []) number = given ≡ Some number
IsChosen standard (given ∷ other ∷ more) number = ⊥

-- ---- what is asked for

-- `run`, and after it at most one budget for each resolve, and at most one limit of handings: these are the limits of the run
pub record AsksRun (words : List (List ℕ)) (bounds : Bounds) : Type 0 where
  pub options : List (List ℕ)
  pub given : List GivenOption
  pub run : words ≡ codes "run" ∷ options
  pub are : AreOptions run_options options given
  pub one_budget : IsChosen standard_bounds.budget (numbers_of (codes "--budget") given) bounds.budget
  pub one_limit : IsChosen standard_bounds.handings (numbers_of (codes "--handings") given) bounds.handings
  pub entries : bounds.entries ≡ standard_bounds.entries

-- what words may ask for
pub data Request : Type 0 where
  -- a run of the input's lines under these limits, and the text of what they answer
  replies : Bounds → Request

-- the limits that it sets
abbrev pub bounds_in : Request → Bounds
bounds_in (replies bounds) = bounds

-- the words ask for this
pub data Asks (words : List (List ℕ)) : Request → Type 0 where
  for_replies : {bounds : Bounds} → AsksRun words bounds → Asks words (replies bounds)
