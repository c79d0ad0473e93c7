-- What a counter promises as a machine. Which totals it answers is not among it, and left to the tests.
use Rattle.std.specs.Prelude.{◌≡◌, ℕ, ◌≤◌, Bool, true, false, List, length}
use Rattle.osgi_hall.specs.declared.entry.Entry.{Entry}
use Rattle.cases_hall.specs.declared.counter.Answer.{Answer}
use Rattle.cases_hall.specs.declared.counter.Answer.TheVariants.{Total, Full}

-- totals are recorded
abbrev pub is_total : Answer → Bool
is_total (Total _) = true
is_total Full = false

-- a counter makes at most as many entries as its limit
abbrev pub CanMake : ℕ → List (Entry ℕ Answer) → Type 0
CanMake limit history = length history ≤ limit

-- it is full where it has as many
abbrev pub GivesTotal : ℕ → List (Entry ℕ Answer) → ℕ → Answer → Type 0
GivesTotal limit history op reply = length history ≡ limit

-- a hint is how many entries it had
abbrev pub HintsCount : ℕ → List (Entry ℕ Answer) → ℕ → Type 0
HintsCount limit history count = length history ≡ count

-- a view is how many entries it has
abbrev pub TellsCount : ℕ → List (Entry ℕ Answer) → Unit {0} → ℕ → Type 0
TellsCount limit history ask count = length history ≡ count
