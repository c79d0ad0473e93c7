-- What a machine owes that reads byte by byte. Where the texts of a grammar end and where they have faults follows from
-- this once for all machines. No public promise about a text speaks of this.
use Rattle.std.specs.Prelude.{ℕ, Bool, true, ◌≡◌, ◌⊎◌, List, ◌++◌, Option, Some}
use Rattle.std.specs.Option.{IfSome}
use Rattle.osgi_version.specs.Bytes.{IsDigit}
use Rattle.osgi_version.specs.computed.Run.{run, advance}

-- `Spelled` are the texts of the grammar, and `Readable` those of them that keep its limits, as the size of a number
pub record IsReader (S : Type 0) (fine : S → Bool) (step : S → ℕ → Option S) (may_end : S → Bool) (start : S) (Spelled Readable : List ℕ → Type 0) : Type 0 where
  -- complete: a spelled text runs to a state at which a text may end
  pub spelled_runs : (text : List ℕ) → Spelled text → (s : S) × (run step start text ≡ Some s) × (may_end s ≡ true)
  -- sound: a text that runs to such a state is spelled
  pub end_spelled : (text : List ℕ) (s : S) → run step start text ≡ Some s → may_end s ≡ true → Spelled text
  -- a readable text runs through fine states alone
  pub readable_runs : (text : List ℕ) → Readable text → (s : S) × (run (advance fine step true) start text ≡ Some s)
  -- what ran through fine states can be completed
  pub alive : (p : List ℕ) (s : S) → run (advance fine step true) start p ≡ Some s → (rest : List ℕ) × Readable (p ++ rest)
  -- only a digit leads from a fine state to one that is not
  pub by_digit : (s : S) (b : ℕ) → IfSome (step s b) (λ t. fine s ≡ true → (fine t ≡ true) ⊎ IsDigit b)
  pub start_fine : fine start ≡ true
