-- What reads and writes do to bytes that are told.
use Rattle.std.specs.Prelude.{ℕ, ◌≡◌, ◌≤◌, ◌↔◌, ◌⊎◌, List, [], length, take, Option, IfSome, Result, IfOk, MatchResult}
use Rattle.std.specs.Io.KnownBytes.{Appends}

-- a read of told bytes gives none exactly where the buffer is empty or none are left
abbrev pub GivesNoneAtEnd : {E : Type 0} → Option (List ℕ) → Result ℕ E → List ℕ → Type 0
GivesNoneAtEnd left result buf = IfSome left (λ rest. IfOk result (λ n. (n ≡ 0) ↔ ((length buf ≡ 0) ⊎ (rest ≡ []))))

-- told bytes grew by all of these on `Ok`, and by the first k of them on `Err`
abbrev pub WritesWhole : {T E : Type 0} → Option (List ℕ) → Option (List ℕ) → Result T E → List ℕ → Type 0
WritesWhole before after result bytes = MatchResult result (λ _. Appends before after bytes) (λ _. (k : ℕ) × (k ≤ length bytes) × Appends before after (take k bytes))
