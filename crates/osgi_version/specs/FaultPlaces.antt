-- Places of faults in a text: the longest prefix that begins some readable text, and the first number that is too large.
use Rattle.std.specs.Prelude.{ℕ, ◌≡◌, ◌<◌, ◌≤◌, List, [], ◌∷◌, ◌++◌, length, take}
use Rattle.osgi_version.specs.Bytes.{Each, IsDigit}

-- the longest prefix of `text` that begins some readable text has `at` bytes
pub record IsLongestPrefix (Readable : List ℕ → Type 0) (text : List ℕ) (at : ℕ) : Type 0 where
  pub within : at ≤ length text
  pub begins : (rest : List ℕ) × Readable (take at text ++ rest)
  pub longest : (k : ℕ) (rest : List ℕ) → at < k → k ≤ length text → Readable (take k text ++ rest) → ⊥

-- at `at` begins the first number of `text` that is too large: what stands before it begins some readable text and
-- ends with no digit, and no readable text begins with that and the digits which follow
pub record IsFirstTooBig (Readable : List ℕ → Type 0) (text : List ℕ) (at : ℕ) : Type 0 where
  pub prefix : List ℕ
  pub digits : List ℕ
  pub rest : List ℕ
  pub parts : text ≡ prefix ++ digits ++ rest
  pub place : length prefix ≡ at
  pub are_digits : Each IsDigit digits
  pub apart : (before : List ℕ) (b : ℕ) → prefix ≡ before ++ b ∷ [] → IsDigit b → ⊥
  pub begins : (more : List ℕ) × Readable (prefix ++ more)
  pub too_big : (more : List ℕ) → Readable (prefix ++ digits ++ more) → ⊥
