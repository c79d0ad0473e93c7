-- What a list has, and what it gains.
use Rattle.std.specs.Prelude.{◌≡◌, ◌⊎◌, ◌↔◌, ◌++◌, List, Contains}

-- the new list is the old one with more after it: what Q holds of, and nothing else that is not there already
pub record Adds {T : Type 0} (Q : T → Type 0) (old new : List T) : Type 0 where
  pub grown : (more : List T) × (new ≡ old ++ more)
  pub exact : (x : T) → Contains new x ↔ (Contains old x ⊎ Q x)

-- these are all of which Q holds, and no others
abbrev pub AreExactly : {T : Type 0} → (T → Type 0) → List T → Type 0
AreExactly {T} Q list = (x : T) → Contains list x ↔ Q x
