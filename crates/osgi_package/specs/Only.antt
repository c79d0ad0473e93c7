-- What is the only one of which something holds.
use Rattle.std.specs.Prelude.{◌≡◌}

-- it holds of this, and of nothing else
pub record IsOnly {A : Type 0} (P : A → Type 0) (answer : A) : Type 0 where
  pub holds : P answer
  pub only : (other : A) → P other → other ≡ answer
