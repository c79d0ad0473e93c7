-- The order of words, the first good one, and how many words come before it.
use Rattle.std.specs.Prelude.{◌≡◌, ℕ, ◌+◌, ◌<◌, ◌≤◌, ◌⊎◌, ◌↔◌, List, [], ◌∷◌, length}
use Rattle.osgi_base.specs.declared.ids.BundleId.{BundleId}
use Rattle.osgi_world.specs.Candidates.{IsProblem}
use Rattle.osgi_world.specs.Hopeless.{IsHopeless}
use Rattle.osgi_world.specs.Lists.{In}
use Rattle.osgi_world.specs.Lookups.{IsCurrentOf}
use Rattle.osgi_world.specs.ChoiceWords.{IsWord, IsGood}
use Rattle.osgi_world.specs.declared.problem.Problem.{Problem}
use Rattle.osgi_world.specs.declared.world.World.{World}

-- number by number; a prefix comes before its extensions
abbrev pub IsBefore : List ℕ → List ℕ → Type 0
IsBefore [] [] = ⊥
IsBefore [] (y ∷ ys) = Unit {0}
IsBefore (x ∷ xs) [] = ⊥
IsBefore (x ∷ xs) (y ∷ ys) = (x < y) ⊎ (x ≡ y) × IsBefore xs ys

-- the least good word
pub record IsFirst (P : Problem) (w : List ℕ) : Type 0 where
  pub good : IsGood P w
  pub least : (u : List ℕ) → IsGood P u → ¬ IsBefore u w

-- a word that is not hopeless and comes before every good one
pub record IsCounted (P : Problem) (w : List ℕ) : Type 0 where
  pub word : IsWord P w
  pub hopeful : ¬ IsHopeless P w
  pub before : (u : List ℕ) → IsGood P u → IsBefore w u

-- each word comes after all that stand later in the list
abbrev pub IsFalling : List (List ℕ) → Type 0
IsFalling [] = Unit {0}
IsFalling (x ∷ L) = ((u : List ℕ) → In u L → IsBefore u x) × IsFalling L

-- n words are counted
abbrev pub IsEffort : Problem → ℕ → Type 0
IsEffort P n = (L : List (List ℕ)) × IsFalling L × ((w : List ℕ) → In w L ↔ IsCounted P w) × (length L ≡ n)

-- the effort is at most n
abbrev pub IsEffortWithin : Problem → ℕ → Type 0
IsEffortWithin P n = (m : ℕ) × (m ≤ n) × IsEffort P m

-- the effort is above n: more than n words are counted
abbrev pub IsEffortAbove : Problem → ℕ → Type 0
IsEffortAbove P n = (L : List (List ℕ)) × IsFalling L × ((w : List ℕ) → In w L → IsCounted P w) × (length L ≡ n + 1)

-- P is a problem of resolving the bundle in the world
pub record IsResolveOf (W : World) (b : BundleId) (P : Problem) : Type 0 where
  pub world : P.world ≡ W
  pub root : IsCurrentOf W.known b P.root
  pub problem : IsProblem P
