-- How far a search over words has come.
use Rattle.std.specs.Prelude.{◌≡◌, ℕ, List, ◌∷◌, [], ◌++◌, length}
use Rattle.osgi_world.specs.Effort.{IsBefore, IsFalling}
use Rattle.osgi_world.specs.Hopeless.{IsHopeless}
use Rattle.osgi_world.specs.Lists.{In}
use Rattle.osgi_world.specs.ChoiceWords.{IsComplete, IsWord}
use Rattle.osgi_world.specs.declared.problem.Problem.{Problem}

-- a complete word that is not hopeless
abbrev pub IsHopefulEnd : Problem → List ℕ → Type 0
IsHopefulEnd P w = IsWord P w × IsComplete P w × ¬ IsHopeless P w

-- K is the words before the place f that are not hopeless, and none of them is complete
pub record Upto (P : Problem) (f : List ℕ) (K : List (List ℕ)) : Type 0 where
  pub listed : (u : List ℕ) → In u K → IsWord P u × ¬ IsHopeless P u × IsBefore u f
  pub whole : (u : List ℕ) → IsWord P u → ¬ IsHopeless P u → IsBefore u f → In u K
  pub none : (u : List ℕ) → IsHopefulEnd P u → ¬ IsBefore u f
  pub falling : IsFalling K

-- it stands at the word x: n words that are not hopeless are before x, and none of them is complete
pub record IsAt (P : Problem) (x : List ℕ) (n : ℕ) : Type 0 where
  pub word : IsWord P x
  pub hopeful : ¬ IsHopeless P x
  pub earlier : List (List ℕ)
  pub upto : Upto P x earlier
  pub number : length earlier ≡ n

-- it has tried the values of w below v: n words that are not hopeless are before w with v, and none of them is complete
pub record HasTried (P : Problem) (w : List ℕ) (v : ℕ) (n : ℕ) : Type 0 where
  pub word : IsWord P w
  pub hopeful : ¬ IsHopeless P w
  pub earlier : List (List ℕ)
  pub upto : Upto P (w ++ v ∷ []) earlier
  pub number : length earlier ≡ n
