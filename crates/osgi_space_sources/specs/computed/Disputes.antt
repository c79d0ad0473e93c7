-- Packages of which ends of wires may have different sources.
use Rattle.std.specs.Prelude.{◌≡◌, ℕ, ◌⊎◌, Contains, IsTrue, List, Some}
use Rattle.std.specs.BTreeSet.{IsEmpty, contains}
use Rattle.std.specs.Ordering.{nat_cmp}
use Rattle.osgi_base.specs.NumberMaps.{value_at}
use Rattle.osgi_space_rows.specs.Rows.{RowLists, Imports, Requires}
use Rattle.osgi_space_sources.specs.computed.Clashes.{HasWires}
use Rattle.osgi_space_sources.specs.computed.Marks.{IsMarked}
use Rattle.osgi_space_sources.specs.computed.Pairs.{IsUse}
use Rattle.osgi_space_sources.specs.computed.RowSources.{HasExport}
use Rattle.osgi_space_sources.specs.declared.disputed.Disputed.{Disputed}
use Rattle.osgi_space_sources.specs.declared.disputed.Possible.{Possible}
use Rattle.osgi_space_sources.specs.declared.given.Given.{Given}

-- x has a wire for a package or a required bundle, or one goes to it
abbrev pub IsWireEnd : RowLists → ℕ → Type 0
IsWireEnd R x = HasWires R x ⊎ ((r p : ℕ) × Imports R r p x) ⊎ ((r : ℕ) × Requires R r x)

-- the package is disputed
abbrev pub IsDisputed : Disputed → ℕ → Type 0
IsDisputed disputed p = IsTrue (contains nat_cmp disputed.packages p)

-- no package is disputed
abbrev pub HasNoPackage : Disputed → Type 0
HasNoPackage disputed = IsEmpty disputed.packages

-- the revision is noted as an end
abbrev pub IsNotedEnd : Disputed → ℕ → Type 0
IsNotedEnd disputed x = IsMarked disputed.ends x

-- x may be a source of p for E: a wire for p goes to x, or x is one of E and its payload exports p
abbrev pub IsPossible : RowLists → (ℕ → Type 0) → ℕ → ℕ → Type 0
IsPossible R E p x = ((r : ℕ) × Imports R r p x) ⊎ E x × HasExport R x p

-- p has a first source, which is x, or p is disputed
abbrev pub IsNoted : Possible → ℕ → ℕ → Type 0
IsNoted possible p x = (first : ℕ) × (value_at possible.first p ≡ Some first) × ((x ≡ first) ⊎ IsDisputed possible.disputed p)

-- each source that was noted still is
abbrev pub HoldsAll : Possible → Possible → Type 0
HoldsAll old new = (p x : ℕ) → IsNoted old p x → IsNoted new p x

-- the same revisions are noted as ends
abbrev pub HasSameEnds : Possible → Possible → Type 0
HasSameEnds old new = new.disputed.ends ≡ old.disputed.ends

-- each source and each end that was noted still is, and of each end that is new the exports are
pub record NotesMore (R : RowLists) (old new : Possible) : Type 0 where
  pub sources : HoldsAll old new
  pub ends : (x : ℕ) → IsNotedEnd old.disputed x → IsNotedEnd new.disputed x
  pub exports : (x : ℕ) → IsNotedEnd new.disputed x → IsNotedEnd old.disputed x ⊎ ((p : ℕ) → HasExport R x p → IsNoted new p x)

-- each end of a wire is noted, and each possible source for the ends that are noted
pub record AreNoted (R : RowLists) (possible : Possible) : Type 0 where
  pub ends : (x : ℕ) → IsWireEnd R x → IsNotedEnd possible.disputed x
  pub sources : (p x : ℕ) → IsPossible R (IsNotedEnd possible.disputed) p x → IsNoted possible p x

-- each end of a wire is noted as one, and of a package that is not disputed the ends that are noted have at most one possible source
pub record AreDisputed (R : RowLists) (disputed : Disputed) : Type 0 where
  pub ends : (x : ℕ) → IsWireEnd R x → IsNotedEnd disputed x
  pub alike : (p x y : ℕ) → IsPossible R (IsNotedEnd disputed) p x → IsPossible R (IsNotedEnd disputed) p y → (x ≡ y) ⊎ IsDisputed disputed p

-- of each of these packages all is found that its exports use, by those of A from which one of E may have it
abbrev pub AreFollowed : RowLists → (ℕ → Type 0) → (ℕ → Type 0) → List ℕ → List Given → Type 0
AreFollowed R A E followed found = (p x : ℕ) → Contains followed p → IsPossible R E p x → A x → (g : Given) → IsUse R x p g → Contains found g
