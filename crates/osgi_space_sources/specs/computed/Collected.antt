-- What was found, in a list and in a set.
use Rattle.std.specs.Prelude.{◌<◌, ◌↔◌, List, length, Contains, IsTrue}
use Rattle.std.specs.BTreeSet.{BTreeSet, contains}
use Rattle.std.specs.declared.cmp.Ordering.{Ordering}
use Rattle.osgi_space_sources.specs.declared.found.TheConstants.{FEW}

-- the set has the values of which Q holds
abbrev pub Has : {T : Type 0} → (T → T → Ordering) → BTreeSet T → (T → Type 0) → Type 0
Has {T} cmp set Q = (x : T) → IsTrue (contains cmp set x) ↔ Q x

-- once the list has more than a few values, the set has the same ones; of a shorter list's set nothing is said
abbrev pub IsCollected : {T : Type 0} → (T → T → Ordering) → BTreeSet T → List T → Type 0
IsCollected cmp set list = FEW < length list → Has cmp set (Contains list)
