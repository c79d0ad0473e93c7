-- What is said of each item of a list, and of a collection to which items of a list add.
use Rattle.std.specs.Prelude.{◌≡◌, ◌≢◌, ◌⊎◌, ◌↔◌, Bool, cond, IsTrue, List, None, Some}
use Rattle.std.specs.BTreeMap.{BTreeMap, get, is_at}
use Rattle.std.specs.BTreeSet.{BTreeSet, contains}
use Rattle.std.specs.declared.cmp.Ordering.{Ordering}
use Rattle.std.specs.declared.cmp.Ordering.TheVariants.{Equal}
use Rattle.osgi_world.specs.Lists.{In}

-- it holds of each item
abbrev pub Each : {X : Type 0} → (X → Type 0) → List X → Type 0
Each {X} P xs = (x : X) → In x xs → P x

-- it holds of some item
abbrev pub AnyOf : {X : Type 0} → (X → Type 0) → List X → Type 0
AnyOf {X} P xs = (x : X) × In x xs × P x

-- what is there now is what was there, and what some item adds
abbrev pub Grows : {X Y : Type 0} → (Y → Type 0) → (Y → Type 0) → (X → Y → Type 0) → List X → Type 0
Grows {X} {Y} old now P xs = (y : Y) → now y ↔ (old y ⊎ AnyOf (λ x. P x y) xs)

-- the lists have the same items
abbrev pub HaveSame : {X : Type 0} → List X → List X → Type 0
HaveSame {X} xs ys = (x : X) → In x xs ↔ In x ys

-- an item is equal to x by the order
abbrev pub HasEqual : {X : Type 0} → (X → X → Ordering) → List X → X → Type 0
HasEqual cmp xs x = AnyOf (λ y. cmp y x ≡ Equal) xs

abbrev pub Nothing : {Y : Type 0} → Y → Type 0
Nothing y = ⊥

-- the set has the key
abbrev pub Has : {Y : Type 0} → (Y → Y → Ordering) → BTreeSet Y → Y → Type 0
Has cmp set key = IsTrue (contains cmp set key)

-- ---- maps, by their entries

-- the map has the entry
abbrev pub HasEntry : {A B : Type 0} → (A → A → Ordering) → BTreeMap A B → A × B → Type 0
HasEntry cmp map e = get cmp map e.0 ≡ Some e.1

-- no key has two values
abbrev pub IsFunction : {A B : Type 0} → (A × B → Type 0) → Type 0
IsFunction {A} {B} H = (k : A) (x y : B) → H (k, x) → H (k, y) → x ≡ y

-- the entries Q are added to those that were there; where that would give a key two values, the answer is no
pub record Extends {A B : Type 0} (ok : Bool) (old now Q : A × B → Type 0) : Type 0 where
  pub added : IsTrue ok → (e : A × B) → now e ↔ (old e ⊎ Q e)
  pub refused : ¬ IsTrue ok → ¬ IsFunction (λ e. old e ⊎ Q e)

-- the value is put under the key where none stands there, and the answer is whether no other does
pub record PutsOne {A B : Type 0} (cmp : A → A → Ordering) (alone : Bool) (old now : BTreeMap A B) (key : A) (value : B) : Type 0 where
  pub put : IsTrue alone → (get cmp old key ≡ None) × ((q : A) → get cmp now q ≡ cond (is_at (cmp key) q) (Some value) (get cmp old q)) ⊎ (get cmp old key ≡ Some value) × ((q : A) → get cmp now q ≡ get cmp old q)
  pub other : ¬ IsTrue alone → (x : B) × (get cmp old key ≡ Some x) × (x ≢ value)
