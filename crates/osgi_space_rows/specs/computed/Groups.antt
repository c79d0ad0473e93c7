-- What values by a key hold.
use Rattle.std.specs.Prelude.{◌≡◌, ◌-◌, cond, List, [], ◌∷◌, ◌++◌, length, take}
use Rattle.std.specs.BTreeMap.{get, is_at}
use Rattle.std.specs.Option.{option_map_or}
use Rattle.std.specs.declared.cmp.Ordering.{Ordering}
use Rattle.osgi_space_rows.specs.declared.grouped.Grouped.{Grouped}

-- the values of the key
abbrev pub values_of : {K V : Type 0} → (K → K → Ordering) → Grouped K V → K → List V
values_of cmp grouped key = option_map_or (λ values. values.items) (get cmp grouped.groups key) []

-- the list without its last item
abbrev pub front : {V : Type 0} → List V → List V
front xs = take (length xs - 1) xs

-- the value is added to those of the key
abbrev pub Adds : {K V : Type 0} → (K → K → Ordering) → Grouped K V → Grouped K V → K → V → Type 0
Adds {K} cmp old new key value = (k : K) → values_of cmp new k ≡ values_of cmp old k ++ cond (is_at (cmp key) k) (value ∷ []) []

-- the last value of the key is taken off
abbrev pub TakesLast : {K V : Type 0} → (K → K → Ordering) → Grouped K V → Grouped K V → K → Type 0
TakesLast {K} cmp old new key = (k : K) → values_of cmp new k ≡ cond (is_at (cmp key) k) (front (values_of cmp old k)) (values_of cmp old k)

abbrev pub HoldsSame : {K V : Type 0} → (K → K → Ordering) → Grouped K V → Grouped K V → Type 0
HoldsSame {K} cmp old new = (k : K) → values_of cmp new k ≡ values_of cmp old k
