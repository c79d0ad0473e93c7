-- What values by a number hold.
use Rattle.std.specs.Prelude.{◌≡◌, ℕ, ◌==◌, cond, List, [], ◌∷◌, ◌++◌, filter}
use Rattle.std.specs.Option.{option_map_or}
use Rattle.osgi_base.specs.NumberMaps.{value_at}
use Rattle.osgi_space_rows.specs.computed.Groups.{front}
use Rattle.osgi_space_rows.specs.declared.number_groups.NumberGroups.{NumberGroups}

-- the values of the number
abbrev pub values_at : {V : Type 0} → NumberGroups V → ℕ → List V
values_at groups number = option_map_or (λ values. values.items) (value_at groups.groups number) []

-- the value is added to those of the number
abbrev pub Adds : {V : Type 0} → NumberGroups V → NumberGroups V → ℕ → V → Type 0
Adds old new number value = (n : ℕ) → values_at new n ≡ values_at old n ++ cond (number == n) (value ∷ []) []

-- the last value of the number is taken off
abbrev pub TakesLast : {V : Type 0} → NumberGroups V → NumberGroups V → ℕ → Type 0
TakesLast old new number = (n : ℕ) → values_at new n ≡ cond (number == n) (front (values_at old n)) (values_at old n)

abbrev pub HoldsSame : {V : Type 0} → NumberGroups V → NumberGroups V → Type 0
HoldsSame old new = (n : ℕ) → values_at new n ≡ values_at old n

-- the groups are those of these rows
abbrev pub AreGroupsOf : {V : Type 0} → (V → ℕ) → NumberGroups V → List V → Type 0
AreGroupsOf number_of groups rows = (n : ℕ) → values_at groups n ≡ filter (λ row. number_of row == n) rows
