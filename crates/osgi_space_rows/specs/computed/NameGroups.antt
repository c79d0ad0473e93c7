-- What values by a revision and a name hold.
use Rattle.std.specs.Prelude.{◌≡◌, ℕ, ◌==◌, ◌&&◌, cond, List, [], ◌∷◌, ◌++◌, filter}
use Rattle.std.specs.Option.{option_map_or}
use Rattle.std.specs.Ordering.{nat_cmp}
use Rattle.osgi_base.specs.NumberMaps.{value_at}
use Rattle.osgi_space_rows.specs.computed.Groups.{front, values_of}
use Rattle.osgi_space_rows.specs.declared.name_groups.NameGroups.{NameGroups}

-- the values of the revision and the name
abbrev pub values_at : {V : Type 0} → NameGroups V → ℕ → ℕ → List V
values_at groups revision name = option_map_or (λ own. values_of nat_cmp own name) (value_at groups.revisions revision) []

-- the value is added to those of the revision and the name
abbrev pub Adds : {V : Type 0} → NameGroups V → NameGroups V → ℕ → ℕ → V → Type 0
Adds old new revision name value = (r n : ℕ) → values_at new r n ≡ values_at old r n ++ cond ((revision == r) && (name == n)) (value ∷ []) []

-- the last value of the revision and the name is taken off
abbrev pub TakesLast : {V : Type 0} → NameGroups V → NameGroups V → ℕ → ℕ → Type 0
TakesLast old new revision name = (r n : ℕ) → values_at new r n ≡ cond ((revision == r) && (name == n)) (front (values_at old r n)) (values_at old r n)

abbrev pub HoldsSame : {V : Type 0} → NameGroups V → NameGroups V → Type 0
HoldsSame old new = (r n : ℕ) → values_at new r n ≡ values_at old r n

-- the groups are those of these rows
abbrev pub AreGroupsOf : {V : Type 0} → (V → ℕ) → (V → ℕ) → NameGroups V → List V → Type 0
AreGroupsOf revision_of name_of groups rows = (r n : ℕ) → values_at groups r n ≡ filter (λ row. (revision_of row == r) && (name_of row == n)) rows
