-- Numbers that are marked.
use Rattle.std.specs.Prelude.{◌≡◌, ℕ, true, Some}
use Rattle.osgi_base.specs.NumberMaps.{value_at}
use Rattle.osgi_space_sources.specs.declared.number_set.NumberSet.{NumberSet}

-- the number was put into the set
abbrev pub IsMarked : NumberSet → ℕ → Type 0
IsMarked set n = value_at set.marks n ≡ Some true
