-- The first of the pairs that clash.
use Rattle.std.specs.Prelude.{◌≡◌, ℕ, ◌<◌, ◌⊎◌, List, length, Any, Contains, Option, None, Some}
use Rattle.osgi_space_rows.specs.Names.{name_numbered}
use Rattle.osgi_space_rows.specs.Rows.{RowLists}
use Rattle.osgi_space_sources.specs.computed.Clashes.{IsClash}
use Rattle.osgi_space_sources.specs.computed.Pairs.{IsImplied}
use Rattle.osgi_space_sources.specs.declared.given.Given.{Given}
use Rattle.osgi_space.specs.Violations.{IsBelow}

-- by the package's name, then by the revision that sees it
abbrev pub IsBefore : List (List ℕ) → Given → Given → Type 0
IsBefore names a b = IsBelow (name_numbered names a.package) (name_numbered names b.package) ⊎ (name_numbered names a.package ≡ name_numbered names b.package) × (a.source < b.source)

-- of those that clash none comes before this one; or none clashes
abbrev pub IsFirstClash : RowLists → List (List ℕ) → ℕ → List Given → Option Given → Type 0
IsFirstClash R names r pairs None = ¬ Any (IsClash R r) pairs
IsFirstClash R names r pairs (Some f) = Contains pairs f × IsClash R r f × ((g : Given) → Contains pairs g → IsClash R r g → ¬ IsBefore names g f)

-- of the implied constraints of r that come from revisions of A alone, and are violated, none comes before this one; or there is
-- none
abbrev pub IsFirstImplied : RowLists → List (List ℕ) → (ℕ → Type 0) → ℕ → Option Given → Type 0
IsFirstImplied R names A r None = (g : Given) → IsImplied R A r g → ¬ IsClash R r g
IsFirstImplied R names A r (Some f) = (f.package < length names) × IsImplied R A r f × IsClash R r f × ((g : Given) → IsImplied R A r g → IsClash R r g → ¬ IsBefore names g f)
