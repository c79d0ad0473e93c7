-- What is true of the index of the known revisions.
use Rattle.std.specs.Prelude.{ℕ, ◌≡◌, ◌==◌, List, find, map}
use Rattle.std.specs.Borrow.{Bor}
use Rattle.std.specs.BTreeMap.{BTreeMap, get}
use Rattle.std.specs.List.Sorted.{IsStrictlyIncreasing}
use Rattle.std.specs.Option.{option_copied}
use Rattle.std.specs.Ordering.{nat_cmp}
use Rattle.osgi_world.specs.declared.world.Known.{Known}

-- under each id stands the first revision with that id, and under others none
abbrev pub IsIndexOf : BTreeMap ℕ (Bor Known) → List Known → Type 0
IsIndexOf index K = (id : ℕ) → option_copied (get nat_cmp index id) ≡ find (λ (k : Known). k.id.0 == id) K

abbrev pub revision_number : Known → ℕ
revision_number k = k.id.0

-- the ids rise from one revision to the next
abbrev pub AreRising : List Known → Type 0
AreRising K = IsStrictlyIncreasing (map revision_number K)
