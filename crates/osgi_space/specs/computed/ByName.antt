-- Sources by the names of packages.
use Rattle.std.specs.Prelude.{◌≡◌, ◌↔◌, ◌⊎◌, ℕ, List, IsTrue, Some, map}
use Rattle.std.specs.BTreeMap.{BTreeMap, get}
use Rattle.std.specs.BTreeSet.{BTreeSet, contains}
use Rattle.std.specs.Option.{ForSome}
use Rattle.std.specs.Ordering.{nat_cmp}
use Rattle.osgi_base.specs.computed.Texts.{text_cmp}
use Rattle.osgi_space_rows.specs.Agree.{id}
use Rattle.osgi_space.specs.declared.seen_packages.PackageSources.{PackageSources}

-- x stands under p
abbrev pub HasSource : BTreeMap (List ℕ) (BTreeSet ℕ) → List ℕ → ℕ → Type 0
HasSource space p x = (set : BTreeSet ℕ) × (get text_cmp space p ≡ Some set) × IsTrue (contains nat_cmp set x)

-- under each package stands a source
abbrev pub IsFilled : BTreeMap (List ℕ) (BTreeSet ℕ) → Type 0
IsFilled space = (p : List ℕ) → ForSome (get text_cmp space p) (λ set. (x : ℕ) × IsTrue (contains nat_cmp set x))

-- one source more
abbrev pub AddsSource : BTreeMap (List ℕ) (BTreeSet ℕ) → BTreeMap (List ℕ) (BTreeSet ℕ) → List ℕ → ℕ → Type 0
AddsSource old new name source = (p : List ℕ) (x : ℕ) → HasSource new p x ↔ (HasSource old p x ⊎ (name ≡ p) × (source ≡ x))

-- the package with its sources as revisions
abbrev pub as_entry : List ℕ × BTreeSet ℕ → PackageSources
as_entry e = record { «package» = e.0; sources = map id e.1.keys }
