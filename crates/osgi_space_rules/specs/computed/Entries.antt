-- What wires and revisions enter into maps.
use Rattle.std.specs.Prelude.{◌≡◌, ◌⊎◌, ◌↔◌, ℕ, IsTrue, List, Some}
use Rattle.std.specs.BTreeMap.{BTreeMap, get}
use Rattle.osgi_base.specs.declared.ids.RevisionId.{RevisionId}
use Rattle.osgi_space_rules.specs.computed.Growing.{AnyOf}
use Rattle.osgi_space_rules.specs.computed.Keys.{package_at, package_cmp}
use Rattle.osgi_space_rules.specs.declared.keys.PackageAt.{PackageAt}
use Rattle.osgi_world.specs.Consistency.{AreRivals}
use Rattle.osgi_world.specs.Lookups.{is_current, is_singleton, symbolic_name}
use Rattle.osgi_world.specs.Wirings.{IsExport, InUse, PackageWire}
use Rattle.osgi_world.specs.declared.wiring.Wire.{Wire}
use Rattle.osgi_world.specs.declared.wiring.Wiring.{Wiring}
use Rattle.osgi_world.specs.declared.world.Known.{Known}

-- a wire of r enters its provider under the package that it is for, if it is for one
abbrev pub IsImport : List Known → RevisionId → Wire → PackageAt × RevisionId → Type 0
IsImport K r w e = (e.0.revision ≡ r) × IsExport K w.capability.owner w.capability.index e.0.name × (w.capability.provider ≡ e.1)

-- the package wires of one revision for one package have one provider
abbrev pub OneProvider : List Known → List Wiring → Type 0
OneProvider K W = (r : RevisionId) (p : List ℕ) (x y : RevisionId) → PackageWire K W r p x → PackageWire K W r p y → x ≡ y

-- the map has the provider of each package wire
abbrev pub AreProviders : List Known → List Wiring → BTreeMap PackageAt RevisionId → Type 0
AreProviders K W map = (r : RevisionId) (p : List ℕ) (x : RevisionId) → (get package_cmp map (package_at r p) ≡ Some x) ↔ PackageWire K W r p x

-- a current singleton is entered under its name
abbrev pub IsEntry : List Known → RevisionId → List ℕ × RevisionId → Type 0
IsEntry K r e = (IsTrue (is_current K r) × IsTrue (is_singleton K r)) × (symbolic_name K r ≡ e.0) × (r ≡ e.1)

-- the revision of a wiring and its fragments enter themselves
abbrev pub IsEntryOf : List Known → Wiring → List ℕ × RevisionId → Type 0
IsEntryOf K g e = IsEntry K g.revision e ⊎ AnyOf (λ f. IsEntry K f e) g.fragments

-- no two of the current singletons in use have one name
abbrev pub SingletonsDiffer : List Known → List Wiring → Type 0
SingletonsDiffer K W = (r s : RevisionId) → InUse W r → InUse W s → ¬ AreRivals K r s
