-- The revisions that are in use, as a set of ids.
use Rattle.std.specs.Prelude.{◌≡◌, ◌⊎◌, ◌↔◌, ℕ, IsTrue, List}
use Rattle.std.specs.BTreeSet.{BTreeSet, contains}
use Rattle.std.specs.Ordering.{nat_cmp}
use Rattle.osgi_base.specs.declared.ids.RevisionId.{RevisionId}
use Rattle.osgi_world.specs.Lists.{In}
use Rattle.osgi_world.specs.Wirings.{InUse}
use Rattle.osgi_world.specs.declared.wiring.Wiring.{Wiring}

abbrev pub HasRevision : BTreeSet ℕ → RevisionId → Type 0
HasRevision set r = IsTrue (contains nat_cmp set r.0)

-- the set has the revisions that are in use by the wirings, and no others
abbrev pub AreInUse : List Wiring → BTreeSet ℕ → Type 0
AreInUse W set = (r : RevisionId) → HasRevision set r ↔ InUse W r

-- r is the revision of the wiring, or one of its fragments
abbrev pub IsUsedBy : Wiring → RevisionId → Type 0
IsUsedBy g r = (r ≡ g.revision) ⊎ In r g.fragments

abbrev pub PutsInUse : BTreeSet ℕ → BTreeSet ℕ → Wiring → Type 0
PutsInUse old new g = (r : RevisionId) → HasRevision new r ↔ (HasRevision old r ⊎ IsUsedBy g r)
