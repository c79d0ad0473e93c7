-- What rows with names say of exports and of what they use, and what is added to it.
use Rattle.std.specs.Prelude.{◌≡◌, ◌↔◌, ◌⊎◌, ℕ, List, [], IsTrue}
use Rattle.std.specs.Option.{option_map_or}
use Rattle.osgi_base.specs.declared.ids.RevisionId.{RevisionId}
use Rattle.osgi_world.specs.Lists.{In}
use Rattle.osgi_world.specs.Lookups.{revision_at}
use Rattle.osgi_world.specs.Satisfaction.{is_package}
use Rattle.osgi_world.specs.declared.capability.Capability.{Capability}
use Rattle.osgi_world.specs.declared.revision.Revision.{Revision}
use Rattle.osgi_world.specs.declared.world.Known.{Known}
use Rattle.osgi_space_rows.specs.Names.{HasNumber}
use Rattle.osgi_space_rows.specs.Rows.{OwnExport, OwnUse}
use Rattle.osgi_space_rows.specs.Worlds.{AreNamed}
use Rattle.osgi_space_rows.specs.declared.named.Named.{Named}

-- an owner exports a package; an export of it uses another
pub data Fact : Type 0 where
  exporting : ℕ → List ℕ → Fact
  using : ℕ → List ℕ → List ℕ → Fact

-- the rows say so
abbrev pub HasFact : Named → Fact → Type 0
HasFact n (exporting o p) = (i : ℕ) × HasNumber n.names p i × OwnExport n.rows o i
HasFact n (using o p u) = (i : ℕ) × (j : ℕ) × HasNumber n.names p i × HasNumber n.names u j × OwnUse n.rows o i j

-- these facts are added
pub record Adds (old new : Named) (P : Fact → Type 0) : Type 0 where
  pub named : AreNamed new
  pub kept : (text : List ℕ) (number : ℕ) → HasNumber old.names text number → HasNumber new.names text number
  pub facts : (y : Fact) → HasFact new y ↔ (HasFact old y ⊎ P y)
  pub imports : new.rows.imports ≡ old.rows.imports
  pub required : new.rows.required ≡ old.rows.required
  pub attached : new.rows.attached ≡ old.rows.attached

-- ---- facts

abbrev pub Exported : ℕ → List ℕ → Fact → Type 0
Exported owner name (exporting o p) = (owner ≡ o) × (name ≡ p)
Exported owner name (using o p u) = ⊥

abbrev pub Used : ℕ → List ℕ → List (List ℕ) → Fact → Type 0
Used owner name uses (exporting o p) = ⊥
Used owner name uses (using o p u) = (owner ≡ o) × (name ≡ p) × In u uses

-- what a capability of the owner says
pub record Says (owner : ℕ) (c : Capability) (y : Fact) : Type 0 where
  pub of_package : IsTrue (is_package c.namespace)
  pub fact : Exported owner c.name y ⊎ Used owner c.name c.uses y

-- what one of the items says
pub record OneSays {X : Type 0} (P : X → Fact → Type 0) (xs : List X) (y : Fact) : Type 0 where
  pub item : X
  pub stands : In item xs
  pub says : P item y

abbrev pub capabilities_of : List Known → RevisionId → List Capability
capabilities_of K r = option_map_or (λ (v : Revision). v.capabilities) (revision_at K r) []

-- what the capabilities of a known revision say, of those of one id the first
abbrev pub KnownSays : List Known → Known → Fact → Type 0
KnownSays K known = OneSays (Says known.id.0) (capabilities_of K known.id)
