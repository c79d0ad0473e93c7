-- Which histories a table stands for.
use Rattle.std.specs.Prelude.{ℕ, ◌≡◌, ◌==◌, Bool, if◌then◌else◌, List, [], ◌∷◌, ◌++◌, None, Some, is_some, length, map, true, false}
use Rattle.osgi_base.specs.declared.ids.BundleId.{BundleId}
use Rattle.osgi_base.specs.declared.ids.RevisionId.{RevisionId}
use Rattle.osgi_base.specs.declared.ids.Tag.{Tag}
use Rattle.osgi_bundle.specs.Rows.{TableRows}
use Rattle.osgi_bundle.specs.declared.kept.BundleKept.{BundleKept}
use Rattle.osgi_ops.specs.Bundles.{active, Bundle, bundles, idle, installed, installed_by, is_uninstall, last_begin, number_of, Phase, phase, put_into, state, the_system_bundle, updated_to}
use Rattle.osgi_ops.specs.Depots.{stored_revision, row_number}
use Rattle.osgi_ops.specs.Moments.{first_world}
use Rattle.osgi_ops.specs.Resolved.{current_revision, is_in_use, is_resolved}
use Rattle.osgi_ops.specs.Worlds.{with_revision}
use Rattle.osgi_ops.specs.declared.depot.DepotRow.{DepotRow}
use Rattle.osgi_ops.specs.declared.entry.Entry.{Entry}
use Rattle.osgi_ops.specs.declared.op.Op.TheVariants as op
use Rattle.osgi_ops.specs.declared.reply.Reply.TheVariants as answer
use Rattle.osgi_version.specs.declared.version.Version.{Version}
use Rattle.osgi_world.specs.declared.revision.Revision.{Revision}
use Rattle.osgi_world.specs.declared.world.World.{World}

-- the row of a bundle, with its state in the world after the history and the tag of its last begin; a revision with a host is a
-- fragment's
abbrev pub kept_of : World → List Entry → Bundle → BundleKept
kept_of world history b = record {
  bundle = b.bundle;
  location = b.location;
  name = b.revision.name;
  version = b.revision.version;
  fragment = is_some b.revision.host;
  row = b.row;
  state = number_of (state world history b.bundle);
  by = last_begin b.bundle history;
}

-- row by row the live bundles of the history with their states in the world after it, and as many ids as it installed bundles
pub record StandsFor (depot : List DepotRow) (history : List Entry) (world : World) (table : TableRows) : Type 0 where
  pub rows : table.rows ≡ map (kept_of world history) (bundles depot history)
  pub issued : table.issued ≡ length (installed history)

-- the table of the system bundle alone
abbrev pub first_table : TableRows
first_table = record { rows = kept_of first_world [] the_system_bundle ∷ []; issued = 0 }

-- whatever the depot has, it stands for the history of no entries
abbrev pub StandsForNone : TableRows → Type 0
StandsForNone table = (depot : List DepotRow) → StandsFor depot [] first_world table

-- what is kept of a bundle says what the depot has at its location
pub record IsOfDepot (depot : List DepotRow) (location name : List ℕ) (version : Version) (fragment : Bool) (row : ℕ) : Type 0 where
  pub revision : Revision
  pub is : stored_revision depot location ≡ Some revision
  pub has_name : name ≡ revision.name
  pub has_version : version ≡ revision.version
  pub has_host : fragment ≡ is_some revision.host
  pub number : row ≡ row_number depot location

-- the bundle has no current revision, no wiring is of the revision that it is to get, or has it as a fragment, and the history tells of no
-- start or stop of it
pub record IsNewBundle (world : World) (history : List Entry) (revision : RevisionId) (bundle : BundleId) : Type 0 where
  pub no_current : current_revision world bundle ≡ None
  pub unused : is_in_use world.wirings revision ≡ false
  pub at_rest : phase bundle history ≡ idle
  pub never_begun : last_begin bundle history ≡ None

-- if it stood for a history, it stands for that history with one more entry: the Install of this location, with what the depot has
-- there, which becomes known
abbrev pub StandsAfter : List ℕ → List ℕ → Version → Bool → ℕ → BundleId → TableRows → TableRows → Type 0
StandsAfter location name version fragment row id old new =
    (depot : List DepotRow) (history : List Entry) (world : World) (revision : RevisionId) (tag : Tag) (of : IsOfDepot depot location name version fragment row) → IsNewBundle world history revision id → StandsFor depot history world old →
    StandsFor depot (history ++ record { tag = tag; op = op.Install location; reply = answer.Bundle id false } ∷ []) (with_revision world revision id of.revision) new

-- ---- starts and stops

-- the entry puts the bundle into the phase, and installs, uninstalls and updates none
pub record Puts (phase : Phase) (bundle : BundleId) (e : Entry) : Type 0 where
  pub puts : (b : BundleId) → put_into b e.op e.reply ≡ (if bundle.0 == b.0 then Some phase else None)
  pub installs : (earlier : ℕ) (since : List Entry) → installed_by earlier e.op e.reply since ≡ []
  pub uninstalls : (b : BundleId) → is_uninstall b e.op e.reply ≡ false
  pub updates : (b : BundleId) → updated_to b e.op e.reply ≡ None

-- if it stood for a history, in a world where the bundle is resolved, it stands for that history with an entry of this tag that puts the
-- bundle into the phase
abbrev pub StandsPut : Phase → Tag → BundleId → TableRows → TableRows → Type 0
StandsPut phase tag bundle old new =
    (depot : List DepotRow) (history : List Entry) (world : World) (e : Entry) → e.tag ≡ tag → Puts phase bundle e → is_resolved world bundle ≡ true → StandsFor depot history world old →
    StandsFor depot (history ++ e ∷ []) world new

-- where the start of a bundle leaves it
abbrev pub started_phase : Bool → Phase
started_phase failed = if failed then idle else active
