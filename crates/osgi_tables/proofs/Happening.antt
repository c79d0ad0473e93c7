-- What happens to bundles, said of the names and versions that the table of bundles has of them.
use Rattle.std.proofs.Common.{◌≡◌, ◌⊎◌, inl, inr, ℕ, List, ap, sym, ◌∙◌}
use Rattle.std.specs.Prelude.{true, Option, None, Some, Contains, find}
use Rattle.osgi_base.specs.declared.ids.BundleId.{BundleId}
use Rattle.osgi_base.specs.declared.ids.RevisionId.{RevisionId}
use Rattle.osgi_bundle.specs.Rows.{row_at, TableRows}
use Rattle.osgi_bundle.specs.Stands.{kept_of, StandsFor}
use Rattle.osgi_bundle.specs.declared.kept.BundleKept.{BundleKept}
use Rattle.osgi_bundle.specs.laws.OneBundle.{found_row}
use Rattle.osgi_bundle.specs.laws.Worlds.{current_new}
use Rattle.osgi_stage.proofs.Rows.{current-at}
use Rattle.osgi_ops.specs.Bundles.{Bundle, bundles}
use Rattle.osgi_legal.specs.Legal.{IsTold}
use Rattle.osgi_ops.specs.Listening.{bundle, Happening, of_bundle}
use Rattle.osgi_ops.specs.Moments.{Moment}
use Rattle.osgi_ops.specs.Resolved.{current_revision, is_current_of}
use Rattle.osgi_ops.specs.Worlds.{with_revision}
use Rattle.osgi_version.specs.declared.version.Version.{Version}
use Rattle.osgi_world.specs.declared.revision.Revision.{Revision}
use Rattle.osgi_world.specs.declared.world.Known.{Known}
use Rattle.osgi_world.specs.declared.world.World.{World}

-- the current revision of the bundle has this name and this version
pub record IsNamedIn (world : World) (b : BundleId) (name : List ℕ) (version : Version) : Type 0 where
  pub known : Known
  pub is : current_revision world b ≡ Some known
  pub has_name : known.revision.name ≡ name
  pub has_version : known.revision.version ≡ version

-- this code happens to the bundle, and filters read this name and this version of it
pub record IsShownAs (code : ℕ) (b : BundleId) (name : List ℕ) (version : Version) (h : Happening) : Type 0 where
  pub known : Known
  pub is : h ≡ bundle code b (Some known)
  pub has_name : known.revision.name ≡ name
  pub has_version : known.revision.version ≡ version

-- the bundle has the current revision that it had, or none
abbrev pub KeepsOrLoses : World → World → BundleId → Type 0
KeepsOrLoses before after b = (current_revision after b ≡ current_revision before b) ⊎ (current_revision after b ≡ None)

-- ---- the row of a live bundle, at a moment that the table stands for, names its current revision

named_of : (now : Moment) → IsTold now → (b : BundleId) (row : BundleKept) (c : Bundle) → Contains (bundles now.setting.depot now.before) c → c.bundle ≡ b → row ≡ kept_of now.world now.before c → IsNamedIn now.world b row.name row.version
named_of now told b row c there same is =
    let k = current-at now told c there in
    record {
      known = k.known;
      is = ap (current_revision now.world) (sym same) ∙ k.is;
      has_name = ap (λ (v : Revision). v.name) k.revision ∙ ap (λ (r : BundleKept). r.name) (sym is);
      has_version = ap (λ (v : Revision). v.version) k.revision ∙ ap (λ (r : BundleKept). r.version) (sym is);
    }

module _ (now : Moment) (told : IsTold now) (table : TableRows) (stands : StandsFor now.setting.depot now.before now.world table) where
  -- the row that is found of the bundle
  pub row_named : (b : BundleId) (row : BundleKept) → row_at b table.rows ≡ Some row → IsNamedIn now.world b row.name row.version
  row_named b row is =
      let of = found_row now.setting.depot now.before now.world table b row stands is in
      named_of now told b row of.bundle of.there of.same of.is

-- the row of a bundle that is installed names the revision that is brought, since that is the bundle's current one
pub brought_named : (before after : World) (id : RevisionId) (made : BundleKept) (revision : Revision) → current_revision before made.bundle ≡ None → after ≡ with_revision before id made.bundle revision → made.name ≡ revision.name → made.version ≡ revision.version →
    IsNamedIn after made.bundle made.name made.version
brought_named before after id made revision fresh brought name version = record {
  known = record { id = id; bundle = made.bundle; current = true; revision = revision };
  is = ap (λ (w : World). current_revision w made.bundle) brought ∙ current_new before id made.bundle revision fresh;
  has_name = sym name;
  has_version = sym version;
}

-- ---- what happens to a bundle is of its current revision, or of its last current one

module _ (before after : World) (b : BundleId) (name : List ℕ) (version : Version) where
  -- of the one that it has after, where it has one
  pub shown_after : IsNamedIn after b name version → (code : ℕ) → IsShownAs code b name version (of_bundle code before after b)
  shown_after named code = record {
    known = named.known;
    is = ap (λ (o : Option Known). bundle code b (elim o [ Some k ↦ Some k | None ↦ current_revision before b ])) named.is;
    has_name = named.has_name;
    has_version = named.has_version;
  }

  -- so of the one that it had, where it has that one or none
  pub shown_before : IsNamedIn before b name version → KeepsOrLoses before after b → (code : ℕ) → IsShownAs code b name version (of_bundle code before after b)
  shown_before named (inl same) code = shown_after (record { known = named.known; is = same ∙ named.is; has_name = named.has_name; has_version = named.has_version }) code
  shown_before named (inr none) code = record {
    known = named.known;
    is = ap (λ (o : Option Known). bundle code b (elim o [ Some k ↦ Some k | None ↦ current_revision before b ])) none ∙ ap (bundle code b) named.is;
    has_name = named.has_name;
    has_version = named.has_version;
  }

  -- as where the world is left
  pub shown_left : IsNamedIn before b name version → after ≡ before → (code : ℕ) → IsShownAs code b name version (of_bundle code before after b)
  shown_left named same code = shown_before named (inl (ap (λ (w : World). current_revision w b) same)) code

  -- or the known revisions are
  pub shown_known : IsNamedIn before b name version → after.known ≡ before.known → (code : ℕ) → IsShownAs code b name version (of_bundle code before after b)
  shown_known named same code = shown_before named (inl (ap (find (is_current_of b)) same)) code

-- ---- what happens at operations

-- starts and stops, which leave the world
