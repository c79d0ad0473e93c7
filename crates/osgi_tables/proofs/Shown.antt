-- What happens to bundles, as the tables show it.
use Rattle.std.proofs.Common.{◌≡◌, ℕ, List, [], ◌∷◌, ◌++◌, map, filter, ap, sym, subst, refl}
use Rattle.std.specs.Prelude.{All, IsSomeAnd, false, None, Option, Some}
use Rattle.std.proofs.lemmas.List.Elements.{All-head, All-tail}
use Rattle.std.specs.List.{cons_option, filter_map}
use Rattle.std.specs.Option.{option_map}
use Rattle.osgi_base.specs.declared.ids.BundleId.{BundleId}
use Rattle.osgi_bundle.specs.Rows.{IsSettable, row_at}
use Rattle.osgi_bundle.specs.declared.kept.BundleKept.{BundleKept}
use Rattle.osgi_legal.specs.Legal.{IsTold}
use Rattle.osgi_ops.specs.Listening.{Happening, of_bundle}
use Rattle.osgi_ops.specs.Listening as happening
use Rattle.osgi_ops.specs.Moments.{Moment}
use Rattle.osgi_ops.specs.States.{is_up}
use Rattle.osgi_ops.specs.declared.service.Service as declared
use Rattle.osgi_registry.specs.Rows.{is_owned, services_in}
use Rattle.osgi_registry.specs.laws.Happening.{leaving-rows}
use Rattle.osgi_sights.specs.Shown.{AreShown, IsShown, Shown}
use Rattle.osgi_sights.specs.Shown as shown
use Rattle.osgi_tables.proofs.Happening.{IsShownAs, row_named, shown_known, shown_left}
use Rattle.osgi_tables.specs.Changes.{bundles_shown, leaving}
use Rattle.osgi_tables.specs.Replied.{StandsFor}
use Rattle.osgi_tables.specs.declared.tables.Tables.{Tables}
use Rattle.osgi_version.specs.declared.version.Version.{Version}
use Rattle.osgi_world.specs.declared.world.World.{World}

pub to_shown : (code : ℕ) (b : BundleId) (name : List ℕ) (version : Version) (h : Happening) → IsShownAs code b name version h → IsShown (shown.bundle code b name version) h
to_shown code b name version h s = subst (IsShown (shown.bundle code b name version)) (sym s.is) (refl, refl, record { name_is = s.has_name; version_is = s.has_version })

pub joined_shown : (xs ys : List Shown) (hs gs : List Happening) → AreShown xs hs → AreShown ys gs → AreShown (xs ++ ys) (hs ++ gs)
joined_shown [] ys [] gs first then = then
joined_shown [] ys (h ∷ hs) gs first then = absurd first
joined_shown (x ∷ xs) ys [] gs first then = absurd first
joined_shown (x ∷ xs) ys (h ∷ hs) gs first then = (first.0, joined_shown xs ys hs gs first.1 then)

-- one bundle whose row is there
pub bundles_one : (code : ℕ) (b : BundleId) (rows : List BundleKept) (row : BundleKept) → row_at b rows ≡ Some row → bundles_shown code (b ∷ []) rows ≡ shown.bundle code b row.name row.version ∷ []
bundles_one code b rows row is = ap (λ (o : Option BundleKept). filter_map (λ (c : BundleId). option_map (λ (r : BundleKept). shown.bundle code c r.name r.version) o) (b ∷ [])) is

services_shown : (code : ℕ) (services : List declared.Service) → AreShown (map (shown.service code) services) (map (happening.service code) services)
services_shown code [] = tt
services_shown code (s ∷ rest) = ((refl, refl), services_shown code rest)

module _ (now : Moment) (tables : Tables) (told : IsTold now) (stood : StandsFor now tables) (b : BundleId) (row : BundleKept) (is : row_at b tables.bundles.rows ≡ Some row) where
  first : (code : ℕ) → IsShown (shown.bundle code b row.name row.version) (of_bundle code now.world tables.wirings.world b)
  first code = to_shown code b row.name row.version _ (shown_left now.world tables.wirings.world b row.name row.version (row_named now told tables.bundles stood.bundles b row is) stood.world code)

  only : (code : ℕ) → AreShown (bundles_shown code (b ∷ []) tables.bundles.rows) (of_bundle code now.world tables.wirings.world b ∷ [])
  only code = subst (λ l. AreShown l (of_bundle code now.world tables.wirings.world b ∷ [])) (sym (bundles_one code b tables.bundles.rows row is)) (first code, tt)

  goes : AreShown (leaving b tables.registry) (happening.leaving (Some b) now.before)
  goes = subst (AreShown (leaving b tables.registry)) (sym (leaving-rows now.before tables.registry b stood.services)) (services_shown 4 (services_in (filter (is_owned b) tables.registry.rows)))

  -- its services go, and it is stopped
  pub stopped_shown : AreShown (leaving b tables.registry ++ bundles_shown 4 (b ∷ []) tables.bundles.rows) (happening.leaving (Some b) now.before ++ of_bundle 4 now.world tables.wirings.world b ∷ [])
  stopped_shown = joined_shown (leaving b tables.registry) (bundles_shown 4 (b ∷ []) tables.bundles.rows) (happening.leaving (Some b) now.before) (of_bundle 4 now.world tables.wirings.world b ∷ []) goes (only 4)

  -- before that it is stopping
  pub cleaned_shown : AreShown (bundles_shown 256 (b ∷ []) tables.bundles.rows ++ leaving b tables.registry ++ bundles_shown 4 (b ∷ []) tables.bundles.rows)
      (of_bundle 256 now.world tables.wirings.world b ∷ happening.leaving (Some b) now.before ++ of_bundle 4 now.world tables.wirings.world b ∷ [])
  cleaned_shown =
      joined_shown (bundles_shown 256 (b ∷ []) tables.bundles.rows ++ leaving b tables.registry) (bundles_shown 4 (b ∷ []) tables.bundles.rows) (of_bundle 256 now.world tables.wirings.world b ∷ happening.leaving (Some b) now.before)
      (of_bundle 4 now.world tables.wirings.world b ∷ [])
      (joined_shown (bundles_shown 256 (b ∷ []) tables.bundles.rows) (leaving b tables.registry) (of_bundle 256 now.world tables.wirings.world b ∷ []) (happening.leaving (Some b) now.before) (only 256) goes) (only 4)

-- the code happens to each of the bundles, whose rows are there
abbrev pub each : ℕ → List BundleKept → List BundleId → Option BundleKept → BundleId → List Shown
each code rows rest o b = cons_option (option_map (λ (row : BundleKept). shown.bundle code b row.name row.version) o) (bundles_shown code rest rows)

pub all_shown : (code : ℕ) (now : Moment) (tables : Tables) → IsTold now → StandsFor now tables → (after : World) → after.known ≡ now.world.known → (ids : List BundleId) → All (λ b. IsSettable b tables.bundles.rows) ids →
    AreShown (bundles_shown code ids tables.bundles.rows) (map (of_bundle code now.world after) ids)
all_shown code now tables told stood after same [] all = tt
all_shown code now tables told stood after same (b ∷ rest) all =
    by (row_at b tables.bundles.rows) refl (All-head (λ c. IsSettable c tables.bundles.rows) b rest all) (all_shown code now tables told stood after same rest (All-tail (λ c. IsSettable c tables.bundles.rows) b rest all))
  where
    by : (o : Option BundleKept) → row_at b tables.bundles.rows ≡ o → IsSomeAnd (row_at b tables.bundles.rows) (λ (row : BundleKept). is_up row.state ≡ false) →
        AreShown (bundles_shown code rest tables.bundles.rows) (map (of_bundle code now.world after) rest) → AreShown (bundles_shown code (b ∷ rest) tables.bundles.rows) (of_bundle code now.world after b ∷ map (of_bundle code now.world after) rest)
    by None is there more = absurd (subst (λ o. IsSomeAnd o (λ (row : BundleKept). is_up row.state ≡ false)) is there)
    by (Some row) is there more =
        subst (λ l. AreShown l (of_bundle code now.world after b ∷ map (of_bundle code now.world after) rest)) (sym (ap (λ (o : Option BundleKept). each code tables.bundles.rows rest o b) is))
        (to_shown code b row.name row.version (of_bundle code now.world after b) (shown_known now.world after b row.name row.version (row_named now told tables.bundles stood.bundles b row is) same code), more)

-- the code alone happens to the bundle
pub one_shown : (code : ℕ) (now : Moment) (tables : Tables) → IsTold now → StandsFor now tables → (b : BundleId) (row : BundleKept) → row_at b tables.bundles.rows ≡ Some row →
    AreShown (bundles_shown code (b ∷ []) tables.bundles.rows) (of_bundle code now.world tables.wirings.world b ∷ [])
one_shown code now tables told stood b row is = only now tables told stood b row is code

-- services that stand behind something else are shown as they are
pub shown_each : {X : Type 0} (code : ℕ) (service_of : X → declared.Service) (xs : List X) → map (λ x. shown.service code (service_of x)) xs ≡ map (shown.service code) (map service_of xs)
shown_each code service_of [] = refl
shown_each code service_of (x ∷ xs) = ap (λ l. shown.service code (service_of x) ∷ l) (shown_each code service_of xs)
