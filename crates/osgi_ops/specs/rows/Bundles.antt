-- What the operations on bundles and their revisions answer, each with its refusals in order.
use Rattle.std.specs.Prelude.{ℕ, ◌≡◌, ◌≢◌, ◌⊎◌, ◌<◌, ◌==◌, ◌+◌, ◌&&◌, not, Bool, true, false, List, [], ◌∷◌, Option, None, Some, find, length, nat_eq, codes, option_and_then}
use Rattle.std.specs.List.{list_any, starts_with}
use Rattle.std.specs.Option.{option_map, option_map_or}
use Rattle.std.specs.Str.{bytes_eq}
use Rattle.osgi_base.specs.Verdict.{Where}
use Rattle.osgi_base.specs.declared.ids.BundleId.{BundleId}
use Rattle.osgi_base.specs.declared.ids.RevisionId.{RevisionId}
use Rattle.osgi_ops.specs.Assignable.{package_of}
use Rattle.osgi_ops.specs.Bundles.{Bundle, bundle_from, bundles, installed, is_up}
use Rattle.osgi_ops.specs.Conditions.{AnyRefresh, invalid_where, is_system, IsDuplicate, no_such_bundle, not_read, refreshing_where, state_change}
use Rattle.osgi_ops.specs.Dynamic.{IsAdded, world_with_wire}
use Rattle.osgi_ops.specs.Loading.{IsLoaded}
use Rattle.osgi_ops.specs.Moments.{Moment}
use Rattle.osgi_ops.specs.Resolved.{is_fragment_bundle, is_resolved}
use Rattle.osgi_ops.specs.Resolving.{AnswersResolve, search_conditions}
use Rattle.osgi_ops.specs.Waiting.{is_waiting}
use Rattle.osgi_ops.specs.WireRows.{wire_row}
use Rattle.osgi_ops.specs.declared.limits.TheConstants.{MAX_BUNDLES}
use Rattle.osgi_ops.specs.declared.refusal.Many.TheVariants.{Bundles}
use Rattle.osgi_ops.specs.declared.refusal.Refusal.{Refusal}
use Rattle.osgi_ops.specs.declared.refusal.Refusal.TheVariants.{TooMany}
use Rattle.osgi_ops.specs.declared.reply.Reply.{Reply}
use Rattle.osgi_ops.specs.declared.reply.Reply.TheVariants as answer
use Rattle.osgi_ops.specs.declared.rows.WireRow.{WireRow}
use Rattle.osgi_world.specs.declared.revision.Policy.{Policy}
use Rattle.osgi_world.specs.declared.wiring.Wire.{Wire}
use Rattle.osgi_world.specs.declared.world.Known.{Known}

-- the refusals of an Install, where this is the live bundle that has its location, if one has. Such a bundle is answered. The system
-- bundle is not counted
abbrev pub install_refusals : Option Bundle → Moment → List ℕ → List (Refusal → Type 0)
install_refusals (Some bundle) now location = []
install_refusals None now location =
    not_read now location ∷ IsDuplicate now None location ∷ Where (TooMany Bundles) (MAX_BUNDLES < length (bundles now.setting.depot now.before)) ∷ []

-- the live bundle that has its location, or a bundle whose id is one more than the number of those installed earlier
abbrev pub installs : Option Bundle → ℕ → Reply
installs (Some b) earlier = answer.Bundle b.bundle true
installs None earlier = answer.Bundle (record { 0 = earlier + 1 }) false

-- the ids of bundles count from 1 and are never used again
abbrev pub InstallAnswers : Moment → List ℕ → Reply → Type 0
InstallAnswers now location reply = reply ≡ installs (bundle_from now.setting.depot now.before location) (length (installed now.before))

-- where the bundle is not resolved: a refresh that is open and has not dropped, or that another tag began, comes first, and then the search
abbrev pub unresolved_refusals : Bool → Moment → BundleId → List (Refusal → Type 0)
unresolved_refusals true now bundle = []
unresolved_refusals false now bundle = refreshing_where now (λ r. (r.dropped ≡ false) ⊎ (r.tag ≢ now.tag)) ∷ search_conditions now bundle

-- a fragment is not resolved by itself, but only attached to a host that is being resolved
abbrev pub resolve_refusals : Moment → BundleId → List (Refusal → Type 0)
resolve_refusals now bundle =
    no_such_bundle now bundle ∷ invalid_where (is_fragment_bundle now.world bundle ≡ true) ∷ unresolved_refusals (is_resolved now.world bundle) now bundle

abbrev pub ResolveAnswers : Moment → BundleId → Reply → Type 0
ResolveAnswers now bundle reply = AnswersResolve (is_resolved now.world bundle) now bundle reply

abbrev pub update_refusals : Moment → BundleId → List ℕ → List (Refusal → Type 0)
update_refusals now bundle location =
    no_such_bundle now bundle ∷ is_system bundle ∷ refreshing_where now AnyRefresh ∷ state_change is_up now bundle ∷ not_read now location
    ∷ IsDuplicate now (Some bundle) location ∷ []

abbrev pub UpdateAnswers : Reply → Type 0
UpdateAnswers reply = reply ≡ answer.Done

abbrev pub uninstall_refusals : Moment → BundleId → List (Refusal → Type 0)
uninstall_refusals now bundle = no_such_bundle now bundle ∷ is_system bundle ∷ refreshing_where now AnyRefresh ∷ state_change is_up now bundle ∷ []

abbrev pub UninstallAnswers : Reply → Type 0
UninstallAnswers reply = reply ≡ answer.Done

abbrev pub is_java_class : List ℕ → Bool
is_java_class class = starts_with nat_eq class (codes "java.")

-- the load adds a wire
abbrev pub AddsWire : Bool → Moment → BundleId → List ℕ → Type 0
AddsWire dynamics now bundle class = (w : Wire) × IsAdded dynamics now.world bundle class (Some w)

-- a wire is not added while a refresh is open that has not dropped, or that another tag began. The first argument says whether loads add
-- wires yet
abbrev pub load_refusals : Bool → Moment → BundleId → List ℕ → List (Refusal → Type 0)
load_refusals dynamics now bundle class =
    no_such_bundle now bundle
    ∷ invalid_where ((is_resolved now.world bundle ≡ false) ⊎ (is_fragment_bundle now.world bundle ≡ true) ⊎ (is_java_class class ≡ true))
    ∷ (λ refusal. AddsWire dynamics now bundle class × refreshing_where now (λ r. (r.dropped ≡ false) ⊎ (r.tag ≢ now.tag)) refusal) ∷ []

-- the policy names the package: it is included, or none is listed to be, and it is not excluded
abbrev pub names_package : Policy → List ℕ → Bool
names_package policy pack = option_map_or (list_any (bytes_eq pack)) policy.include true && not (list_any (bytes_eq pack) policy.exclude)

-- the bundle is to be started by a load from this revision of a class of the package: it waits, the revision is its current one, and its
-- policy names the package
abbrev pub wakes : Moment → RevisionId → List ℕ → Known → Bool
wakes now by pack k =
    k.current && (k.id.0 == by.0) && is_waiting k.bundle now.before && option_map_or (λ (p : Policy). names_package p pack) k.revision.lazy false

abbrev pub woken : Moment → List ℕ → Option RevisionId → Option BundleId
woken now class None = None
woken now class (Some by) = option_map (λ (k : Known). k.bundle) (find (wakes now by (package_of class)) now.world.known)

-- what is answered more than where the class is loaded from: the wire that was added, and the bundle that is to be started
abbrev pub loaded_with : Option RevisionId → Option WireRow → Option BundleId → Reply
loaded_with by None None = answer.Loaded by
loaded_with by wire wake = answer.LoadedMore by wire wake

-- the class is loaded in the world with the wire that was added
pub record LoadAnswers (dynamics : Bool) (now : Moment) (bundle : BundleId) (class : List ℕ) (reply : Reply) : Type 0 where
  pub wire : Option Wire
  pub by : Option RevisionId
  pub added : IsAdded dynamics now.world bundle class wire
  pub loaded : IsLoaded (world_with_wire now.world bundle wire) bundle class by
  pub says : reply ≡ loaded_with by (option_and_then (wire_row now.world.known) wire) (woken now class by)
