-- The wirings that a legal DropWirings leaves are consistent where those before it were.
use Rattle.std.proofs.Common.{◌≡◌, Bool, true, false, IsTrue, ℕ, List, refl, sym, ap, ◌∙◌, subst}
use Rattle.std.specs.Prelude.{not, Option, Some}
use Rattle.std.specs.Option.{option_map_or}
use Rattle.std.proofs.lemmas.Bool.{false_from_ne_true, not-true}
use Rattle.osgi_base.specs.declared.ids.RevisionId.{RevisionId}
use Rattle.osgi_resolver_theory.proofs.Drop.{kept-consistent, kept-world}
use Rattle.osgi_ops.specs.Bundles.{lists_bundle}
use Rattle.osgi_ops.specs.Closures.{DependsOn, IsClosed, LeansOn, wired}
use Rattle.osgi_ops.specs.Levels.{Refresh, refresh}
use Rattle.osgi_legal.specs.Legal.{IsTold}
use Rattle.osgi_ops.specs.Moments.{Moment}
use Rattle.osgi_ops.specs.Worlds.{dropped}
use Rattle.osgi_world.specs.Consistency.{Consistent}
use Rattle.osgi_world.specs.Lookups.{bundle_of}
use Rattle.osgi_world.specs.Wirings.{HasWire, IsWorld}
use Rattle.osgi_world.specs.declared.wiring.Wire.{Wire}
use Rattle.osgi_world.specs.declared.world.Known.{Known}
use Rattle.osgi_world.specs.declared.world.World.{World}
use Rattle.osgi_base.specs.declared.ids.BundleId.{BundleId}
use Rattle.osgi_stage.proofs.Facts.{closed-at, kept-at}
use Rattle.osgi_legal.proofs.Tidy.{contains-member, IsTidy, known-bundle, member-contains}

-- the revisions that stay: those of no member
abbrev pub stays_put : World → List BundleId → RevisionId → Bool
stays_put world members r = not (lists_bundle members (bundle_of world.known r))

-- what stays has its wires to what stays
pub provider-stays : {n : ℕ} (world : World) (members : List BundleId) → IsTidy n world → IsClosed world members → (r : RevisionId) (w : Wire) → HasWire world.wirings r w →
    IsTrue (stays_put world members r) → IsTrue (stays_put world members w.capability.provider)
provider-stays world members t closed r w h stay =
    let holder = t.wired h.wiring h.stands in
    let force = t.provided h.wiring w h.stands h.has in
    let provider = t.wired force.wiring force.stands in
    let of_holder : bundle_of world.known r ≡ holder.0.bundle.0 = ap (λ (o : Option Known). option_map_or (λ (k : Known). k.bundle.0) o 0) (known-bundle world.known t.once holder.0 holder.1 r (holder.2 ∙ h.revision)) in
    let of_provider : bundle_of world.known w.capability.provider ≡ provider.0.bundle.0 =
    ap (λ (o : Option Known). option_map_or (λ (k : Known). k.bundle.0) o 0) (known-bundle world.known t.once provider.0 provider.1 w.capability.provider (provider.2 ∙ force.revision)) in
    let d : DependsOn world holder.0.bundle provider.0.bundle = record {
      k = holder.0;
      l = provider.0;
      has = holder.1;
      there = provider.1;
      of = refl;
      of_other = refl;
      leans = subst (λ x. LeansOn world.wirings x provider.0.id) (sym (holder.2 ∙ h.revision))
          (subst (LeansOn world.wirings r) (sym (provider.2 ∙ force.revision)) (wired h));
    } in
    let out : lists_bundle members provider.0.bundle.0 ≡ false = false_from_ne_true _ (λ e. (
    let c = closed provider.0.bundle holder.0.bundle d (member-contains members provider.0.bundle e) in
    let bad : true ≡ false = sym (contains-member members holder.0.bundle c) ∙ sym (ap (lists_bundle members) of_holder) ∙ not-true _ stay in cc bad)) in
    ap not (ap (lists_bundle members) of_provider ∙ out)

-- with the revisions that were known before
pub dropped-consistent : (now : Moment) → IsTold now → (r : Refresh) → refresh now.before ≡ Some r → r.dropped ≡ false → Consistent now.world.known now.world.wirings →
    Consistent now.world.known (dropped r.members now.world).wirings
dropped-consistent now told r e d c =
    let k = kept-at now told in
    kept-consistent now.world.known (stays_put now.world r.members) now.world.wirings c (provider-stays now.world r.members k.tidy (closed-at now told r e d))

pub dropped-world : (now : Moment) (r : Refresh) → IsWorld now.world.known now.world.wirings → IsWorld now.world.known (dropped r.members now.world).wirings
dropped-world now r w = kept-world now.world.known (stays_put now.world r.members) now.world.wirings w
