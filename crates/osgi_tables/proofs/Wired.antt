-- Whether a bundle's current revision is in force, and what that says of the bundle.
use Rattle.std.proofs.Common.{◌≡◌, inl, inr, IsTrue, List, ap, sym, ◌∙◌, refl}
use Rattle.std.specs.Prelude.{◌==◌, Bool, true, false, is_some, Option, None, Some}
use Rattle.std.specs.Option.{option_map, option_map_or}
use Rattle.std.proofs.lemmas.Bool.{eq-eqb, eqb-true}
use Rattle.osgi_base.specs.declared.ids.BundleId.{BundleId}
use Rattle.osgi_base.specs.declared.ids.RevisionId.{RevisionId}
use Rattle.osgi_ops.specs.Resolved.{current_revision, is_current_of, is_fragment_bundle, is_in_use, is_resolved}
use Rattle.osgi_ops.specs.Soundness.{IsSound}
use Rattle.osgi_ops.specs.laws.Resolved.{in_use-from, in_use-true}
use Rattle.osgi_wiring.proofs.Indexed.{known-there}
use Rattle.osgi_wiring.proofs.Kept.{find-in, none-in}
use Rattle.osgi_wiring.specs.States.{wiring_at}
use Rattle.osgi_world.specs.Lookups.{known_at, revision_at}
use Rattle.osgi_world.specs.Satisfaction.{is_host_for, matches_host}
use Rattle.osgi_world.specs.Wirings.{InForce, InUse}
use Rattle.osgi_world.specs.declared.requirement.Requirement.{Requirement}
use Rattle.osgi_world.specs.declared.revision.Revision.{Revision}
use Rattle.osgi_world.specs.declared.wiring.Wiring.{Wiring}
use Rattle.osgi_world.specs.declared.world.Known.{Known}
use Rattle.osgi_world.specs.declared.world.World.{World}

pub whole_bundle : (W : World) (b : BundleId) (k : Known) → current_revision W b ≡ Some k → is_some k.revision.host ≡ false → is_fragment_bundle W b ≡ false
whole_bundle W b k is whole = ap (λ o. option_map_or (λ (k : Known). is_some k.revision.host) o false) is ∙ whole

wired : (W : List Wiring) (r : RevisionId) (g : Wiring) → wiring_at W r ≡ Some g → InForce W r
wired W r g is =
    let there = find-in (λ (v : Wiring). v.revision.0 == r.0) W g is in
    record { wiring = g; stands = there.0; revision = λ i. record { 0 = eqb-true g.revision.0 r.0 there.1 i } }

pub target_resolved : (W : World) (b : BundleId) (k : Known) (g : Wiring) → Some k ≡ current_revision W b → is_some k.revision.host ≡ false → Some g ≡ wiring_at W.wirings k.id → (is_fragment_bundle W b ≡ false) × (is_resolved W b ≡ true)
target_resolved W b k g is whole in_force = (
  whole_bundle W b k (sym is) whole,
  ap (λ o. option_map_or (λ (k : Known). is_in_use W.wirings k.id) o false) (sym is) ∙ in_use-from W.wirings k.id (inl (wired W.wirings k.id g (sym in_force))),
)

not_wired : (W : List Wiring) (r : RevisionId) → wiring_at W r ≡ None → ¬ InForce W r
not_wired W r none i = none-in (λ (v : Wiring). v.revision.0 == r.0) W i.wiring none i.stands (ap (λ (s : RevisionId). s.0 == r.0) i.revision ∙ eq-eqb r.0 r.0 refl)

-- only a fragment is attached
host_fragment : (K : List Known) (f h : RevisionId) (o : Option Known) → known_at K f ≡ o →
    IsTrue (option_map_or (λ fragment. option_map_or (λ host. matches_host fragment host) (revision_at K h) false) (option_map (λ (k : Known). k.revision) o) false) → (k : Known) × (o ≡ Some k) × (is_some k.revision.host ≡ true)
host_fragment K f h None is t = absurd (cc t)
host_fragment K f h (Some k) is t = (k, refl, has_host k.revision (revision_at K h) t)
  where
    asked : (host : Option Requirement) (r : Revision) (v : Revision) → v.host ≡ host → IsTrue (matches_host v r) → is_some host ≡ true
    asked None r v is t = absurd (cc (ap (λ o. option_map_or (λ (q : Requirement). is_host_for q r) o false) is, t))
    asked (Some q) r v is t = refl

    has_host : (v : Revision) (o : Option Revision) → IsTrue (option_map_or (λ host. matches_host v host) o false) → is_some v.host ≡ true
    has_host v None t = absurd (cc t)
    has_host v (Some r) t = asked v.host r v refl t

module _ (W : World) (b : BundleId) (k : Known) (sound : IsSound W) (is : current_revision W b ≡ Some k) (whole : is_some k.revision.host ≡ false) (unwired : wiring_at W.wirings k.id ≡ None) where
  not_in_use : ¬ InUse W.wirings k.id
  not_in_use (inl i) = not_wired W.wirings k.id unwired i
  not_in_use (inr a) =
      let host = host_fragment W.known k.id a.0 (known_at W.known k.id) refl (sound.consistent.coherent.rules.attached a.0 k.id a.1) in
      let same : Some host.0 ≡ Some k = sym host.1 ∙ known-there W.known k sound.is_world.known_once (find-in (is_current_of b) W.known k is).0 in
      let one : host.0 ≡ k = cc same in
      cc (ap (λ (x : Known). is_some x.revision.host) one, whole, host.2)

  unused_by : (t : Bool) → is_in_use W.wirings k.id ≡ t → is_in_use W.wirings k.id ≡ false
  unused_by true e = absurd (not_in_use (in_use-true W.wirings k.id e))
  unused_by false e = e

  -- one that is no fragment, and not in force, is not resolved
  pub target_open : is_resolved W b ≡ false
  target_open = ap (λ o. option_map_or (λ (x : Known). is_in_use W.wirings x.id) o false) is ∙ unused_by (is_in_use W.wirings k.id) refl
