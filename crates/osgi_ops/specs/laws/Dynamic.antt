-- The wire that a load adds is one and the same, whoever tells it; and none is added while loads add none.
use Rattle.std.proofs.Common.{◌≡◌, ◌⊎◌, ◌<◌, inl, inr, ℕ, List, ap, refl, sym, subst, arith}
use Rattle.std.specs.Prelude.{IsTrue, false, Option, None, Some}
use Rattle.osgi_base.specs.declared.ids.BundleId.{BundleId}
use Rattle.osgi_base.specs.declared.ids.RevisionId.{RevisionId}
use Rattle.osgi_ops.specs.Dynamic.{higher_version, IsAdded, IsWireToAdd, IsEarlierWire, IsPreferredInForce, lower_bundle, lower_owner, lower_place}
use Rattle.osgi_world.specs.Candidates.{is_higher}
use Rattle.osgi_world.specs.Lookups.{bundle_of}
use Rattle.osgi_world.specs.declared.wiring.CapRef.{CapRef}
use Rattle.osgi_world.specs.declared.wiring.Wire.{Wire}
use Rattle.osgi_world.specs.declared.world.Known.{Known}
use Rattle.osgi_world.specs.declared.world.World.{World}

-- while loads add no wire, none is added
pub none-added : (world : World) (bundle : BundleId) (class : List ℕ) (wire : Option Wire) → IsAdded false world bundle class wire → wire ≡ None
none-added world bundle class wire is = is

pub adds-none : (world : World) (bundle : BundleId) (class : List ℕ) → IsAdded false world bundle class None
adds-none world bundle class = refl

-- the order of versions is one
abbrev pub IsOneWay : List Known → Type 0
IsOneWay K = (c d : CapRef) → IsTrue (is_higher K c d) → IsTrue (is_higher K d c) → ⊥

not-below : (n : ℕ) → (n < n) → ⊥
not-below n less = omega (arith, less)

less-both : (m n : ℕ) → (m < n) → (n < m) → ⊥
less-both m n a b = omega (arith, a, b)

preferred-one : (K : List Known) → IsOneWay K → (c d : CapRef) → IsPreferredInForce K c d → IsPreferredInForce K d c → ⊥
preferred-one K one c d (higher_version up) (higher_version down) = one c d up down
preferred-one K one c d (higher_version up) (lower_bundle not b) = not up
preferred-one K one c d (higher_version up) (lower_owner not same b) = not up
preferred-one K one c d (higher_version up) (lower_place not same o j) = not up
preferred-one K one c d (lower_bundle not a) (higher_version down) = not down
preferred-one K one c d (lower_owner not same a) (higher_version down) = not down
preferred-one K one c d (lower_place not same o i) (higher_version down) = not down
preferred-one K one c d (lower_bundle n a) (lower_bundle m b) = less-both (bundle_of K c.provider) (bundle_of K d.provider) a b
preferred-one K one c d (lower_bundle n a) (lower_owner m same b) = not-below (bundle_of K d.provider) (subst (λ p. bundle_of K p < bundle_of K d.provider) (sym same) a)
preferred-one K one c d (lower_bundle n a) (lower_place m same o j) = not-below (bundle_of K d.provider) (subst (λ p. bundle_of K p < bundle_of K d.provider) (sym same) a)
preferred-one K one c d (lower_owner n same a) (lower_bundle m b) = not-below (bundle_of K c.provider) (subst (λ p. bundle_of K p < bundle_of K c.provider) (sym same) b)
preferred-one K one c d (lower_place n same o i) (lower_bundle m b) = not-below (bundle_of K c.provider) (subst (λ p. bundle_of K p < bundle_of K c.provider) (sym same) b)
preferred-one K one c d (lower_owner n same a) (lower_owner m same' b) = less-both c.owner.0 d.owner.0 a b
preferred-one K one c d (lower_owner n same a) (lower_place m same' o j) = not-below d.owner.0 (subst (λ (p : RevisionId). p.0 < d.owner.0) (sym o) a)
preferred-one K one c d (lower_place n same o i) (lower_owner m same' b) = not-below c.owner.0 (subst (λ (p : RevisionId). p.0 < c.owner.0) (sym o) b)
preferred-one K one c d (lower_place n same o i) (lower_place m same' o' j) = less-both c.index d.index i j

earlier-one : (K : List Known) → IsOneWay K → (v w : Wire) → IsEarlierWire K v w → IsEarlierWire K w v → ⊥
earlier-one K one v w (inl a) (inl b) = less-both v.requirement.index w.requirement.index a b
earlier-one K one v w (inl a) (inr (same, p)) = not-below w.requirement.index (subst (λ (n : ℕ). n < w.requirement.index) (sym same) a)
earlier-one K one v w (inr (same, p)) (inl b) = not-below v.requirement.index (subst (λ (n : ℕ). n < v.requirement.index) (sym same) b)
earlier-one K one v w (inr (same, p)) (inr (same', q)) = preferred-one K one v.capability w.capability p q

-- there is one answer to what a load adds
pub dynamic-one : (world : World) → IsOneWay world.known → (r : RevisionId) (p : List ℕ) (a b : Option Wire) → IsWireToAdd world r p a → IsWireToAdd world r p b → a ≡ b
dynamic-one world one r p None None i j = refl
dynamic-one world one r p None (Some w) (inl settled) j = absurd (j.0 settled)
dynamic-one world one r p None (Some w) (inr none) j = absurd (none w j.1.is)
dynamic-one world one r p (Some w) None i (inl settled) = absurd (i.0 settled)
dynamic-one world one r p (Some w) None i (inr none) = absurd (none w i.1.is)
dynamic-one world one r p (Some w) (Some v) i j = by (i.1.first v j.1.is) (j.1.first w i.1.is)
  where
    by : (v ≡ w) ⊎ IsEarlierWire world.known w v → (w ≡ v) ⊎ IsEarlierWire world.known v w → Some w ≡ Some v
    by (inl same) second = ap Some (sym same)
    by (inr before) (inl same) = ap Some same
    by (inr before) (inr after) = absurd (earlier-one world.known one w v before after)
