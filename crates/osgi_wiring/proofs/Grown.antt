-- More known revisions: where each that was known is known as before, wirings that were consistent are so still.
use Rattle.std.proofs.Common.{◌≡◌, ℕ, ◌<◌, ◌⊎◌, inl, inr, false, IsTrue, IsSome, List, [], ◌∷◌, Option, Some, None, refl, sym, subst, arith}
use Rattle.std.specs.Prelude.{option_and_then, slice_get, length, ◌++◌}
use Rattle.std.specs.Option.{option_map, option_map_or}
use Rattle.osgi_base.specs.declared.ids.RevisionId.{RevisionId}
use Rattle.osgi_world.specs.Consistency.{AreDouble, AreRivals, Consistent, IsCoherent}
use Rattle.osgi_world.specs.Lists.{In, Two}
use Rattle.osgi_world.specs.Lookups.{IsKnown, IsNeeded, SatisfiesAt, capability_at, capability_count, is_dynamic, is_effective, is_host_of, known_at, requirement_at, revision_at, symbolic_name}
use Rattle.osgi_world.specs.Satisfaction.{matches_host}
use Rattle.osgi_world.specs.Sources.{Clash, GivesPackage, Implied, Sources, follows, itself, reexported, seen, substituted}
use Rattle.osgi_world.specs.Wirings.{Attached, BundleWire, ExportUses, Exports, HasCapability, HasExport, HasRequirement, HasWire, ImportsElsewhere, InForce, InUse, IsExport, IsWorld, OnOffer, Owns, PackageWire, Reexports}
use Rattle.osgi_world.specs.declared.capability.Capability.{Capability}
use Rattle.osgi_world.specs.declared.requirement.Requirement.{Requirement}
use Rattle.osgi_world.specs.declared.revision.Revision.{Revision}
use Rattle.osgi_world.specs.declared.wiring.CapRef.{CapRef}
use Rattle.osgi_world.specs.declared.wiring.ReqRef.{ReqRef}
use Rattle.osgi_world.specs.declared.wiring.Wire.{Wire}
use Rattle.osgi_world.specs.declared.wiring.Wiring.{Wiring}
use Rattle.osgi_world.specs.declared.world.Known.{Known}

-- the wirings are consistent with what K knows, and L knows each revision of K as K does
pub record Grown (K L : List Known) (W : List Wiring) : Type 0 where
  pub same : (r : RevisionId) → IsKnown K r → known_at L r ≡ known_at K r
  pub is_world : IsWorld K W
  pub consistent : Consistent K W

-- ---- what is known of K

none-known : (K : List Known) (r : RevisionId) → (F : Option Known → Type 0) → ¬ F None → F (known_at K r) → IsKnown K r
none-known K r F none f = go (known_at K r) f
  where
    go : (o : Option Known) → F o → IsSome o
    go None f = absurd (none f)
    go (Some k) f = refl

some-known : {X : Type 0} (K : List Known) (r : RevisionId) (f : Option Known → Option X) (x : X) → f None ≡ None → f (known_at K r) ≡ Some x → IsKnown K r
some-known K r f x none e = none-known K r (λ o. f o ≡ Some x) (λ some. cc) e

-- what has a number of capabilities or requirements is known
counted-known : (K : List Known) (r : RevisionId) (count : Option Known → ℕ) (i : ℕ) → count None ≡ 0 → i < count (known_at K r) → IsKnown K r
counted-known K r count i none lt = none-known K r (λ o. i < count o) (λ l. omega arith) lt

pub in_force-known : {K L : List Known} {W : List Wiring} (g : Grown K L W) {r : RevisionId} → InForce W r → IsKnown K r
in_force-known {K = K} g i = subst (IsKnown K) i.revision (g.is_world.known i.wiring i.stands)

pub host-known : (K : List Known) (f h : RevisionId) → IsTrue (is_host_of K f h) → IsKnown K f
host-known K f h t =
    none-known K f (λ o. IsTrue (option_map_or (λ fragment. option_map_or (λ host. matches_host fragment host) (revision_at K h) false) (option_map (λ (k : Known). k.revision) o) false)) (λ t. cc) t

pub attached-known : {K L : List Known} {W : List Wiring} (g : Grown K L W) {r f : RevisionId} → Attached W r f → IsKnown K f
attached-known {K = K} g {r = r} {f = f} a = host-known K f r (g.consistent.coherent.rules.attached r f a)

owner-known : {K L : List Known} {W : List Wiring} (g : Grown K L W) (r o : RevisionId) → IsKnown K r → Owns W r o → IsKnown K o
owner-known {K = K} g r o k (inl e) = subst (IsKnown K) (sym e) k
owner-known g r o k (inr a) = attached-known g a

pub use-known : {K L : List Known} {W : List Wiring} (g : Grown K L W) (r : RevisionId) → InUse W r → IsKnown K r
use-known g r (inl i) = in_force-known g i
use-known g r (inr a) = attached-known g a.1

attached-holder : {W : List Wiring} {r f : RevisionId} → Attached W r f → InForce W r
attached-holder h = record { wiring = h.wiring; stands = h.stands; revision = h.revision }

requirement-known : (K : List Known) (q : ReqRef) (n : Requirement) → requirement_at K q ≡ Some n → IsKnown K q.owner
requirement-known K q n e = some-known K q.owner (λ o. option_and_then (λ (v : Revision). slice_get (v.requirements ++ v.dynamics) q.index) (option_map (λ (k : Known). k.revision) o)) n refl e

capability-known : (K : List Known) (o : RevisionId) (i : ℕ) (c : Capability) → capability_at K o i ≡ Some c → IsKnown K o
capability-known K o i c e = some-known K o (λ x. option_and_then (λ (v : Revision). slice_get v.capabilities i) (option_map (λ (k : Known). k.revision) x)) c refl e

asker-known : {K L : List Known} {W : List Wiring} (g : Grown K L W) {r : RevisionId} {w : Wire} → HasWire W r w → IsKnown K w.requirement.owner
asker-known {K = K} g {r = r} {w = w} h = let s = g.consistent.satisfied r w h in requirement-known K w.requirement s.requirement s.requirement_is

giver-known : {K L : List Known} {W : List Wiring} (g : Grown K L W) {r : RevisionId} {w : Wire} → HasWire W r w → IsKnown K w.capability.owner
giver-known {K = K} g {r = r} {w = w} h = let s = g.consistent.satisfied r w h in capability-known K w.capability.owner w.capability.index s.capability s.capability_is

provider-known : {K L : List Known} {W : List Wiring} (g : Grown K L W) {r : RevisionId} {w : Wire} → HasWire W r w → IsKnown K w.capability.provider
provider-known g {r = r} {w = w} h = in_force-known g (g.consistent.coherent.rules.provided r w h)

-- ---- exports and wires

export-down : {K L : List Known} {W : List Wiring} (g : Grown K L W) (o : RevisionId) (i : ℕ) (p : List ℕ) → IsKnown K o → IsExport L o i p → IsExport K o i p
export-down g o i p k e = rw (g.same o k) at e

export-up : {K L : List Known} {W : List Wiring} (g : Grown K L W) (o : RevisionId) (i : ℕ) (p : List ℕ) → IsKnown K o → IsExport K o i p → IsExport L o i p
export-up g o i p k e = rw (g.same o k) e

package-down : {K L : List Known} {W : List Wiring} (g : Grown K L W) {r x : RevisionId} {p : List ℕ} → PackageWire L W r p x → PackageWire K W r p x
package-down g {p = p} w = record { wire = w.wire; has = w.has; export = export-down g w.wire.capability.owner w.wire.capability.index p (giver-known g w.has) w.export; provider = w.provider }

package-up : {K L : List Known} {W : List Wiring} (g : Grown K L W) {r x : RevisionId} {p : List ℕ} → PackageWire K W r p x → PackageWire L W r p x
package-up g {p = p} w = record { wire = w.wire; has = w.has; export = export-up g w.wire.capability.owner w.wire.capability.index p (giver-known g w.has) w.export; provider = w.provider }

bundle-down : {K L : List Known} {W : List Wiring} (g : Grown K L W) {r x : RevisionId} → BundleWire L W r x → BundleWire K W r x
bundle-down g w = record { wire = w.wire; has = w.has; bundle = (rw (g.same w.wire.capability.owner (giver-known g w.has)) at w.bundle); provider = w.provider }

bundle-up : {K L : List Known} {W : List Wiring} (g : Grown K L W) {r x : RevisionId} → BundleWire K W r x → BundleWire L W r x
bundle-up g w = record { wire = w.wire; has = w.has; bundle = rw (g.same w.wire.capability.owner (giver-known g w.has)) w.bundle; provider = w.provider }

reexport-down : {K L : List Known} {W : List Wiring} (g : Grown K L W) {r x : RevisionId} → Reexports L W r x → Reexports K W r x
reexport-down g w = record {
  wire = w.wire;
  has = w.has;
  bundle = (rw (g.same w.wire.capability.owner (giver-known g w.has)) at w.bundle);
  provider = w.provider;
  reexport = (rw (g.same w.wire.requirement.owner (asker-known g w.has)) at w.reexport);
}

reexport-up : {K L : List Known} {W : List Wiring} (g : Grown K L W) {r x : RevisionId} → Reexports K W r x → Reexports L W r x
reexport-up g w = record {
  wire = w.wire;
  has = w.has;
  bundle = rw (g.same w.wire.capability.owner (giver-known g w.has)) w.bundle;
  provider = w.provider;
  reexport = rw (g.same w.wire.requirement.owner (asker-known g w.has)) w.reexport;
}

elsewhere-down : {K L : List Known} {W : List Wiring} (g : Grown K L W) {r : RevisionId} {p : List ℕ} → ImportsElsewhere L W r p → ImportsElsewhere K W r p
elsewhere-down g e = record { from = e.from; imports = package-down g e.imports; elsewhere = e.elsewhere }

elsewhere-up : {K L : List Known} {W : List Wiring} (g : Grown K L W) {r : RevisionId} {p : List ℕ} → ImportsElsewhere K W r p → ImportsElsewhere L W r p
elsewhere-up g e = record { from = e.from; imports = package-up g e.imports; elsewhere = e.elsewhere }

capable-known : (K : List Known) (o : RevisionId) (i : ℕ) → i < capability_count K o → IsKnown K o
capable-known K o i lt = counted-known K o (λ x. option_map_or (λ (v : Revision). length v.capabilities) (option_map (λ (k : Known). k.revision) x) 0) i refl lt

has-up : {K L : List Known} {W : List Wiring} (g : Grown K L W) (r o : RevisionId) (i : ℕ) → HasCapability K W r o i → HasCapability L W r o i
has-up {K = K} g r o i h = (h.0, rw (g.same o (capable-known K o i h.1)) h.1)

has-down : {K L : List Known} {W : List Wiring} (g : Grown K L W) (r o : RevisionId) (i : ℕ) → IsKnown K r → HasCapability L W r o i → HasCapability K W r o i
has-down g r o i k h = let e = g.same o (owner-known g r o k h.0) in (h.0, (rw e at h.1))

exported-up : {K L : List Known} {W : List Wiring} (g : Grown K L W) {r : RevisionId} {p : List ℕ} → HasExport K W r p → HasExport L W r p
exported-up {K = K} g {r = r} {p = p} e = record {
  owner = e.owner;
  index = e.index;
  has = has-up g r e.owner e.index e.has;
  export = export-up g e.owner e.index p (capable-known K e.owner e.index e.has.1) e.export;
}

exported-down : {K L : List Known} {W : List Wiring} (g : Grown K L W) {r : RevisionId} {p : List ℕ} → IsKnown K r → HasExport L W r p → HasExport K W r p
exported-down g {r = r} {p = p} k e = record {
  owner = e.owner;
  index = e.index;
  has = has-down g r e.owner e.index k e.has;
  export = export-down g e.owner e.index p (owner-known g r e.owner k e.has.0) e.export;
}

uses-down : {K L : List Known} {W : List Wiring} (g : Grown K L W) {r : RevisionId} {p u : List ℕ} → IsKnown K r → ExportUses L W r p u → ExportUses K W r p u
uses-down g {r = r} {p = p} k e = record {
  owner = e.owner;
  index = e.index;
  has = has-down g r e.owner e.index k e.has;
  export = export-down g e.owner e.index p (owner-known g r e.owner k e.has.0) e.export;
  uses = (rw (g.same e.owner (owner-known g r e.owner k e.has.0)) at e.uses);
}

exports-up : {K L : List Known} {W : List Wiring} (g : Grown K L W) {r : RevisionId} {p : List ℕ} → Exports K W r p → Exports L W r p
exports-up g e = record { exported = exported-up g e.exported; stays = λ x. e.stays (elsewhere-down g x) }

exports-down : {K L : List Known} {W : List Wiring} (g : Grown K L W) {r : RevisionId} {p : List ℕ} → IsKnown K r → Exports L W r p → Exports K W r p
exports-down g k e = record { exported = exported-down g k e.exported; stays = λ x. e.stays (elsewhere-up g x) }

-- ---- sources

package-in_force : {K L : List Known} {W : List Wiring} (g : Grown K L W) {r x : RevisionId} {p : List ℕ} → PackageWire K W r p x → InForce W x
package-in_force {W = W} g {r = r} w = subst (InForce W) w.provider (g.consistent.coherent.rules.provided r w.wire w.has)

bundle-in_force : {K L : List Known} {W : List Wiring} (g : Grown K L W) {r x : RevisionId} → BundleWire K W r x → InForce W x
bundle-in_force {W = W} g {r = r} w = subst (InForce W) w.provider (g.consistent.coherent.rules.provided r w.wire w.has)

reexport-in_force : {K L : List Known} {W : List Wiring} (g : Grown K L W) {r x : RevisionId} → Reexports K W r x → InForce W x
reexport-in_force {W = W} g {r = r} w = subst (InForce W) w.provider (g.consistent.coherent.rules.provided r w.wire w.has)

gives-in_force : {K L : List Known} {W : List Wiring} (g : Grown K L W) {p : List ℕ} {b x : RevisionId} → InForce W b → GivesPackage K W p b x → InForce W x
gives-in_force g i (substituted w other e) = package-in_force g w
gives-in_force g i (itself e) = i
gives-in_force g i (reexported w s) = gives-in_force g (reexport-in_force g w) s

gives-up : {K L : List Known} {W : List Wiring} (g : Grown K L W) {p : List ℕ} {b x : RevisionId} → GivesPackage K W p b x → GivesPackage L W p b x
gives-up g (substituted w other e) = substituted (package-up g w) other (exported-up g e)
gives-up g (itself e) = itself (exports-up g e)
gives-up g (reexported w s) = reexported (reexport-up g w) (gives-up g s)

gives-down : {K L : List Known} {W : List Wiring} (g : Grown K L W) {p : List ℕ} {b x : RevisionId} → InForce W b → GivesPackage L W p b x → GivesPackage K W p b x
gives-down g i (substituted w other e) = substituted (package-down g w) other (exported-down g (in_force-known g i) e)
gives-down g i (itself e) = itself (exports-down g (in_force-known g i) e)
gives-down g i (reexported w s) = let v = reexport-down g w in reexported v (gives-down g (reexport-in_force g v) s)

sources-in_force : {K L : List Known} {W : List Wiring} (g : Grown K L W) (r : RevisionId) (p : List ℕ) (x : RevisionId) → InForce W r → Sources K W r p x → InForce W x
sources-in_force g r p x i (inl w) = package-in_force g w
sources-in_force g r p x i (inr (none, inl (c, w, s))) = gives-in_force g (bundle-in_force g w) s
sources-in_force {W = W} g r p x i (inr (none, inr (same, e))) = subst (InForce W) (sym same) i

sources-up : {K L : List Known} {W : List Wiring} (g : Grown K L W) (r : RevisionId) (p : List ℕ) (x : RevisionId) → Sources K W r p x → Sources L W r p x
sources-up g r p x (inl w) = inl (package-up g w)
sources-up g r p x (inr (none, inl (c, w, s))) = inr ((λ y. none (y.0, package-down g y.1)), inl (c, bundle-up g w, gives-up g s))
sources-up g r p x (inr (none, inr (same, e))) = inr ((λ y. none (y.0, package-down g y.1)), inr (same, exports-up g e))

sources-down : {K L : List Known} {W : List Wiring} (g : Grown K L W) (r : RevisionId) (p : List ℕ) (x : RevisionId) → InForce W r → Sources L W r p x → Sources K W r p x
sources-down g r p x i (inl w) = inl (package-down g w)
sources-down g r p x i (inr (none, inl (c, w, s))) = let v = bundle-down g w in inr ((λ y. none (y.0, package-up g y.1)), inl (c, v, gives-down g (bundle-in_force g v) s))
sources-down g r p x i (inr (none, inr (same, e))) = inr ((λ y. none (y.0, package-up g y.1)), inr (same, exports-down g (in_force-known g i) e))

implied-down : {K L : List Known} {W : List Wiring} (g : Grown K L W) {A : RevisionId → Type 0} {r e : RevisionId} {u : List ℕ} → InForce W r → Implied L W A r e u → InForce W e × Implied K W A r e u
implied-down g i (seen ar s ae us) =
    let t = sources-down g _ _ _ i s in
    let j = sources-in_force g _ _ _ i t in
    (j, seen ar t ae (uses-down g (in_force-known g j) us))
implied-down g i (follows before s ad us) =
    let b = implied-down g i before in
    let t = sources-down g _ _ _ b.0 s in
    let j = sources-in_force g _ _ _ b.0 t in
    (j, follows b.1 t ad (uses-down g (in_force-known g j) us))

clash-down : {K L : List Known} {W : List Wiring} (g : Grown K L W) {r e : RevisionId} {u : List ℕ} → InForce W r → InForce W e → Clash L W r e u → Clash K W r e u
clash-down g {r = r} {e = e} {u = u} i j c = record {
  ours = c.ours;
  ours_in = sources-down g r u c.ours i c.ours_in;
  ours_out = λ s. c.ours_out (sources-up g e u c.ours s);
  theirs = c.theirs;
  theirs_in = sources-down g e u c.theirs j c.theirs_in;
  theirs_out = λ s. c.theirs_out (sources-up g r u c.theirs s);
}

-- ---- consistency

two-within : {X : Type 0} (R S : X → X → Type 0) (xs : List X) → ((a b : X) → In a xs → In b xs → R a b → S a b) → Two R xs → Two S xs
two-within R S [] up t = elim t [ ]
two-within R S (x ∷ xs) up (inl h) = inl (h.0, h.1, up x h.0 (inl refl) (inr h.1) h.2)
two-within R S (x ∷ xs) up (inr t) = inr (two-within R S xs (λ a b i j. up a b (inr i) (inr j)) t)

double-down : {K L : List Known} {W : List Wiring} (g : Grown K L W) (v w : Wire) → IsKnown K v.requirement.owner → AreDouble L v w → AreDouble K v w
double-down g v w k d = rw (g.same v.requirement.owner k) at d

rivals-down : {K L : List Known} {W : List Wiring} (g : Grown K L W) {r s : RevisionId} → IsKnown K r → IsKnown K s → AreRivals L r s → AreRivals K r s
rivals-down g {r = r} {s = s} k l a = record {
  different = a.different;
  name = (rw (g.same r k, g.same s l) at a.name);
  current = (rw (g.same r k, g.same s l) at a.current);
  singletons = (rw (g.same r k, g.same s l) at a.singletons);
}

satisfies-up : {K L : List Known} {W : List Wiring} (g : Grown K L W) (q : ReqRef) (c : CapRef) → IsKnown K q.owner → IsKnown K c.owner → IsKnown K c.provider → SatisfiesAt K q c → SatisfiesAt L q c
satisfies-up g q c kq ko kp s = record {
  requirement = s.requirement;
  capability = s.capability;
  provider = s.provider;
  requirement_is = rw (g.same q.owner kq) s.requirement_is;
  capability_is = rw (g.same c.owner ko) s.capability_is;
  provider_is = rw (g.same c.provider kp) s.provider_is;
  satisfies = rw (g.same q.owner kq) s.satisfies;
}

asked-up : {K L : List Known} {W : List Wiring} (g : Grown K L W) (r : RevisionId) (w : Wire) → HasWire W r w →
    (HasRequirement L W r w.requirement × IsTrue (is_effective L w.requirement)) ⊎ (w.requirement.owner ≡ r) × IsTrue (is_dynamic L w.requirement)
asked-up g r w h =
    let e = g.same w.requirement.owner (asker-known g h) in
    elim (g.consistent.coherent.rules.asked r w h) [
      | inl x ↦ inl ((x.0.0, rw e x.0.1), rw e x.1)
      | inr d ↦ inr (d.0, rw e d.1)
    ]

mandatory-up : {K L : List Known} {W : List Wiring} (g : Grown K L W) (r : RevisionId) (q : ReqRef) → InForce W r → HasRequirement L W r q → IsNeeded L q → (w : Wire) × HasWire W r w × (w.requirement ≡ q)
mandatory-up g r q i h n =
    let e = g.same q.owner (owner-known g r q.owner (in_force-known g i) h.0) in
    g.consistent.coherent.rules.mandatory r q i (h.0, (rw e at h.1)) (record { effective = (rw e at n.effective); mandatory = (rw e at n.mandatory) })

offered-up : {K L : List Known} {W : List Wiring} (g : Grown K L W) (c : CapRef) → OnOffer K W c → OnOffer L W c
offered-up {K = K} g c o = record {
  has = has-up g c.provider c.owner c.index o.has;
  stays = λ p e x. o.stays p (export-down g c.owner c.index p (capable-known K c.owner c.index o.has.1) e) (elsewhere-down g x);
}

attached-up : {K L : List Known} {W : List Wiring} (g : Grown K L W) (r f : RevisionId) → Attached W r f → IsTrue (is_host_of L f r)
attached-up g r f a = rw (g.same f (attached-known g a), g.same r (in_force-known g (attached-holder a))) (g.consistent.coherent.rules.attached r f a)

name-down : {K L : List Known} {W : List Wiring} (g : Grown K L W) (e f : RevisionId) → IsKnown K e → IsKnown K f → symbolic_name L e ≡ symbolic_name L f → symbolic_name K e ≡ symbolic_name K f
name-down g e f k l s = rw (g.same e k, g.same f l) at s

coherent-up : {K L : List Known} {W : List Wiring} (g : Grown K L W) → IsCoherent L W
coherent-up {K = K} {L = L} g = record {
  rules = record {
    asked = asked-up g;
    single = λ v i t. g.consistent.coherent.rules.single v i
        (two-within (AreDouble L) (AreDouble K) v.wires (λ a b j k. double-down g a b (asker-known g (record { wiring = v; stands = i; revision = refl; has = j }))) t);
    mandatory = mandatory-up g;
    provided = g.consistent.coherent.rules.provided;
    offered = λ r w h. offered-up g w.capability (g.consistent.coherent.rules.offered r w h);
    not_owner = λ r w h b. g.consistent.coherent.rules.not_owner r w h (rw (g.same w.capability.owner (giver-known g h)) at b);
    one_provider = λ r p x y a b. g.consistent.coherent.rules.one_provider r p x y (package-down g a) (package-down g b);
    attached = attached-up g;
    one_version = λ v i t. g.consistent.coherent.rules.one_version v i
        (two-within (λ e f. symbolic_name L e ≡ symbolic_name L f) (λ e f. symbolic_name K e ≡ symbolic_name K f) v.fragments
        (λ e f j k. name-down g e f (attached-known g (record { wiring = v; stands = i; revision = refl; has = j })) (attached-known g (record { wiring = v; stands = i; revision = refl; has = k }))) t);
    singletons = λ r s i j a. g.consistent.coherent.rules.singletons r s i j (rivals-down g (use-known g r i) (use-known g s j) a);
  };
  uses = λ r e u i p c. let q = implied-down g i p in g.consistent.coherent.uses r e u i q.1 (clash-down g i q.0 c);
}

pub consistent-up : {K L : List Known} {W : List Wiring} (g : Grown K L W) → Consistent L W
consistent-up g = record {
  coherent = coherent-up g;
  satisfied = λ r w h. satisfies-up g w.requirement w.capability (asker-known g h) (giver-known g h) (provider-known g h) (g.consistent.satisfied r w h);
}

-- where L knows each of its revisions once, the wirings are those of a world with it
pub world-up : {K L : List Known} {W : List Wiring} (g : Grown K L W) → ¬ Two (λ (k l : Known). k.id ≡ l.id) L → IsWorld L W
world-up {K = K} {L = L} g once = record {
  known_once = once;
  known = λ v i. rw (g.same v.revision (g.is_world.known v i)) (g.is_world.known v i);
  hosts = λ v i t. g.is_world.hosts v i (rw (g.same v.revision (g.is_world.known v i)) at t);
  once = g.is_world.once;
}
