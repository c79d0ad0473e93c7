-- Each question on the wirings of a state has an answer: so it is decided whether a word is hopeless.
use Rattle.std.proofs.Common.{◌≡◌, ◌↔◌, ◌≢◌, ℕ, ◌⊎◌, ◌||◌, inl, inr, IsTrue, List, [], ◌∷◌, ◌++◌, map, flat_map, Option, None, Some, refl, sym, ◌∙◌, ap, ap₂, subst}
use Rattle.osgi_resolver_theory.specs.Checks as check
use Rattle.osgi_base.specs.declared.ids.RevisionId.{RevisionId}
use Rattle.osgi_world.specs.Candidates.{IsProblem, candidates}
use Rattle.osgi_world.specs.Consistency.{AreRivals}
use Rattle.osgi_world.specs.Decisions.{Decision, IsMade, Made, attaching, choose, pick, value_made}
use Rattle.osgi_world.specs.DueDecisions.{due_decisions, fragments_of, members, payload}
use Rattle.osgi_world.specs.Partial.{partial}
use Rattle.osgi_world.specs.Hopeless.{IsDecided, IsHopeless, IsSettled, IsSpatial, ReachedFrom, first, more}
use Rattle.osgi_world.specs.Lists.{In, Two, below}
use Rattle.osgi_world.specs.Lookups.{capability_count, capability_name, capability_namespace, is_current, is_effective, is_multiple, is_optional, is_reexport, is_singleton, symbolic_name, requirement_namespace, used_packages}
use Rattle.osgi_world.specs.Satisfaction.{is_bundle, is_package}
use Rattle.osgi_world.specs.Sources.{Clash, GivesPackage, Implied, Sources, follows, itself, reexported, seen, substituted}
use Rattle.osgi_world.specs.Wirings.{BundleWire, ExportUses, Exports, HasCapability, HasExport, HasWire, ImportsElsewhere, InForce, IsBundleWire, IsExport, OnOffer, Owns, PackageWire, InUse, Reexports}
use Rattle.osgi_world.specs.ChoiceWords.{made_by}
use Rattle.osgi_world.specs.declared.problem.Problem.{Problem}
use Rattle.osgi_world.specs.declared.wiring.CapRef.{CapRef}
use Rattle.osgi_world.specs.declared.wiring.ReqRef.{ReqRef}
use Rattle.osgi_world.specs.declared.wiring.Wire.{Wire}
use Rattle.osgi_world.specs.declared.wiring.Wiring.{Wiring}
use Rattle.osgi_world.specs.declared.world.Known.{Known}
use Rattle.osgi_resolver_theory.proofs.Checks.{hopeless-iff_member}
use Rattle.osgi_resolver_theory.proofs.Closure.{Decided, Reach, Steps, all-dec, both-dec, closure, either-dec, empty-dec, goes, if-dec, item-dec, less-dec, map-dec, not-dec, starts, text-dec, true-dec, two-dec}
use Rattle.osgi_resolver_theory.proofs.Lists.{below-in, flat_map-in, in-append_cases, in-append_left, in-append_right, in-below, in-flat_map, in-map, map-in}
use Rattle.osgi_resolver_theory.proofs.Twos.{any-dec, attached-dec}
use Rattle.osgi_resolver_theory.proofs.Values.{nat-dec, rev-dec}
use Rattle.osgi_resolver_theory.proofs.Views.{in_force-in}
use Rattle.osgi_resolver_theory.specs.Checks.{HopelessMember, IsNew}

-- ---- wires

pub some_wire-dec : (W : List Wiring) (r : RevisionId) (Q : Wire → Type 0) → ((w : Wire) → Decided (Q w)) → Decided ((w : Wire) × HasWire W r w × Q w)
some_wire-dec W r Q dec = map-dec
    (λ a. (a.2.1.0, record { wiring = a.0; stands = a.1; revision = a.2.0; has = a.2.1.1 }, a.2.1.2))
    (λ b. (b.1.wiring, b.1.stands, (b.1.revision, (b.0, b.1.has, b.2))))
    (any-dec (λ (g : Wiring). (g.revision ≡ r) × ((w : Wire) × In w g.wires × Q w)) (λ g. both-dec (rev-dec g.revision r) (any-dec Q dec g.wires)) W)

export-dec : (K : List Known) (o : RevisionId) (i : ℕ) (p : List ℕ) → Decided (IsExport K o i p)
export-dec K o i p = both-dec (true-dec (is_package (capability_namespace K o i))) (text-dec (capability_name K o i) p)

package-dec : (K : List Known) (W : List Wiring) (r : RevisionId) (p : List ℕ) (x : RevisionId) → Decided (PackageWire K W r p x)
package-dec K W r p x = map-dec
    (λ a. record { wire = a.0; has = a.1; export = a.2.0; provider = a.2.1 }) (λ b. (b.wire, b.has, (b.export, b.provider)))
    (some_wire-dec W r (λ w. IsExport K w.capability.owner w.capability.index p × (w.capability.provider ≡ x)) (λ w. both-dec (export-dec K w.capability.owner w.capability.index p) (rev-dec w.capability.provider x)))

some_package-dec : (K : List Known) (W : List Wiring) (r : RevisionId) (p : List ℕ) → Decided ((y : RevisionId) × PackageWire K W r p y)
some_package-dec K W r p = map-dec
    (λ a. (a.0.capability.provider, record { wire = a.0; has = a.1; export = a.2; provider = refl })) (λ b. (b.1.wire, b.1.has, b.1.export))
    (some_wire-dec W r (λ w. IsExport K w.capability.owner w.capability.index p) (λ w. export-dec K w.capability.owner w.capability.index p))

bundle-dec : (K : List Known) (W : List Wiring) (r x : RevisionId) → Decided (BundleWire K W r x)
bundle-dec K W r x = map-dec
    (λ a. record { wire = a.0; has = a.1; bundle = a.2.0; provider = a.2.1 }) (λ b. (b.wire, b.has, (b.bundle, b.provider)))
    (some_wire-dec W r (λ w. IsBundleWire K w × (w.capability.provider ≡ x)) (λ w. both-dec (true-dec (is_bundle (capability_namespace K w.capability.owner w.capability.index))) (rev-dec w.capability.provider x)))

reexport-dec : (K : List Known) (W : List Wiring) (r x : RevisionId) → Decided (Reexports K W r x)
reexport-dec K W r x = map-dec
    (λ a. record { wire = a.0; has = a.1; bundle = a.2.0; provider = a.2.1.0; reexport = a.2.1.1 }) (λ b. (b.wire, b.has, (b.bundle, (b.provider, b.reexport))))
    (some_wire-dec W r (λ w. IsBundleWire K w × ((w.capability.provider ≡ x) × IsTrue (is_reexport K w.requirement)))
    (λ w. both-dec (true-dec (is_bundle (capability_namespace K w.capability.owner w.capability.index))) (both-dec (rev-dec w.capability.provider x) (true-dec (is_reexport K w.requirement)))))

elsewhere-dec : (K : List Known) (W : List Wiring) (r : RevisionId) (p : List ℕ) → Decided (ImportsElsewhere K W r p)
elsewhere-dec K W r p = map-dec
    (λ a. record { from = a.0.capability.provider; imports = record { wire = a.0; has = a.1; export = a.2.0; provider = refl }; elsewhere = a.2.1 })
    (λ b. (b.imports.wire, b.imports.has, (b.imports.export, λ e. b.elsewhere (sym b.imports.provider ∙ e))))
    (some_wire-dec W r (λ w. IsExport K w.capability.owner w.capability.index p × (w.capability.provider ≢ r)) (λ w. both-dec (export-dec K w.capability.owner w.capability.index p) (not-dec (rev-dec w.capability.provider r))))

-- ---- payloads

owns-dec : (W : List Wiring) (r o : RevisionId) → Decided (Owns W r o)
owns-dec W r o = either-dec (rev-dec o r) (attached-dec W r o)

abbrev pub all_fragments : List Wiring → List RevisionId
all_fragments W = flat_map (λ (g : Wiring). g.fragments) W

owner-in : (W : List Wiring) (r o : RevisionId) → Owns W r o → In o (r ∷ all_fragments W)
owner-in W r o (inl e) = inl e
owner-in W r o (inr a) = inr (in-flat_map (λ (g : Wiring). g.fragments) W a.wiring o a.stands a.has)

pub some_capability-dec : (K : List Known) (W : List Wiring) (r : RevisionId) (Q : RevisionId → ℕ → Type 0) → ((o : RevisionId) (i : ℕ) → Decided (Q o i)) → Decided ((o : RevisionId) × (i : ℕ) × HasCapability K W r o i × Q o i)
some_capability-dec K W r Q dec = map-dec
    (λ a. (a.0, a.2.1.0, (a.2.0, below-in ((capability_count K) a.0) a.2.1.0 a.2.1.1), a.2.1.2))
    (λ b. (b.0, owner-in W r b.0 b.2.0, (b.2.0, (b.1, in-below ((capability_count K) b.0) b.1 b.2.1, b.3))))
    (any-dec (λ o. Owns W r o × ((i : ℕ) × In i (below ((capability_count K) o)) × Q o i)) (λ o. both-dec (owns-dec W r o) (any-dec (Q o) (dec o) (below ((capability_count K) o)))) (r ∷ all_fragments W))

has_export-dec : (K : List Known) (W : List Wiring) (r : RevisionId) (p : List ℕ) → Decided (HasExport K W r p)
has_export-dec K W r p = map-dec (λ a. record { owner = a.0; index = a.1; has = a.2; export = a.3 }) (λ b. (b.owner, b.index, b.has, b.export))
    (some_capability-dec K W r (λ o i. IsExport K o i p) (λ o i. export-dec K o i p))

uses-dec : (K : List Known) (W : List Wiring) (r : RevisionId) (p u : List ℕ) → Decided (ExportUses K W r p u)
uses-dec K W r p u = map-dec (λ a. record { owner = a.0; index = a.1; has = a.2; export = a.3.0; uses = a.3.1 }) (λ b. (b.owner, b.index, b.has, (b.export, b.uses)))
    (some_capability-dec K W r (λ o i. IsExport K o i p × In u (used_packages K o i)) (λ o i. both-dec (export-dec K o i p) (item-dec text-dec u (used_packages K o i))))

exports-dec : (K : List Known) (W : List Wiring) (r : RevisionId) (p : List ℕ) → Decided (Exports K W r p)
exports-dec K W r p = map-dec (λ a. record { exported = a.0; stays = a.1 }) (λ b. (b.exported, b.stays)) (both-dec (has_export-dec K W r p) (not-dec (elsewhere-dec K W r p)))

offer-dec : (K : List Known) (W : List Wiring) (c : CapRef) → Decided (OnOffer K W c)
offer-dec K W c = map-dec
    (λ a. record { has = a.0; stays = λ p e x. a.1 e.0 (subst (ImportsElsewhere K W c.provider) (sym e.1) x) })
    (λ b. (b.has, λ t. b.stays (capability_name K c.owner c.index) (t, refl)))
    (both-dec (both-dec (owns-dec W c.provider c.owner) (less-dec c.index ((capability_count K) c.owner)))
    (if-dec (true-dec (is_package (capability_namespace K c.owner c.index))) (not-dec (elsewhere-dec K W c.provider (capability_name K c.owner c.index)))))

-- ---- sources

abbrev pub providers : List Wiring → List RevisionId
providers W = flat_map (λ (g : Wiring). map (λ (w : Wire). w.capability.provider) g.wires) W

provider-in : (W : List Wiring) (r : RevisionId) (w : Wire) (x : RevisionId) → HasWire W r w → w.capability.provider ≡ x → In x (providers W)
provider-in W r w x h e = subst (λ y. In y (providers W)) e (in-flat_map (λ (g : Wiring). map (λ (w : Wire). w.capability.provider) g.wires) W h.wiring w.capability.provider h.stands (in-map (λ (w : Wire). w.capability.provider) h.wiring.wires w h.has))

abbrev Direct : List Known → List Wiring → List ℕ → RevisionId → RevisionId → Type 0
Direct K W p x b = (PackageWire K W b p x × ((x ≢ b) × HasExport K W b p)) ⊎ (x ≡ b) × Exports K W b p

direct-dec : (K : List Known) (W : List Wiring) (p : List ℕ) (x b : RevisionId) → Decided (Direct K W p x b)
direct-dec K W p x b = either-dec (both-dec (package-dec K W b p x) (both-dec (not-dec (rev-dec x b)) (has_export-dec K W b p))) (both-dec (rev-dec x b) (exports-dec K W b p))

reexport-steps : (K : List Known) (W : List Wiring) (b : RevisionId) → Steps (λ c. c ≡ b) (Reexports K W) (b ∷ providers W)
reexport-steps K W b = record {
  same = rev-dec;
  start = λ c. rev-dec c b;
  go = reexport-dec K W;
  begins = λ c e. inl e;
  leads = λ c d w. inr (provider-in W c w.wire d w.has w.provider);
}

gives-from : {K : List Known} {W : List Wiring} {p : List ℕ} {b c x : RevisionId} → Reach (λ c. c ≡ b) (Reexports K W) c → GivesPackage K W p c x → GivesPackage K W p b x
gives-from {K = K} {W = W} {p = p} {x = x} (starts e) g = subst (λ c. GivesPackage K W p c x) e g
gives-from (goes r w) g = gives-from r (reexported w g)

direct-gives : {K : List Known} {W : List Wiring} {p : List ℕ} {b x : RevisionId} → Direct K W p x b → GivesPackage K W p b x
direct-gives (inl a) = substituted a.0 a.1.0 a.1.1
direct-gives {K = K} {W = W} {p = p} {b = b} (inr a) = subst (GivesPackage K W p b) (sym a.0) (itself a.1)

gives-direct : {K : List Known} {W : List Wiring} {p : List ℕ} {b c x : RevisionId} → Reach (λ c. c ≡ b) (Reexports K W) c → GivesPackage K W p c x → (d : RevisionId) × Reach (λ c. c ≡ b) (Reexports K W) d × Direct K W p x d
gives-direct {c = c} r (substituted w other e) = (c, r, inl (w, (other, e)))
gives-direct {c = c} r (itself e) = (c, r, inr (refl, e))
gives-direct r (reexported w g) = gives-direct (goes r w) g

pub gives-dec : (K : List Known) (W : List Wiring) (p : List ℕ) (b x : RevisionId) → Decided (GivesPackage K W p b x)
gives-dec K W p b x =
    let all = closure (λ c. c ≡ b) (Reexports K W) (b ∷ providers W) (reexport-steps K W b) in
    map-dec (λ a. gives-from ((all.is a.0).0 a.1) (direct-gives a.2)) (λ g. let d = gives-direct (starts refl) g in (d.0, (all.is d.0).1 d.1, d.2))
    (any-dec (Direct K W p x) (direct-dec K W p x) all.all)

pub sources-dec : (K : List Known) (W : List Wiring) (r : RevisionId) (p : List ℕ) (x : RevisionId) → Decided (Sources K W r p x)
sources-dec K W r p x = either-dec (package-dec K W r p x) (both-dec (not-dec (some_package-dec K W r p)) (either-dec
    (map-dec
    (λ a. (a.0.capability.provider, record { wire = a.0; has = a.1; bundle = a.2.0; provider = refl }, a.2.1))
    (λ b. (b.1.wire, b.1.has, (b.1.bundle, subst (λ c. GivesPackage K W p c x) (sym b.1.provider) b.2)))
    (some_wire-dec W r (λ w. IsBundleWire K w × GivesPackage K W p w.capability.provider x) (λ w. both-dec (true-dec (is_bundle (capability_namespace K w.capability.owner w.capability.index))) (gives-dec K W p w.capability.provider x))))
    (both-dec (rev-dec x r) (exports-dec K W r p))))

-- a source is the revision itself, or a provider
gives-range : {K : List Known} {W : List Wiring} {p : List ℕ} {b x : RevisionId} → In b (providers W) → GivesPackage K W p b x → In x (providers W)
gives-range {W = W} i (substituted {b = b} {x = x} w other e) = provider-in W b w.wire x w.has w.provider
gives-range i (itself e) = i
gives-range {W = W} i (reexported {b = b} {c = c} w g) = gives-range (provider-in W b w.wire c w.has w.provider) g

source-range : (K : List Known) (W : List Wiring) (r : RevisionId) (p : List ℕ) (x : RevisionId) → Sources K W r p x → In x (r ∷ providers W)
source-range K W r p x (inl w) = inr (provider-in W r w.wire x w.has w.provider)
source-range K W r p x (inr (none, inl (c, w, g))) = inr (gives-range (provider-in W r w.wire c w.has w.provider) g)
source-range K W r p x (inr (none, inr (e, o))) = inl e

pub clash-dec : (K : List Known) (W : List Wiring) (r e : RevisionId) (u : List ℕ) → Decided (Clash K W r e u)
clash-dec K W r e u = map-dec
    (λ a. record { ours = a.0.0; ours_in = a.0.2.0; ours_out = a.0.2.1; theirs = a.1.0; theirs_in = a.1.2.0; theirs_out = a.1.2.1 })
    (λ c. ((c.ours, source-range K W r u c.ours c.ours_in, (c.ours_in, c.ours_out)), (c.theirs, source-range K W e u c.theirs c.theirs_in, (c.theirs_in, c.theirs_out))))
    (both-dec
    (any-dec (λ x. Sources K W r u x × ¬ Sources K W e u x) (λ x. both-dec (sources-dec K W r u x) (not-dec (sources-dec K W e u x))) (r ∷ providers W))
    (any-dec (λ x. Sources K W e u x × ¬ Sources K W r u x) (λ x. both-dec (sources-dec K W e u x) (not-dec (sources-dec K W r u x))) (e ∷ providers W)))

-- ---- settled

force-dec : (W : List Wiring) (r : RevisionId) → Decided (InForce W r)
force-dec W r = map-dec (λ a. record { wiring = a.0; stands = a.1; revision = a.2 }) (λ b. (b.wiring, b.stands, b.revision)) (any-dec (λ (g : Wiring). g.revision ≡ r) (λ g. rev-dec g.revision r) W)

made-go : (o : Option ℕ) → Decided ((v : ℕ) × (o ≡ Some v))
made-go None = inr (λ m. let e = m.1 in cc)
made-go (Some v) = inl (v, refl)

spatial-dec : (P : Problem) (d : Decision) → Decided (IsSpatial P d)
spatial-dec P (attaching h f) = inl tt
spatial-dec P (choose h q) = true-dec (is_bundle (requirement_namespace P.world.known q) || is_package (requirement_namespace P.world.known q))
spatial-dec P (pick h q c) = true-dec (is_bundle (requirement_namespace P.world.known q) || is_package (requirement_namespace P.world.known q))

pub closed-dec : (P : Problem) (D : Made) (c : RevisionId) → Decided (IsDecided P D c)
closed-dec P D c = either-dec (force-dec P.world.wirings c) (both-dec (item-dec rev-dec c (members P D)) (all-dec (λ d. IsSpatial P d → IsMade D d) (λ d. if-dec (spatial-dec P d) (made-go (value_made D d))) (due_decisions P D c)))

reached-steps : (K : List Known) (W : List Wiring) (r : RevisionId) → Steps (BundleWire K W r) (Reexports K W) (providers W)
reached-steps K W r = record {
  same = rev-dec;
  start = bundle-dec K W r;
  go = reexport-dec K W;
  begins = λ c w. provider-in W r w.wire c w.has w.provider;
  leads = λ c d w. provider-in W c w.wire d w.has w.provider;
}

reach-reached : {K : List Known} {W : List Wiring} {r c : RevisionId} → Reach (BundleWire K W r) (Reexports K W) c → ReachedFrom K W r c
reach-reached (starts b) = first b
reach-reached (goes l w) = more (reach-reached l) w

reached-reach : {K : List Known} {W : List Wiring} {r c : RevisionId} → ReachedFrom K W r c → Reach (BundleWire K W r) (Reexports K W) c
reached-reach (first b) = starts b
reached-reach (more l w) = goes (reached-reach l) w

pub settled-dec : (P : Problem) (D : Made) (r : RevisionId) → Decided (IsSettled P D r)
settled-dec P D r =
    let all = closure (BundleWire P.world.known (partial P D) r) (Reexports P.world.known (partial P D)) (providers (partial P D)) (reached-steps P.world.known (partial P D) r) in
    map-dec (λ a. record { own = a.0; reached = λ c l. a.1 c ((all.is c).1 (reached-reach l)) }) (λ s. (s.own, λ c i. s.reached c (reach-reached ((all.is c).0 i))))
    (both-dec (closed-dec P D r) (all-dec (IsDecided P D) (closed-dec P D) all.all))

-- ---- implied constraints

abbrev pub Pair : Type 0
Pair = RevisionId × List ℕ

pair-dec : (n m : Pair) → Decided (n ≡ m)
pair-dec n m = map-dec (λ e. ap₂ (λ a b. let p : Pair = (a, b) in p) e.0 e.1) (λ e. (ap (λ (p : Pair). p.0) e, ap (λ (p : Pair). p.1) e)) (both-dec (rev-dec n.0 m.0) (text-dec n.1 m.1))

abbrev Seen : List Known → List Wiring → (RevisionId → Type 0) → RevisionId → Pair → Type 0
Seen K W A r n = A r × (A n.0 × ((o : RevisionId) × (i : ℕ) × HasCapability K W n.0 o i × (IsTrue (is_package (capability_namespace K o i)) × (In n.1 (used_packages K o i) × Sources K W r (capability_name K o i) n.0))))

abbrev Goes : List Known → List Wiring → (RevisionId → Type 0) → Pair → Pair → Type 0
Goes K W A n m = A m.0 × (Sources K W n.0 n.1 m.0 × ExportUses K W m.0 n.1 m.1)

seen-of : {K : List Known} {W : List Wiring} (A : RevisionId → Type 0) {r : RevisionId} (p : List ℕ) (n : Pair) → A r → Sources K W r p n.0 → A n.0 → ExportUses K W n.0 p n.1 → Seen K W A r n
seen-of {K = K} {W = W} A {r = r} p n a s b x = (a, (b, (x.owner, x.index, x.has, (x.export.0, (x.uses, subst (λ q. Sources K W r q n.0) (sym x.export.1) s)))))

implied-reach : {K : List Known} {W : List Wiring} {A : RevisionId → Type 0} {r e : RevisionId} {u : List ℕ} → Implied K W A r e u → Reach (Seen K W A r) (Goes K W A) (e, u)
implied-reach {A = A} (seen {e = e} {p = p} {u = u} a s b x) = starts (seen-of A p (e, u) a s b x)
implied-reach (follows i s b x) = goes (implied-reach i) (b, (s, x))

reach-implied : {K : List Known} {W : List Wiring} {A : RevisionId → Type 0} {r : RevisionId} {n : Pair} → Reach (Seen K W A r) (Goes K W A) n → Implied K W A r n.0 n.1
reach-implied (starts s) = seen s.0 s.1.1.3.1.1 s.1.0 (record { owner = s.1.1.0; index = s.1.1.1; has = s.1.1.2; export = (s.1.1.3.0, refl); uses = s.1.1.3.1.0 })
reach-implied (goes g h) = follows (reach-implied g) h.1.0 h.0 h.1.1

abbrev pub all_uses : List Known → List Wiring → List RevisionId → List (List ℕ)
all_uses K W revs = flat_map (λ o. flat_map (λ i. (used_packages K o i)) (below ((capability_count K) o))) (revs ++ all_fragments W)

abbrev pub all_pairs : List Known → List Wiring → List RevisionId → List Pair
all_pairs K W revs = flat_map (λ d. map (λ v. let n : Pair = (d, v) in n) (all_uses K W revs)) revs

uses-in : (K : List Known) (W : List Wiring) (revs : List RevisionId) (d o : RevisionId) (i : ℕ) (u : List ℕ) → In d revs → HasCapability K W d o i → In u (used_packages K o i) → In u (all_uses K W revs)
uses-in K W revs d o i u j h k = in-flat_map (λ o. flat_map (λ i. (used_packages K o i)) (below ((capability_count K) o))) (revs ++ all_fragments W) o u (owner h.0)
    (in-flat_map (λ i. (used_packages K o i)) (below ((capability_count K) o)) i u (in-below ((capability_count K) o) i h.1) k)
  where
    owner : Owns W d o → In o (revs ++ all_fragments W)
    owner (inl e) = in-append_left revs (all_fragments W) o (subst (λ x. In x revs) (sym e) j)
    owner (inr a) = in-append_right revs (all_fragments W) o (in-flat_map (λ (g : Wiring). g.fragments) W a.wiring o a.stands a.has)

pair-in : (K : List Known) (W : List Wiring) (revs : List RevisionId) (n : Pair) → In n.0 revs → In n.1 (all_uses K W revs) → In n (all_pairs K W revs)
pair-in K W revs n i j = in-flat_map (λ d. map (λ v. let n : Pair = (d, v) in n) (all_uses K W revs)) revs n.0 n i (in-map (λ v. let m : Pair = (n.0, v) in m) (all_uses K W revs) n.1 j)

implied-steps : (K : List Known) (W : List Wiring) (A : RevisionId → Type 0) → ((x : RevisionId) → Decided (A x)) → (revs : List RevisionId) → ((x : RevisionId) → A x → In x revs) → (r : RevisionId) → Steps (Seen K W A r) (Goes K W A) (all_pairs K W revs)
implied-steps K W A dec revs sub r = record {
  same = pair-dec;
  start = λ n. both-dec (dec r) (both-dec (dec n.0) (some_capability-dec K W n.0 (λ o i. IsTrue (is_package (capability_namespace K o i)) × (In n.1 (used_packages K o i) × Sources K W r (capability_name K o i) n.0))
      (λ o i. both-dec (true-dec (is_package (capability_namespace K o i))) (both-dec (item-dec text-dec n.1 (used_packages K o i)) (sources-dec K W r (capability_name K o i) n.0)))));
  go = λ n m. both-dec (dec m.0) (both-dec (sources-dec K W n.0 n.1 m.0) (uses-dec K W m.0 n.1 m.1));
  begins = λ n s. pair-in K W revs n (sub n.0 s.1.0) (uses-in K W revs n.0 s.1.1.0 s.1.1.1 n.1 (sub n.0 s.1.0) s.1.1.2 s.1.1.3.1.0);
  leads = λ n m g. pair-in K W revs m (sub m.0 g.0) (uses-in K W revs m.0 g.1.1.owner g.1.1.index m.1 (sub m.0 g.0) g.1.1.has g.1.1.uses);
}

-- whether some pair of r clashes
pub some_clash-dec : (K : List Known) (W : List Wiring) (A : RevisionId → Type 0) → ((x : RevisionId) → Decided (A x)) → (revs : List RevisionId) → ((x : RevisionId) → A x → In x revs) → (r : RevisionId) → Decided ((e : RevisionId) × (u : List ℕ) × Implied K W A r e u × Clash K W r e u)
some_clash-dec K W A dec revs sub r =
    let all = closure (Seen K W A r) (Goes K W A) (all_pairs K W revs) (implied-steps K W A dec revs sub r) in
    map-dec (λ a. (a.0.0, a.0.1, reach-implied ((all.is a.0).0 a.1), a.2)) (λ b. let n : Pair = (b.0, b.1) in (n, (all.is n).1 (implied-reach b.2), b.3))
    (any-dec (λ n. Clash K W r n.0 n.1) (λ n. clash-dec K W r n.0 n.1) all.all)

-- ---- hopeless

option-dec : (o : Option ℕ) (v : ℕ) → Decided (o ≡ Some v)
option-dec None v = inr (λ e. cc)
option-dec (Some w) v = map-dec (ap Some) (λ e. Rattle.osgi_resolver_theory.proofs.Values.some-inj w v e) (nat-dec w v)

abbrev Lacks : Problem → ReqRef → Type 0
Lacks P q = IsTrue (is_effective P.world.known q) × ((¬ IsTrue (is_optional P.world.known q)) × (candidates P q ≡ []))

no_candidate-dec : (P : Problem) (D : Made) → Decided ((m : RevisionId) × In m (members P D) × ((q : ReqRef) × In q (payload P D m) × Lacks P q))
no_candidate-dec P D = any-dec (λ m. (q : ReqRef) × In q (payload P D m) × Lacks P q)
    (λ m. any-dec (Lacks P) (λ q. both-dec (true-dec (is_effective P.world.known q)) (both-dec (not-dec (true-dec (is_optional P.world.known q))) (empty-dec (candidates P q)))) (payload P D m)) (members P D)

abbrev Refuses : Problem → Made → RevisionId → ReqRef → Type 0
Refuses P D m q = IsTrue (is_effective P.world.known q) × ((¬ IsTrue (is_optional P.world.known q)) × (IsTrue (is_multiple P.world.known q) × ((c : CapRef) → In c (candidates P q) → value_made D (pick m q c) ≡ Some 1)))

refused-dec : (P : Problem) (D : Made) → Decided ((m : RevisionId) × In m (members P D) × ((q : ReqRef) × In q (payload P D m) × Refuses P D m q))
refused-dec P D = any-dec (λ m. (q : ReqRef) × In q (payload P D m) × Refuses P D m q)
    (λ m. any-dec (Refuses P D m) (λ q. both-dec (true-dec (is_effective P.world.known q)) (both-dec (not-dec (true-dec (is_optional P.world.known q))) (both-dec (true-dec (is_multiple P.world.known q))
    (all-dec (λ c. value_made D (pick m q c) ≡ Some 1) (λ c. option-dec (value_made D (pick m q c)) 1) (candidates P q))))) (payload P D m)) (members P D)

abbrev Differs : List Known → Wire → Wire → Type 0
Differs K v w = IsTrue (is_package (capability_namespace K v.capability.owner v.capability.index)) × (IsExport K w.capability.owner w.capability.index (capability_name K v.capability.owner v.capability.index) × (v.capability.provider ≢ w.capability.provider))

providers-dec : (P : Problem) (D : Made) → Decided ((m : RevisionId) × In m (members P D) × ((v : Wire) × HasWire (partial P D) m v × ((w : Wire) × HasWire (partial P D) m w × Differs P.world.known v w)))
providers-dec P D = any-dec (λ m. (v : Wire) × HasWire (partial P D) m v × ((w : Wire) × HasWire (partial P D) m w × Differs P.world.known v w))
    (λ m. some_wire-dec (partial P D) m (λ v. (w : Wire) × HasWire (partial P D) m w × Differs P.world.known v w)
    (λ v. some_wire-dec (partial P D) m (Differs P.world.known v) (λ w. both-dec (true-dec (is_package (capability_namespace P.world.known v.capability.owner v.capability.index))) (both-dec (export-dec P.world.known w.capability.owner w.capability.index (capability_name P.world.known v.capability.owner v.capability.index)) (not-dec (rev-dec v.capability.provider w.capability.provider)))))) (members P D)

versions-dec : (P : Problem) (D : Made) → Decided ((m : RevisionId) × In m (members P D) × Two (λ e f. symbolic_name P.world.known e ≡ symbolic_name P.world.known f) (fragments_of P D m))
versions-dec P D = any-dec (λ m. Two (λ e f. symbolic_name P.world.known e ≡ symbolic_name P.world.known f) (fragments_of P D m)) (λ m. two-dec (λ e f. symbolic_name P.world.known e ≡ symbolic_name P.world.known f) (λ e f. text-dec (symbolic_name P.world.known e) (symbolic_name P.world.known f)) (fragments_of P D m)) (members P D)

abbrev news : Problem → Made → List RevisionId
news P D = members P D ++ flat_map (fragments_of P D) (members P D)

abbrev presents : List Wiring → List RevisionId
presents W = map (λ (g : Wiring). g.revision) W ++ all_fragments W

new-in : (P : Problem) (D : Made) (r : RevisionId) → IsNew P D r → In r (news P D)
new-in P D r (inl i) = in-append_left (members P D) (flat_map (fragments_of P D) (members P D)) r i
new-in P D r (inr h) = in-append_right (members P D) (flat_map (fragments_of P D) (members P D)) r (in-flat_map (fragments_of P D) (members P D) h.0 r h.1 h.2)

in-new : (P : Problem) (D : Made) (r : RevisionId) → In r (news P D) → IsNew P D r
in-new P D r i = elim (in-append_cases (members P D) (flat_map (fragments_of P D) (members P D)) r i) [ inl a ↦ inl a | inr b ↦ inr (flat_map-in (fragments_of P D) (members P D) r b) ]

present-in : (W : List Wiring) (r : RevisionId) → InUse W r → In r (presents W)
present-in W r (inl i) = in-append_left (map (λ (g : Wiring). g.revision) W) (all_fragments W) r (subst (λ x. In x (map (λ (g : Wiring). g.revision) W)) i.revision (in-map (λ (g : Wiring). g.revision) W i.wiring i.stands))
present-in W r (inr h) = in-append_right (map (λ (g : Wiring). g.revision) W) (all_fragments W) r (in-flat_map (λ (g : Wiring). g.fragments) W h.1.wiring r h.1.stands h.1.has)

in-present : (W : List Wiring) (r : RevisionId) → In r (presents W) → InUse W r
in-present W r i = elim (in-append_cases (map (λ (g : Wiring). g.revision) W) (all_fragments W) r i) [
  | inl a ↦ let m = map-in (λ (g : Wiring). g.revision) W r a in inl (record { wiring = m.0; stands = m.1; revision = sym m.2 })
  | inr b ↦ let m = flat_map-in (λ (g : Wiring). g.fragments) W r b in inr (m.0.revision, record { wiring = m.0; stands = m.1; revision = refl; has = m.2 })
]

rivals-dec : (K : List Known) (r s : RevisionId) → Decided (AreRivals K r s)
rivals-dec K r s = map-dec (λ a. record { different = a.0; name = a.1.0; current = (a.1.1.0, a.1.1.1.0); singletons = (a.1.1.1.1.0, a.1.1.1.1.1) }) (λ b. (b.different, (b.name, (b.current.0, (b.current.1, (b.singletons.0, b.singletons.1))))))
    (both-dec (not-dec (rev-dec r s)) (both-dec (text-dec ((symbolic_name K) r) ((symbolic_name K) s)) (both-dec (true-dec ((is_current K) r)) (both-dec (true-dec ((is_current K) s)) (both-dec (true-dec ((is_singleton K) r)) (true-dec ((is_singleton K) s)))))))

singletons-dec : (P : Problem) (D : Made) → Decided ((r : RevisionId) × In r (news P D) × ((s : RevisionId) × In s (presents (partial P D)) × AreRivals P.world.known r s))
singletons-dec P D = any-dec (λ r. (s : RevisionId) × In s (presents (partial P D)) × AreRivals P.world.known r s) (λ r. any-dec (AreRivals P.world.known r) (rivals-dec P.world.known r) (presents (partial P D))) (news P D)

offers-dec : (P : Problem) (D : Made) → Decided ((m : RevisionId) × In m (members P D) × ((w : Wire) × HasWire (partial P D) m w × (IsSettled P D w.capability.provider × ¬ OnOffer P.world.known (partial P D) w.capability)))
offers-dec P D = any-dec (λ m. (w : Wire) × HasWire (partial P D) m w × (IsSettled P D w.capability.provider × ¬ OnOffer P.world.known (partial P D) w.capability))
    (λ m. some_wire-dec (partial P D) m (λ w. IsSettled P D w.capability.provider × ¬ OnOffer P.world.known (partial P D) w.capability) (λ w. both-dec (settled-dec P D w.capability.provider) (not-dec (offer-dec P.world.known (partial P D) w.capability)))) (members P D)

settled-present : (P : Problem) (D : Made) (x : RevisionId) → IsSettled P D x → In x (presents (partial P D))
settled-present P D x s = present-in (partial P D) x (inl (in_force-in P D x (elim s.own [ inl o ↦ inl o | inr m ↦ inr m.0 ])))

pub clashes-dec : (P : Problem) (D : Made) → Decided ((m : RevisionId) × In m (members P D) × ((e : RevisionId) × (u : List ℕ) × Implied P.world.known (partial P D) (IsSettled P D) m e u × Clash P.world.known (partial P D) m e u))
clashes-dec P D = any-dec (λ m. (e : RevisionId) × (u : List ℕ) × Implied P.world.known (partial P D) (IsSettled P D) m e u × Clash P.world.known (partial P D) m e u)
    (some_clash-dec P.world.known (partial P D) (IsSettled P D) (settled-dec P D) (presents (partial P D)) (settled-present P D)) (members P D)

-- it is decided whether a member makes a word hopeless
pub member-dec : (P : Problem) (D : Made) → Decided (HopelessMember P D)
member-dec P D = map-dec to from
    (either-dec (no_candidate-dec P D) (either-dec (refused-dec P D) (either-dec (providers-dec P D) (either-dec (versions-dec P D) (either-dec (singletons-dec P D) (either-dec (offers-dec P D) (clashes-dec P D)))))))
  where
    to : ((m : RevisionId) × In m (members P D) × ((q : ReqRef) × In q (payload P D m) × Lacks P q))
        ⊎ (((m : RevisionId) × In m (members P D) × ((q : ReqRef) × In q (payload P D m) × Refuses P D m q))
        ⊎ (((m : RevisionId) × In m (members P D) × ((v : Wire) × HasWire (partial P D) m v × ((w : Wire) × HasWire (partial P D) m w × Differs P.world.known v w)))
        ⊎ (((m : RevisionId) × In m (members P D) × Two (λ e f. symbolic_name P.world.known e ≡ symbolic_name P.world.known f) (fragments_of P D m))
        ⊎ (((r : RevisionId) × In r (news P D) × ((s : RevisionId) × In s (presents (partial P D)) × AreRivals P.world.known r s))
        ⊎ (((m : RevisionId) × In m (members P D) × ((w : Wire) × HasWire (partial P D) m w × (IsSettled P D w.capability.provider × ¬ OnOffer P.world.known (partial P D) w.capability)))
        ⊎ ((m : RevisionId) × In m (members P D) × ((e : RevisionId) × (u : List ℕ) × Implied P.world.known (partial P D) (IsSettled P D) m e u × Clash P.world.known (partial P D) m e u)))))))
        → HopelessMember P D
    to (inl a) = check.no_candidate a.0 a.2.0 a.1 a.2.1 (record { effective = a.2.2.0; mandatory = a.2.2.1.0 }) a.2.2.1.1
    to (inr (inl a)) = check.all_refused a.0 a.2.0 a.1 a.2.1 (record { effective = a.2.2.0; mandatory = a.2.2.1.0 }) a.2.2.1.1.0 a.2.2.1.1.1
    to (inr (inr (inl a))) = check.two_providers a.0 a.2.0.capability.provider a.2.2.0.capability.provider (capability_name P.world.known a.2.0.capability.owner a.2.0.capability.index) a.1
        (record { wire = a.2.0; has = a.2.1; export = (a.2.2.2.0, refl); provider = refl }) (record { wire = a.2.2.0; has = a.2.2.1; export = a.2.2.2.1.0; provider = refl }) a.2.2.2.1.1
    to (inr (inr (inr (inl a)))) = check.two_versions a.0 a.1 a.2
    to (inr (inr (inr (inr (inl a))))) = check.two_singletons a.0 a.2.0 (in-new P D a.0 a.1) (in-present (partial P D) a.2.0 a.2.1) a.2.2
    to (inr (inr (inr (inr (inr (inl a)))))) = check.not_offered a.0 a.2.0 a.1 a.2.1 a.2.2.0 a.2.2.1
    to (inr (inr (inr (inr (inr (inr a)))))) = check.clashes a.0 a.2.0 a.2.1 a.1 a.2.2 a.2.3

    from : HopelessMember P D → ((m : RevisionId) × In m (members P D) × ((q : ReqRef) × In q (payload P D m) × Lacks P q))
        ⊎ (((m : RevisionId) × In m (members P D) × ((q : ReqRef) × In q (payload P D m) × Refuses P D m q))
        ⊎ (((m : RevisionId) × In m (members P D) × ((v : Wire) × HasWire (partial P D) m v × ((w : Wire) × HasWire (partial P D) m w × Differs P.world.known v w)))
        ⊎ (((m : RevisionId) × In m (members P D) × Two (λ e f. symbolic_name P.world.known e ≡ symbolic_name P.world.known f) (fragments_of P D m))
        ⊎ (((r : RevisionId) × In r (news P D) × ((s : RevisionId) × In s (presents (partial P D)) × AreRivals P.world.known r s))
        ⊎ (((m : RevisionId) × In m (members P D) × ((w : Wire) × HasWire (partial P D) m w × (IsSettled P D w.capability.provider × ¬ OnOffer P.world.known (partial P D) w.capability)))
        ⊎ ((m : RevisionId) × In m (members P D) × ((e : RevisionId) × (u : List ℕ) × Implied P.world.known (partial P D) (IsSettled P D) m e u × Clash P.world.known (partial P D) m e u)))))))
    from (check.no_candidate m q i j n c) = inl (m, i, (q, j, (n.effective, (n.mandatory, c))))
    from (check.all_refused m q i j n k all) = inr (inl (m, i, (q, j, (n.effective, (n.mandatory, (k, all))))))
    from (check.two_providers m x y p i a b d) = inr (inr (inl (m, i, (a.wire, a.has, (b.wire, b.has, (a.export.0, ((b.export.0, b.export.1 ∙ sym a.export.1), λ s. d (sym a.provider ∙ s ∙ b.provider))))))))
    from (check.two_versions m i t) = inr (inr (inr (inl (m, i, t))))
    from (check.two_singletons r s a b d) = inr (inr (inr (inr (inl (r, new-in P D r a, (s, present-in (partial P D) s b, d))))))
    from (check.not_offered m w i h s n) = inr (inr (inr (inr (inr (inl (m, i, (w, h, (s, n))))))))
    from (check.clashes m e u i p c) = inr (inr (inr (inr (inr (inr (m, i, (e, u, p, c)))))))

-- and so whether a word is hopeless
pub hopeless-dec : (P : Problem) → IsProblem P → (w : List ℕ) → Decided (IsHopeless P w)
hopeless-dec P L w = let same = hopeless-iff_member P L (made_by P w) in map-dec same.1 same.0 (member-dec P (made_by P w))

-- ---- where nothing clashes, one set of sources contains the other

abbrev pub OneContains : List Known → List Wiring → RevisionId → RevisionId → List ℕ → Type 0
OneContains K W r e u = ((x : RevisionId) → Sources K W r u x → Sources K W e u x) ⊎ ((x : RevisionId) → Sources K W e u x → Sources K W r u x)

contained : (K : List Known) (W : List Wiring) (r e : RevisionId) (u : List ℕ) → ¬ ((x : RevisionId) × In x (r ∷ providers W) × (Sources K W r u x × ¬ Sources K W e u x)) → (x : RevisionId) → Sources K W r u x → Sources K W e u x
contained K W r e u none x s = elim (sources-dec K W e u x) [ inl t ↦ t | inr n ↦ absurd (none (x, source-range K W r u x s, (s, n))) ]

contains-go : (K : List Known) (W : List Wiring) (r e : RevisionId) (u : List ℕ) → ¬ Clash K W r e u → Decided ((x : RevisionId) × In x (r ∷ providers W) × (Sources K W r u x × ¬ Sources K W e u x)) →
    Decided ((x : RevisionId) × In x (e ∷ providers W) × (Sources K W e u x × ¬ Sources K W r u x)) → OneContains K W r e u
contains-go K W r e u n (inl a) (inl b) = absurd (n (record { ours = a.0; ours_in = a.2.0; ours_out = a.2.1; theirs = b.0; theirs_in = b.2.0; theirs_out = b.2.1 }))
contains-go K W r e u n (inl a) (inr none) = inr (contained K W e r u none)
contains-go K W r e u n (inr none) b = inl (contained K W r e u none)

contains-not : (K : List Known) (W : List Wiring) (r e : RevisionId) (u : List ℕ) → OneContains K W r e u → ¬ Clash K W r e u
contains-not K W r e u (inl f) c = c.ours_out (f c.ours c.ours_in)
contains-not K W r e u (inr f) c = c.theirs_out (f c.theirs c.theirs_in)

pub no_clash-contains : (K : List Known) (W : List Wiring) (r e : RevisionId) (u : List ℕ) → (¬ Clash K W r e u) ↔ OneContains K W r e u
no_clash-contains K W r e u = (
  λ n. contains-go K W r e u n
      (any-dec (λ x. Sources K W r u x × ¬ Sources K W e u x) (λ x. both-dec (sources-dec K W r u x) (not-dec (sources-dec K W e u x))) (r ∷ providers W))
      (any-dec (λ x. Sources K W e u x × ¬ Sources K W r u x) (λ x. both-dec (sources-dec K W e u x) (not-dec (sources-dec K W r u x))) (e ∷ providers W)),
  contains-not K W r e u,
)
