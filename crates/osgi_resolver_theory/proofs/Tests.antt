-- What the tests of candidates decide.
use Rattle.std.proofs.Common.{◌≡◌, ◌≢◌, ℕ, ◌<◌, ◌⊎◌, inl, inr, ◌&&◌, ◌||◌, not, Bool, true, false, IsTrue, nat_lt, bytes_eq, List, Option, None, Some, refl, sym, ◌∙◌, subst}
use Rattle.std.specs.Bool.{Decides}
use Rattle.std.specs.List.{list_any}
use Rattle.std.specs.Option.{option_map_or}
use Rattle.std.proofs.lemmas.Bool.Decides.{Decides-and, Decides-like, Decides-ltb, Decides-not, Decides-or}
use Rattle.std.proofs.lemmas.Slice.Eq.{bytes_eq-Decides}
use Rattle.osgi_base.specs.declared.ids.RevisionId.{RevisionId}
use Rattle.osgi_capability.specs.computed.Satisfied.{is_satisfied}
use Rattle.osgi_capability.proofs.Meaning.{satisfied_decides}
use Rattle.osgi_world.specs.Candidates.{IsCandidate}
use Rattle.osgi_world.specs.DueDecisions.{is_in_force}
use Rattle.osgi_world.specs.Lists.{In}
use Rattle.osgi_world.specs.Lookups.{SatisfiesAs, SatisfiesAt, capability_at, capability_count, capability_name, capability_namespace, is_current, is_dynamic, is_fragment, requirement_at, requirement_count, revision_at}
use Rattle.osgi_world.specs.Satisfaction.{is_bundle, is_package}
use Rattle.osgi_world.specs.Wirings.{Attached, ImportsElsewhere, InForce, IsExport, OnOffer, Owns}
use Rattle.osgi_world.specs.declared.capability.Capability.{Capability}
use Rattle.osgi_world.specs.declared.problem.Problem.{Problem}
use Rattle.osgi_world.specs.declared.requirement.Requirement.{Requirement}
use Rattle.osgi_world.specs.declared.revision.Revision.{Revision}
use Rattle.osgi_world.specs.declared.wiring.CapRef.{CapRef}
use Rattle.osgi_world.specs.declared.wiring.ReqRef.{ReqRef}
use Rattle.osgi_world.specs.declared.wiring.Wire.{Wire}
use Rattle.osgi_world.specs.declared.wiring.Wiring.{Wiring}
use Rattle.osgi_world.specs.declared.world.Known.{Known}
use Rattle.osgi_resolver_theory.proofs.Lists.{any-in, in-any}
use Rattle.osgi_resolver_theory.proofs.Values.{rev-eq, rev-same}
use Rattle.osgi_resolver_theory.specs.WorldProblems.{is_at_hand, is_attached, is_candidate, is_import_from_elsewhere, is_on_offer, is_own_bundle, is_owner, is_there, is_withdrawn, imports_elsewhere, matching_fragments, same_revision, satisfies}

-- ---- tests of lists and options

any_decides : {X : Type 0} (p : X → Bool) (P : X → Type 0) → ((x : X) → Decides (p x) (P x)) → (xs : List X) → Decides (list_any p xs) ((x : X) × In x xs × P x)
any_decides p P each xs = (λ t. let a = any-in p xs t in (a.0, a.1, (each a.0).0 a.2), λ a. in-any p xs a.0 a.1 ((each a.0).1 a.2))

itself : (b : Bool) → Decides b (IsTrue b)
itself b = (λ e. e, λ e. e)

some-of : {X : Type 0} (f : X → Bool) (o : Option X) → option_map_or f o false ≡ true → (x : X) × (o ≡ Some x) × (f x ≡ true)
some-of f None e = cc
some-of f (Some x) e = (x, refl, e)

of-some : {X : Type 0} (f : X → Bool) (o : Option X) (x : X) → o ≡ Some x → f x ≡ true → option_map_or f o false ≡ true
of-some f o x e t = subst (λ o. option_map_or f o false ≡ true) (sym e) t

-- ---- what is on offer

rev_decides : (r s : RevisionId) → Decides (same_revision r s) (r ≡ s)
rev_decides r s = (rev-eq r s, rev-same r s)

pub force_decides : (W : List Wiring) (r : RevisionId) → Decides (is_in_force W r) (InForce W r)
force_decides W r =
    Decides-like (is_in_force W r) (λ a. record { wiring = a.0; stands = a.1; revision = a.2 }) (λ b. (b.wiring, b.stands, b.revision))
    (any_decides (λ (g : Wiring). same_revision g.revision r) (λ (g : Wiring). g.revision ≡ r) (λ g. rev_decides g.revision r) W)

listed_decides : (r : RevisionId) (rs : List RevisionId) → Decides (list_any (λ s. same_revision r s) rs) (In r rs)
listed_decides r rs = Decides-like (list_any (λ s. same_revision r s) rs) (λ a. subst (λ s. In s rs) (sym a.2) a.1) (λ i. (r, i, refl)) (any_decides (λ s. same_revision r s) (λ s. r ≡ s) (rev_decides r) rs)

attached_decides : (W : List Wiring) (h f : RevisionId) → Decides (is_attached W h f) (Attached W h f)
attached_decides W h f =
    Decides-like (is_attached W h f) (λ a. record { wiring = a.0; stands = a.1; revision = a.2.0; has = a.2.1 }) (λ b. (b.wiring, b.stands, (b.revision, b.has)))
    (any_decides (λ (g : Wiring). same_revision g.revision h && list_any (λ e. same_revision f e) g.fragments) (λ (g : Wiring). (g.revision ≡ h) × In f g.fragments)
    (λ g. Decides-and (same_revision g.revision h) (list_any (λ e. same_revision f e) g.fragments) (rev_decides g.revision h) (listed_decides f g.fragments)) W)

owner_decides : (W : List Wiring) (r o : RevisionId) → Decides (is_owner W r o) (Owns W r o)
owner_decides W r o = Decides-or (same_revision o r) (is_attached W r o) (rev_decides o r) (attached_decides W r o)

export_decides : (K : List Known) (o : RevisionId) (i : ℕ) (p : List ℕ) → Decides (is_package (capability_namespace K o i) && bytes_eq (capability_name K o i) p) (IsExport K o i p)
export_decides K o i p = Decides-and (is_package (capability_namespace K o i)) (bytes_eq (capability_name K o i) p) (itself (is_package (capability_namespace K o i))) (bytes_eq-Decides (capability_name K o i) p)

abbrev FromElsewhere : List Known → RevisionId → List ℕ → Wire → Type 0
FromElsewhere K r p w = IsExport K w.capability.owner w.capability.index p × (w.capability.provider ≢ r)

import_decides : (K : List Known) (r : RevisionId) (p : List ℕ) (w : Wire) → Decides (is_import_from_elsewhere K r p w) (FromElsewhere K r p w)
import_decides K r p w = Decides-and
    (is_package (capability_namespace K w.capability.owner w.capability.index) && bytes_eq (capability_name K w.capability.owner w.capability.index) p) (not (same_revision w.capability.provider r))
    (export_decides K w.capability.owner w.capability.index p) (Decides-not (same_revision w.capability.provider r) (rev_decides w.capability.provider r))

elsewhere_decides : (K : List Known) (W : List Wiring) (r : RevisionId) (p : List ℕ) → Decides (imports_elsewhere K W r p) (ImportsElsewhere K W r p)
elsewhere_decides K W r p =
    Decides-like (imports_elsewhere K W r p)
    (λ a. record {
      from = a.2.1.0.capability.provider;
      imports = record { wire = a.2.1.0; has = record { wiring = a.0; stands = a.1; revision = a.2.0; has = a.2.1.1 }; export = a.2.1.2.0; provider = refl };
      elsewhere = a.2.1.2.1;
    })
    (λ b. (b.imports.has.wiring, b.imports.has.stands, (b.imports.has.revision, (b.imports.wire, b.imports.has.has, (b.imports.export, λ e. b.elsewhere (sym b.imports.provider ∙ e))))))
    (any_decides (λ (g : Wiring). same_revision g.revision r && list_any (is_import_from_elsewhere K r p) g.wires) (λ (g : Wiring). (g.revision ≡ r) × ((w : Wire) × In w g.wires × FromElsewhere K r p w))
    (λ g. Decides-and (same_revision g.revision r) (list_any (is_import_from_elsewhere K r p) g.wires) (rev_decides g.revision r) (any_decides (is_import_from_elsewhere K r p) (FromElsewhere K r p) (import_decides K r p) g.wires)) W)

abbrev Withdrawn : List Known → List Wiring → CapRef → Type 0
Withdrawn K W c = IsTrue (is_package (capability_namespace K c.owner c.index)) × ImportsElsewhere K W c.provider (capability_name K c.owner c.index)

withdrawn_decides : (K : List Known) (W : List Wiring) (c : CapRef) → Decides (is_withdrawn K W c) (Withdrawn K W c)
withdrawn_decides K W c = Decides-and
    (is_package (capability_namespace K c.owner c.index)) (imports_elsewhere K W c.provider (capability_name K c.owner c.index))
    (itself (is_package (capability_namespace K c.owner c.index))) (elsewhere_decides K W c.provider (capability_name K c.owner c.index))

offer_decides : (K : List Known) (W : List Wiring) (c : CapRef) → Decides (is_on_offer K W c) (OnOffer K W c)
offer_decides K W c =
    Decides-like (is_on_offer K W c) (λ a. record { has = a.0; stays = λ p e x. a.1 (e.0, subst (ImportsElsewhere K W c.provider) (sym e.1) x) }) (λ b. (b.has, λ w. b.stays (capability_name K c.owner c.index) (w.0, refl) w.1))
    (Decides-and (is_owner W c.provider c.owner && nat_lt c.index (capability_count K c.owner)) (not (is_withdrawn K W c))
    (Decides-and (is_owner W c.provider c.owner) (nat_lt c.index (capability_count K c.owner)) (owner_decides W c.provider c.owner) (Decides-ltb c.index (capability_count K c.owner)))
    (Decides-not (is_withdrawn K W c) (withdrawn_decides K W c)))

abbrev AtHand : List Known → CapRef → Type 0
AtHand K c = ((c.owner ≡ c.provider) ⊎ In c.owner (matching_fragments K c.provider)) × (c.index < capability_count K c.owner)

hand_decides : (K : List Known) (c : CapRef) → Decides (is_at_hand K c) (AtHand K c)
hand_decides K c = Decides-and
    (same_revision c.owner c.provider || list_any (λ f. same_revision c.owner f) (matching_fragments K c.provider)) (nat_lt c.index (capability_count K c.owner))
    (Decides-or (same_revision c.owner c.provider) (list_any (λ f. same_revision c.owner f) (matching_fragments K c.provider)) (rev_decides c.owner c.provider) (listed_decides c.owner (matching_fragments K c.provider)))
    (Decides-ltb c.index (capability_count K c.owner))

abbrev Stands : List Known → List Wiring → CapRef → Type 0
Stands K W c =
    (InForce W c.provider × OnOffer K W c)
    ⊎ (¬ InForce W c.provider) × ((c.owner ≡ c.provider) ⊎ In c.owner (matching_fragments K c.provider)) × (c.index < capability_count K c.owner)

there_decides : (K : List Known) (W : List Wiring) (c : CapRef) → Decides (is_there K W c) (Stands K W c)
there_decides K W c =
    Decides-like (is_there K W c) (λ a. elim a [ inl x ↦ inl x | inr y ↦ inr (y.0, y.1.0, y.1.1) ]) (λ b. elim b [ inl x ↦ inl x | inr y ↦ inr (y.0, (y.1, y.2)) ])
    (Decides-or (is_in_force W c.provider && is_on_offer K W c) (not (is_in_force W c.provider) && is_at_hand K c)
    (Decides-and (is_in_force W c.provider) (is_on_offer K W c) (force_decides W c.provider) (offer_decides K W c))
    (Decides-and (not (is_in_force W c.provider)) (is_at_hand K c) (Decides-not (is_in_force W c.provider) (force_decides W c.provider)) (hand_decides K c)))

-- ---- what satisfies

static-go : (a b : Bool) → a ≡ true → (not a && b) ≡ false
static-go true b e = refl
static-go false b e = cc

-- requirements come before dynamic imports
not-dynamic : (K : List Known) (q : ReqRef) → q.index < requirement_count K q.owner → is_dynamic K q ≡ false
not-dynamic K q h = static-go (nat_lt q.index (requirement_count K q.owner)) _ ((Decides-ltb q.index (requirement_count K q.owner)).1 h)

abbrev by_provider : List Known → CapRef → Requirement → Capability → Bool
by_provider K c n a = option_map_or (λ (v : Revision). is_satisfied n a v.name v.version) (revision_at K c.provider) false

abbrev by_capability : List Known → CapRef → Requirement → Bool
by_capability K c n = option_map_or (λ (a : Capability). by_provider K c n a) (capability_at K c.owner c.index) false

satisfies-at : (K : List Known) (q : ReqRef) (c : CapRef) → is_dynamic K q ≡ false → satisfies K q c ≡ true → SatisfiesAt K q c
satisfies-at K q c static t =
    let n = some-of (by_capability K c) (requirement_at K q) t in
    let a = some-of (by_provider K c n.0) (capability_at K c.owner c.index) n.2 in
    let v = some-of (λ (v : Revision). is_satisfied n.0 a.0 v.name v.version) (revision_at K c.provider) a.2 in
    record {
      requirement = n.0;
      capability = a.0;
      provider = v.0;
      requirement_is = n.1;
      capability_is = a.1;
      provider_is = v.1;
      satisfies = subst (λ b. SatisfiesAs b n.0 a.0 v.0) (sym static) ((satisfied_decides n.0 a.0 v.0.name v.0.version).0 v.2);
    }

at-satisfies : (K : List Known) (q : ReqRef) (c : CapRef) → is_dynamic K q ≡ false → SatisfiesAt K q c → satisfies K q c ≡ true
at-satisfies K q c static s =
    of-some (by_capability K c) (requirement_at K q) s.requirement s.requirement_is
    (of-some (by_provider K c s.requirement) (capability_at K c.owner c.index) s.capability s.capability_is
    (of-some (λ (v : Revision). is_satisfied s.requirement s.capability v.name v.version) (revision_at K c.provider) s.provider s.provider_is
    ((satisfied_decides s.requirement s.capability s.provider.name s.provider.version).1 (subst (λ b. SatisfiesAs b s.requirement s.capability s.provider) static s.satisfies))))

satisfies_decides : (K : List Known) (q : ReqRef) (c : CapRef) → q.index < requirement_count K q.owner → Decides (satisfies K q c) (SatisfiesAt K q c)
satisfies_decides K q c h = (satisfies-at K q c (not-dynamic K q h), at-satisfies K q c (not-dynamic K q h))

own_decides : (K : List Known) (q : ReqRef) (c : CapRef) → Decides (is_own_bundle K q c) (IsTrue (is_bundle (capability_namespace K c.owner c.index)) × (c.provider ≡ q.owner))
own_decides K q c = Decides-and (is_bundle (capability_namespace K c.owner c.index)) (same_revision c.provider q.owner) (itself (is_bundle (capability_namespace K c.owner c.index))) (rev_decides c.provider q.owner)

pub candidate_decides : (P : Problem) (q : ReqRef) (c : CapRef) → q.index < requirement_count P.world.known q.owner → Decides (is_candidate P.world.known P.world.wirings q c) (IsCandidate P q c)
candidate_decides P q c h =
    Decides-like (is_candidate P.world.known P.world.wirings q c)
    (λ a. record { satisfies = a.0; current = a.1.0; no_fragment = a.1.1.0; not_owner = λ t e. a.1.1.1.0 (t, e); stands = a.1.1.1.1 })
    (λ b. (b.satisfies, (b.current, (b.no_fragment, ((λ t. b.not_owner t.0 t.1), b.stands)))))
    (Decides-and (satisfies P.world.known q c) _ (satisfies_decides P.world.known q c h)
    (Decides-and (is_current P.world.known c.provider) _ (itself (is_current P.world.known c.provider))
    (Decides-and (not (is_fragment P.world.known c.provider)) _ (Decides-not (is_fragment P.world.known c.provider) (itself (is_fragment P.world.known c.provider)))
    (Decides-and (not (is_own_bundle P.world.known q c)) (is_there P.world.known P.world.wirings c) (Decides-not (is_own_bundle P.world.known q c) (own_decides P.world.known q c)) (there_decides P.world.known P.world.wirings c)))))
