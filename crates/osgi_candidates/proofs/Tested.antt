-- What is tested of a capability says that it is a candidate.
use Rattle.std.proofs.Common.{◌≡◌, ◌==◌, ◌↔◌, ◌⊎◌, inl, inr, ℕ, ◌&&◌, List, refl, sym, ◌∙◌, ap, subst}
use Rattle.std.specs.Prelude.{Bool, true, false, IsSome, IsTrue, is_some, Option, None, Some, filter}
use Rattle.std.specs.BTreeMap.{get}
use Rattle.std.specs.Option.{option_map, option_map_or}
use Rattle.std.specs.Ordering.{nat_cmp}
use Rattle.osgi_base.specs.declared.ids.RevisionId.{RevisionId}
use Rattle.osgi_candidates.specs.computed.Fitting.{IsFit, IsHeldOffer, IsReplaced, IsToCome, MayProvide, Meets, Stands, bare}
use Rattle.osgi_candidates.specs.computed.Holding.{AreHeld, HasFragment, HasPackage, Holds}
use Rattle.osgi_candidates.specs.declared.held.Held.{Held}
use Rattle.osgi_candidates.specs.declared.held.HeldWirings.{HeldWirings}
use Rattle.osgi_candidates.proofs.Standing.{in_force_is}
use Rattle.osgi_resolver_theory.proofs.Laws.{in-sorted, known-found, sorted-in}
use Rattle.osgi_resolver_theory.proofs.Lists.{and-both, and-cases, filter-in, in-filter, in-map, map-in}
use Rattle.osgi_resolver_theory.proofs.Twos.{only-one}
use Rattle.osgi_resolver_theory.proofs.Values.{find-some, rev-eq}
use Rattle.osgi_world.specs.Candidates.{IsCandidate, matching}
use Rattle.osgi_world.specs.Lists.{In}
use Rattle.osgi_world.specs.Lookups.{SatisfiesAs, SatisfiesAt, capability_at, is_current, is_dynamic, is_host_of, known_at, requirement_at, revision_at}
use Rattle.osgi_world.specs.Payloads.{by_bundle, current_fragments}
use Rattle.osgi_world.specs.Satisfaction.{Satisfies, matches_host, is_host_for}
use Rattle.osgi_world.specs.Wirings.{ImportsElsewhere, InForce, IsExport, OnOffer, Owns}
use Rattle.osgi_world.specs.declared.capability.Capability.{Capability}
use Rattle.osgi_world.specs.declared.requirement.Requirement.{Requirement}
use Rattle.osgi_world.specs.declared.revision.Revision.{Revision}
use Rattle.osgi_world.specs.declared.wiring.CapRef.{CapRef}
use Rattle.osgi_world.specs.declared.wiring.ReqRef.{ReqRef}
use Rattle.osgi_world.specs.declared.wiring.Wiring.{Wiring}
use Rattle.osgi_world.specs.declared.world.Known.{Known}
use Rattle.osgi_world.specs.declared.world.World.{World}

some-same : {X : Type 0} (x y : X) (o : Option X) → o ≡ Some x → o ≡ Some y → x ≡ y
some-same x y o e f = cc

-- ---- whether it satisfies

pub meets_is : (K : List Known) (n : Requirement) (c : CapRef) (v : Revision) (a : Capability) (b : Bool) → revision_at K c.provider ≡ Some v → capability_at K c.owner c.index ≡ Some a → IsTrue b ↔ Satisfies n a v.name v.version →
    IsTrue b ↔ Meets K n c
meets_is K n c v a b is at test = (
  λ t. record { provider = v; capability = a; provider_is = is; capability_is = at; satisfies = test.0 t },
  λ m.
      let e = some-same m.provider v (revision_at K c.provider) m.provider_is is in
      let f = some-same m.capability a (capability_at K c.owner c.index) m.capability_is at in
      test.1 (subst (λ (x : Revision). Satisfies n a x.name x.version) e (subst (λ (x : Capability). Satisfies n x m.provider.name m.provider.version) f m.satisfies)),
)

-- ---- packages from elsewhere

pub replaced_some : (K : List Known) (h : Held) (c : CapRef) (name : List ℕ) (b : Bool) → IsTrue b ↔ HasPackage h.elsewhere name → ((p : List ℕ) → (Some name ≡ Some p) ↔ IsExport K c.owner c.index p) → IsTrue b ↔ IsReplaced K h c
replaced_some K h c name b has is = (
  λ t. (name, (is name).0 refl, has.0 t),
  λ r. let e : Some name ≡ Some r.0 = (is r.0).1 r.1 in (let f : name ≡ r.0 = cc e in has.1 (subst (HasPackage h.elsewhere) (sym f) r.2)),
)

pub replaced_none : (K : List Known) (h : Held) (c : CapRef) → ((p : List ℕ) → (None ≡ Some p) ↔ IsExport K c.owner c.index p) → IsTrue false ↔ IsReplaced K h c
replaced_none K h c is = (λ t. absurd (cc t), λ r. absurd (let e : None ≡ Some r.0 = (is r.0).1 r.1 in cc e))

-- ---- fragments that match

host-some : (o : Option Requirement) (h : Revision) → IsTrue (option_map_or (λ asked. is_host_for asked h) o false) → IsTrue (is_some o)
host-some None h t = absurd (cc t)
host-some (Some n) h t = refl

-- a fragment that may have a host is one
hosted : (v : Option Revision) (h : Option Revision) (x : Revision) → v ≡ Some x → IsTrue (option_map_or (λ fragment. option_map_or (λ host. matches_host fragment host) h false) v false) → IsTrue (is_some x.host)
hosted None h x e t = absurd (cc e)
hosted (Some v) None x e t = absurd (cc t)
hosted (Some v) (Some y) x e t = let f : v ≡ x = cc e in subst (λ (z : Revision). IsTrue (is_some z.host)) f (host-some v.host y t)

current-some : (o : Option Known) → IsTrue (option_map_or (λ (k : Known). k.current) o false) → (k : Known) × (o ≡ Some k) × IsTrue k.current
current-some None t = absurd (cc t)
current-some (Some k) t = (k, refl, t)

abbrev is_current_fragment : Known → Bool
is_current_fragment k = k.current && is_some k.revision.host

module _ (w : World) (fit : IsFit w) where
  pub matching_is : (f h : RevisionId) → In f (matching (bare w) h) ↔ (IsTrue (is_current w.known f) × IsTrue (is_host_of w.known f h))
  matching_is f h = (
    λ i.
        let p = filter-in (λ x. is_host_of w.known x h) (current_fragments w.known) f i in
        let k = map-in (λ (k : Known). k.id) (by_bundle (filter is_current_fragment w.known)) f p.0 in
        let in_all = filter-in is_current_fragment w.known k.0 (sorted-in (filter is_current_fragment w.known) k.0 k.1) in
        let at : known_at w.known f ≡ Some k.0 = subst (λ r. known_at w.known r ≡ Some k.0) (sym k.2) (known-found w.known fit.world_is.known_once k.0 in_all.0) in
        (subst (λ o. IsTrue (option_map_or (λ (k : Known). k.current) o false)) (sym at) (and-cases k.0.current (is_some k.0.revision.host) in_all.1).0, p.1),
    λ t.
        let k = current-some (known_at w.known f) t.0 in
        let found = find-some (λ (x : Known). x.id.0 == f.0) w.known k.0 k.1 in
        let id = rev-eq k.0.id f found.1 in
        let is = hosted (revision_at w.known f) (revision_at w.known h) k.0.revision (ap (λ o. option_map (λ (k : Known). k.revision) o) k.1) t.1 in
        let here = in-filter is_current_fragment w.known k.0 found.0 (and-both k.0.current (is_some k.0.revision.host) k.2 is) in
        let listed : In f (current_fragments w.known) = subst (λ r. In r (current_fragments w.known)) id (in-map (λ (k : Known). k.id) (by_bundle (filter is_current_fragment w.known)) k.0 (in-sorted (filter is_current_fragment w.known) k.0 here)) in
        in-filter (λ x. is_host_of w.known x h) (current_fragments w.known) f listed t.1,
  )

  -- ---- a provider that is in force

  one-wiring : (g x : Wiring) → In g w.wirings → In x w.wirings → g.revision ≡ x.revision → g ≡ x
  one-wiring g x i j e = only-one (λ (g h : Wiring). g.revision ≡ h.revision) w.wirings g x fit.world_is.once i j e (sym e)

  module _ (held : HeldWirings) (are : AreHeld w.known w.wirings held) (c : CapRef) where
    module _ (g : Wiring) (i : In g w.wirings) (r : g.revision ≡ c.provider) (h : Held) (holds : Holds w.known g h) where
      elsewhere-is : (p : List ℕ) → HasPackage h.elsewhere p ↔ ImportsElsewhere w.known w.wirings c.provider p
      elsewhere-is p = (
        λ has.
            let x = (holds.elsewhere p).0 has in
            record {
              from = x.0.capability.provider;
              imports = record { wire = x.0; has = record { wiring = g; stands = i; revision = r; has = x.1 }; export = x.2.1; provider = refl };
              elsewhere = λ e. x.2.0 (e ∙ sym r);
            },
        λ m.
            let wire = m.imports.has in
            let same : wire.wiring ≡ g = one-wiring wire.wiring g wire.stands i (wire.revision ∙ sym r) in
            (holds.elsewhere p).1 (m.imports.wire, subst (λ (x : Wiring). In m.imports.wire x.wires) same wire.has, ((λ e. m.elsewhere (sym m.imports.provider ∙ (e ∙ r))), m.imports.export)),
      )

      owns-is : ((c.owner ≡ c.provider) ⊎ HasFragment h.fragments c.owner) ↔ Owns w.wirings c.provider c.owner
      owns-is = (
        λ e. elim e [ inl own ↦ inl own | inr f ↦ inr (record { wiring = g; stands = i; revision = r; has = (holds.fragments c.owner).0 f }) ],
        λ o. elim o [
          | inl own ↦ inl own
          | inr a ↦ (let same = one-wiring a.wiring g a.stands i (a.revision ∙ sym r) in inr ((holds.fragments c.owner).1 (subst (λ (x : Wiring). In c.owner x.fragments) same a.has)))
        ],
      )

      pub offer-is : IsHeldOffer w.known h c ↔ OnOffer w.known w.wirings c
      offer-is = (
        λ o. record { has = (owns-is.0 o.1.0, o.0); stays = λ p export imports. o.1.1 (p, export, (elsewhere-is p).1 imports) },
        λ o. (o.has.1, (owns-is.1 o.has.0, λ x. o.stays x.0 x.1 ((elsewhere-is x.0).0 x.2))),
      )

    pub stands_held : (h : Held) (b : Bool) → get nat_cmp held.wirings c.provider.0 ≡ Some h → IsTrue b ↔ IsHeldOffer w.known h c → IsTrue b ↔ Stands w c
    stands_held h b is test =
        let g = are.only c.provider h is in
        let offer = offer-is g.0 g.1 g.2 h g.3 in
        let stands : InForce w.wirings c.provider = record { wiring = g.0; stands = g.1; revision = g.2 } in (
          λ t. inl (stands, offer.0 (test.0 t)),
          λ s. elim s [ inl o ↦ test.1 (offer.1 o.1) | inr n ↦ absurd (n.0 stands) ],
        )

    -- ---- and one that is not
    pub stands_none : (b : Bool) → get nat_cmp held.wirings c.provider.0 ≡ None → IsTrue b ↔ IsToCome w.known c → IsTrue b ↔ Stands w c
    stands_none b none test =
        let free : ¬ InForce w.wirings c.provider = λ f. (let s : IsSome (get nat_cmp held.wirings c.provider.0) = (in_force_is w.known w.wirings held are c.provider).1 f in let t : IsSome {T = Held} None = subst (λ (o : Option Held). IsSome o) none s in cc t) in (
          λ t.
              let come = test.0 t in
              inr (free, elim come.1 [ inl own ↦ inl own | inr m ↦ inr ((matching_is c.owner c.provider).1 m) ], come.0),
          λ s. elim s [
            | inl o ↦ absurd (free o.0)
            | inr n ↦ test.1 (n.2, elim n.1 [ inl own ↦ inl own | inr m ↦ inr ((matching_is c.owner c.provider).0 m) ])
          ],
        )

-- ---- all of it

satisfied-at : (K : List Known) (q : ReqRef) (n : Requirement) (c : CapRef) → requirement_at K q ≡ Some n → is_dynamic K q ≡ false → Meets K n c ↔ SatisfiesAt K q c
satisfied-at K q n c is plain = (
  λ m. record {
    requirement = n;
    capability = m.capability;
    provider = m.provider;
    requirement_is = is;
    capability_is = m.capability_is;
    provider_is = m.provider_is;
    satisfies = subst (λ b. SatisfiesAs b n m.capability m.provider) (sym plain) m.satisfies;
  },
  λ s.
      let same = some-same s.requirement n (requirement_at K q) s.requirement_is is in
      record {
        provider = s.provider;
        capability = s.capability;
        provider_is = s.provider_is;
        capability_is = s.capability_is;
        satisfies = subst (λ x. Satisfies x s.capability s.provider.name s.provider.version) same (subst (λ b. SatisfiesAs b s.requirement s.capability s.provider) plain s.satisfies);
      },
)

pub candidate_is : (w : World) (q : ReqRef) (n : Requirement) (c : CapRef) → requirement_at w.known q ≡ Some n → is_dynamic w.known q ≡ false → (Meets w.known n c × (MayProvide w.known q c × Stands w c)) ↔ IsCandidate (bare w) q c
candidate_is w q n c is plain =
    let satisfied = satisfied-at w.known q n c is plain in (
      λ p. record { satisfies = satisfied.0 p.0; current = p.1.0.0; no_fragment = p.1.0.1.0; not_owner = p.1.0.1.1; stands = p.1.1 },
      λ x. (satisfied.1 x.satisfies, ((x.current, (x.no_fragment, x.not_owner)), x.stands)),
    )

-- ---- what a test that fails says

pub not_by : (b : Bool) (A : Type 0) → b ≡ false → IsTrue b ↔ A → ¬ A
not_by b A off test a = let t : b ≡ true = test.1 a in cc (sym off ∙ t)

pub never : (A : Type 0) → ¬ A → IsTrue false ↔ A
never A n = (λ t. absurd (cc t), λ a. absurd (n a))
