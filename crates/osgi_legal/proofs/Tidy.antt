-- Worlds of legal histories: each revision is known once, wirings are of known revisions, and the system bundle's has no wire and no fragment.
use Rattle.std.proofs.Common.{◌≡◌, ◌⊎◌, inl, inr, ◌+◌, ◌≤◌, ℕ, Bool, true, false, IsTrue, List, [], ◌∷◌, refl, sym, ap, ◌∙◌, subst, arith}
use Rattle.std.specs.Prelude.{◌==◌, ◌||◌, not, cond, is_some, IsSome, Option, None, Some, filter, Contains}
use Rattle.std.specs.List.{list_any}
use Rattle.std.specs.Option.{option_map, option_map_or}
use Rattle.std.proofs.lemmas.Bool.{and_parts, eq-eqb, eqb-true, false_from_ne_true, ne_eqb, not-true, or_cases, or_left, or_right}
use Rattle.osgi_base.specs.declared.ids.BundleId.{BundleId}
use Rattle.osgi_base.specs.declared.ids.RevisionId.{RevisionId}
use Rattle.osgi_ops.specs.Bundles.{lists_bundle, system}
use Rattle.osgi_ops.specs.Closures.{hosting, IsClosed, LeansOn, wired}
use Rattle.osgi_ops.specs.Moments.{first_world}
use Rattle.osgi_ops.specs.Resolved.{current_revision, is_current_of, is_in_use}
use Rattle.osgi_ops.specs.Resolving.{IsResolvedTo}
use Rattle.osgi_ops.specs.Worlds.{dropped, stays_known, passed, pended, with_revision}
use Rattle.osgi_ops.specs.laws.Resolved.{in_use-from}
use Rattle.osgi_world.specs.Consistency.{Extends}
use Rattle.osgi_world.specs.Lists.{In}
use Rattle.osgi_world.specs.Lookups.{bundle_of, IsKnown, known_at, is_fragment, is_host_of, revision_at}
use Rattle.osgi_world.specs.Satisfaction.{is_host_for, matches_host}
use Rattle.osgi_world.specs.System.{known_system}
use Rattle.osgi_world.specs.Wirings.{InForce}
use Rattle.osgi_world.specs.declared.revision.Revision.{Revision}
use Rattle.osgi_world.specs.declared.wiring.Wire.{Wire}
use Rattle.osgi_world.specs.declared.wiring.Wiring.{Wiring}
use Rattle.osgi_world.specs.declared.world.Known.{Known}
use Rattle.osgi_world.specs.declared.world.World.{World}
use Rattle.osgi_ops.specs.laws.Items.{contains-In, find-some, found-in, In-contains, In-filter, In-kept, In-left, In-map, In-mapped, In-push, not-two}

abbrev revision_0 : RevisionId
revision_0 = record { 0 = 0 }

-- a world in which so many revisions were brought
pub record IsTidy (n : ℕ) (world : World) : Type 0 where
  -- each revision is known once, and has an id that was given out
  pub once : (k l : Known) → In k world.known → In l world.known → k.id ≡ l.id → k ≡ l
  pub few : (k : Known) → In k world.known → k.id.0 ≤ n
  -- a wiring is of a known revision that is no fragment, and is its only one
  pub wired : (g : Wiring) → In g world.wirings → (k : Known) × In k world.known × (k.id ≡ g.revision) × (is_some k.revision.host ≡ false)
  pub one_wiring : (g h : Wiring) → In g world.wirings → In h world.wirings → g.revision ≡ h.revision → g ≡ h
  -- what it hosts is a known fragment, and where it has a wire to is in force
  pub attached : (g : Wiring) (f : RevisionId) → In g world.wirings → In f g.fragments → (k : Known) × In k world.known × (k.id ≡ f) × (is_some k.revision.host ≡ true)
  pub provided : (g : Wiring) (w : Wire) → In g world.wirings → In w g.wires → InForce world.wirings w.capability.provider
  -- the system bundle has its first revision, which is in force without a wire and without a fragment
  pub system : (k : Known) → In k world.known → k.bundle ≡ system → k ≡ known_system
  pub known : In known_system world.known
  pub bare : (g : Wiring) → In g world.wirings → g.revision ≡ revision_0 → (g.wires ≡ []) × (g.fragments ≡ [])
  pub in_force : InForce world.wirings revision_0

-- ---- the first world

pub first-tidy : IsTidy 0 first_world
first-tidy = record {
  once = λ k l i j e. one k i ∙ sym (one l j);
  few = λ k i. omega (arith, ap (λ (x : Known). x.id.0) (one k i));
  wired = λ g i. (known_system, inl refl, sym (ap (λ (x : Wiring). x.revision) (only g i)), refl);
  one_wiring = λ g h i j e. only g i ∙ sym (only h j);
  attached = λ g f i j. absurd (subst (λ (x : Wiring). In f x.fragments) (only g i) j);
  provided = λ g w i j. absurd (subst (λ (x : Wiring). In w x.wires) (only g i) j);
  system = λ k i e. one k i;
  known = inl refl;
  bare = λ g i e. (ap (λ (x : Wiring). x.wires) (only g i), ap (λ (x : Wiring). x.fragments) (only g i));
  in_force = record { wiring = record { revision = record { 0 = 0 }; wires = []; fragments = [] }; stands = inl refl; revision = refl };
}
  where
    one : (k : Known) → In k first_world.known → k ≡ known_system
    one k (inl e) = e
    one k (inr i) = elim i [ ]

    only : (g : Wiring) → In g first_world.wirings → g ≡ record { revision = record { 0 = 0 }; wires = []; fragments = [] }
    only g (inl e) = e
    only g (inr i) = elim i [ ]

-- ---- one more revision

pub brought-tidy : (n : ℕ) (world : World) (b : BundleId) (v : Revision) → (b ≡ system → ⊥) → IsTidy n world → IsTidy (n + 1) (with_revision world (record { 0 = n + 1 }) b v)
brought-tidy n world b v apart t = record {
  once = λ k l i j e. both k l (In-push world.known new k i) (In-push world.known new l j) e;
  few = λ k i. elim (In-push world.known new k i) [ inl j ↦ omega (arith, t.few k j) | inr s ↦ omega (arith, ap (λ (x : Known). x.id.0) s) ];
  wired = λ g i. (let r = t.wired g i in (r.0, In-left world.known (new ∷ []) r.0 r.1, r.2, r.3));
  one_wiring = t.one_wiring;
  attached = λ g f i j. (let r = t.attached g f i j in (r.0, In-left world.known (new ∷ []) r.0 r.1, r.2, r.3));
  provided = t.provided;
  system = λ k i e. elim (In-push world.known new k i) [ inl j ↦ t.system k j e | inr s ↦ absurd (apart (sym (ap (λ (x : Known). x.bundle) s) ∙ e)) ];
  known = In-left world.known (new ∷ []) known_system t.known;
  bare = t.bare;
  in_force = t.in_force;
}
  where
    new : Known
    new = record { id = record { 0 = n + 1 }; bundle = b; current = true; revision = v }

    fresh : (k : Known) → In k world.known → k.id ≡ new.id → ⊥
    fresh k i e = let f = t.few k i in let q : k.id.0 ≡ n + 1 = ap (λ (x : RevisionId). x.0) e in absurd (omega (arith, f, q))

    both : (k l : Known) → In k world.known ⊎ (k ≡ new) → In l world.known ⊎ (l ≡ new) → k.id ≡ l.id → k ≡ l
    both k l (inl i) (inl j) e = t.once k l i j e
    both k l (inl i) (inr s) e = absurd (fresh k i (e ∙ ap (λ (x : Known). x.id) s))
    both k l (inr s) (inl j) e = absurd (fresh l j (sym e ∙ ap (λ (x : Known). x.id) s))
    both k l (inr s) (inr u) e = s ∙ sym u

-- ---- a revision that is current no longer

pub passed-id : (b : BundleId) (k : Known) → (passed b k).id ≡ k.id
passed-id b k = go (is_current_of b k)
  where
    go : (c : Bool) → (cond c (record k { current = false }) k).id ≡ k.id
    go true = refl
    go false = refl

pub passed-bundle : (b : BundleId) (k : Known) → (passed b k).bundle ≡ k.bundle
passed-bundle b k = go (is_current_of b k)
  where
    go : (c : Bool) → (cond c (record k { current = false }) k).bundle ≡ k.bundle
    go true = refl
    go false = refl

passed-revision : (b : BundleId) (k : Known) → (passed b k).revision ≡ k.revision
passed-revision b k = go (is_current_of b k)
  where
    go : (c : Bool) → (cond c (record k { current = false }) k).revision ≡ k.revision
    go true = refl
    go false = refl

pub pended-tidy : (n : ℕ) (world : World) (b : BundleId) → (b ≡ system → ⊥) → IsTidy n world → IsTidy n (pended b world)
pended-tidy n world b apart t = record {
  once = λ k l i j e. (let p = from k i in let q = from l j in
      p.2 ∙ ap (passed b) (t.once p.0 q.0 p.1 q.1 (sym (passed-id b p.0) ∙ sym (ap (λ (x : Known). x.id) p.2) ∙ e ∙ ap (λ (x : Known). x.id) q.2 ∙ passed-id b q.0)) ∙ sym q.2);
  few = λ k i. (let p = from k i in let f = t.few p.0 p.1 in let e : k.id.0 ≡ p.0.id.0 = ap (λ (x : Known). x.id.0) p.2 ∙ ap (λ (x : RevisionId). x.0) (passed-id b p.0) in omega (arith, f, e));
  wired = λ g i. (let r = t.wired g i in (
    passed b r.0,
    into r.0 r.1 (in_use-from world.wirings r.0.id (inl (record { wiring = g; stands = i; revision = sym r.2 }))),
    passed-id b r.0 ∙ r.2,
    ap (λ (v : Revision). is_some v.host) (passed-revision b r.0) ∙ r.3,
  ));
  one_wiring = t.one_wiring;
  attached = λ g f i j. (let r = t.attached g f i j in (
    passed b r.0,
    into r.0 r.1 (in_use-from world.wirings r.0.id (inr (g.revision, record { wiring = g; stands = i; revision = refl; has = subst (λ x. In x g.fragments) (sym r.2) j }))),
    passed-id b r.0 ∙ r.2,
    ap (λ (v : Revision). is_some v.host) (passed-revision b r.0) ∙ r.3,
  ));
  provided = t.provided;
  system = λ k i e. (let p = from k i in
      let s : p.0 ≡ known_system = t.system p.0 p.1 (sym (passed-bundle b p.0) ∙ sym (ap (λ (x : Known). x.bundle) p.2) ∙ e) in
      p.2 ∙ ap (passed b) s ∙ same);
  known = subst (λ x. In x (pended b world).known) same (In-mapped (passed b) (filter (stays_known world.wirings b) world.known) known_system
      (In-kept (stays_known world.wirings b) world.known known_system t.known (ap (λ c. not c || is_in_use world.wirings known_system.id) other)));
  bare = t.bare;
  in_force = t.in_force;
}
  where
    from : (k : Known) → In k (pended b world).known → (l : Known) × In l world.known × (k ≡ passed b l)
    from k i =
        let m = In-map (passed b) (filter (stays_known world.wirings b) world.known) k i in
        (m.0, (In-filter (stays_known world.wirings b) world.known m.0 m.1).0, m.2)

    into : (k : Known) → In k world.known → is_in_use world.wirings k.id ≡ true → In (passed b k) (pended b world).known
    into k i u = In-mapped (passed b) (filter (stays_known world.wirings b) world.known) k (In-kept (stays_known world.wirings b) world.known k i (or_right _ _ u))

    other : is_current_of b known_system ≡ false
    other = ne_eqb 0 b.0 (λ e. absurd (apart (λ i. record { 0 = sym e i })))

    same : passed b known_system ≡ known_system
    same = ap (λ c. cond c (record known_system { current = false }) known_system) other

-- ---- more wirings

is-some-where : {X : Type 0} (test : X → Bool) (o : Option X) → option_map_or test o false ≡ true → is_some o ≡ true
is-some-where test None e = absurd (cc e)
is-some-where test (Some x) e = refl

fragment-known : (K : List Known) (f h : RevisionId) → IsTrue (is_host_of K f h) → (k : Known) × In k K × (k.id ≡ f) × (is_some k.revision.host ≡ true)
fragment-known K f h t = go (known_at K f) refl t
  where
    go : (o : Option Known) → known_at K f ≡ o → option_map_or (λ fragment. option_map_or (λ host. matches_host fragment host) (revision_at K h) false) (option_map (λ (k : Known). k.revision) o) false ≡ true →
        (k : Known) × In k K × (k.id ≡ f) × (is_some k.revision.host ≡ true)
    go None q e = absurd (cc e)
    go (Some k) q e =
        let i = found-in (λ (k : Known). k.id.0 == f.0) K k q in
        (k, i.0, (let s : k.id.0 ≡ f.0 = eqb-true k.id.0 f.0 i.1 in λ j. record { 0 = s j }), hosted (revision_at K h) e)
      where
        hosted : (o : Option Revision) → option_map_or (λ host. matches_host k.revision host) o false ≡ true → is_some k.revision.host ≡ true
        hosted None s = absurd (cc s)
        hosted (Some host) s = is-some-where (λ asked. is_host_for asked host) k.revision.host s

pub known-bundle : (K : List Known) → ((k l : Known) → In k K → In l K → k.id ≡ l.id → k ≡ l) → (k : Known) → In k K → (r : RevisionId) → k.id ≡ r → known_at K r ≡ Some k
known-bundle K once k i r e =
    let y = find-some (λ (l : Known). l.id.0 == r.0) K k i (eq-eqb k.id.0 r.0 (ap (λ (x : RevisionId). x.0) e)) in
    let f = found-in (λ (l : Known). l.id.0 == r.0) K y.0 y.1 in
    let id : y.0.id ≡ k.id = (let s : y.0.id.0 ≡ r.0 = eqb-true y.0.id.0 r.0 f.1 in let q : y.0.id ≡ r = (λ j. record { 0 = s j }) in q ∙ sym e) in
    y.1 ∙ ap Some (once y.0 k f.0 i id)

revision-is : (K : List Known) (r : RevisionId) → (k : Known) → known_at K r ≡ Some k → (In k K) × (k.id ≡ r)
revision-is K r k q =
    let i = found-in (λ (l : Known). l.id.0 == r.0) K k q in
    (i.0, (let s : k.id.0 ≡ r.0 = eqb-true k.id.0 r.0 i.1 in λ j. record { 0 = s j }))

known-whole : (K : List Known) (r : RevisionId) → IsKnown K r → ¬ IsTrue (is_fragment K r) → (k : Known) × In k K × (k.id ≡ r) × (is_some k.revision.host ≡ false)
known-whole K r known whole = go (known_at K r) refl known whole
  where
    go : (o : Option Known) → known_at K r ≡ o → IsSome o → (option_map_or (λ (v : Revision). is_some v.host) (option_map (λ (k : Known). k.revision) o) false ≡ true → ⊥) →
        (k : Known) × In k K × (k.id ≡ r) × (is_some k.revision.host ≡ false)
    go None q s n = absurd (cc s)
    go (Some k) q s n = let i = revision-is K r k q in (k, i.0, i.1, false_from_ne_true _ n)

pub extends-of : (world after : World) (bundle : BundleId) → IsResolvedTo world bundle after → (root : RevisionId) × (after.known ≡ world.known) × Extends world.known world.wirings after.wirings root
extends-of world after bundle r =
    let e = r.first.good.2 in
    let known : after.known ≡ world.known = ap (λ (x : World). x.known) r.is in (
      r.problem.root,
      known,
      subst (λ (x : World). Extends x.known x.wirings after.wirings r.problem.root) r.is_problem.world
          (subst (λ V. Extends r.problem.world.known r.problem.world.wirings V r.problem.root) (sym (ap (λ (x : World). x.wirings) r.is)) e),
    )

pub extended-tidy : (n : ℕ) (world after : World) (root : RevisionId) → after.known ≡ world.known → Extends world.known world.wirings after.wirings root → IsTidy n world → IsTidy n after
extended-tidy n world after root known x t = subst (λ K. IsTidy n (record { known = K; wirings = after.wirings })) (sym known) made
  where
    made : IsTidy n (record { known = world.known; wirings = after.wirings })
    made = record {
      once = t.once;
      few = t.few;
      wired = λ g i. known-whole world.known g.revision (x.world.known g i) (x.world.hosts g i);
      one_wiring = not-two (λ (g h : Wiring). g.revision ≡ h.revision) (λ g h e. sym e) after.wirings x.world.once;
      attached = λ g f i j. fragment-known world.known f g.revision (x.consistent.coherent.rules.attached g.revision f (record { wiring = g; stands = i; revision = refl; has = j }));
      provided = λ g w i j. x.consistent.coherent.rules.provided g.revision w (record { wiring = g; stands = i; revision = refl; has = j });
      system = t.system;
      known = t.known;
      bare = λ g i e. (
          let g0 = t.in_force in
          let same : g0.wiring ≡ g = not-two (λ (g h : Wiring). g.revision ≡ h.revision) (λ g h e. sym e) after.wirings x.world.once g0.wiring g (x.kept g0.wiring g0.stands) i (g0.revision ∙ sym e) in
          let b = t.bare g0.wiring g0.stands g0.revision in
          (ap (λ (y : Wiring). y.wires) (sym same) ∙ b.0, ap (λ (y : Wiring). y.fragments) (sym same) ∙ b.1));
      in_force = record { wiring = t.in_force.wiring; stands = x.kept t.in_force.wiring t.in_force.stands; revision = t.in_force.revision };
    }

pub resolved-tidy : (n : ℕ) (world after : World) (bundle : BundleId) → IsResolvedTo world bundle after → IsTidy n world → IsTidy n after
resolved-tidy n world after bundle r t = let x = extends-of world after bundle r in extended-tidy n world after x.0 x.1 x.2 t

-- ---- wirings that are dropped

pub any-in : {X : Type 0} (p : X → Bool) (xs : List X) → list_any p xs ≡ true → (x : X) × In x xs × (p x ≡ true)
any-in p [] e = absurd (cc e)
any-in {X} p (y ∷ ys) e = elim (or_cases (p y) _ e) [
  | inl f ↦ (y, inl refl, f)
  | inr f ↦ (let r = any-in p ys f in (r.0, inr r.1, r.2))
]

pub in-any : {X : Type 0} (p : X → Bool) (xs : List X) (x : X) → In x xs → p x ≡ true → list_any p xs ≡ true
in-any p [] x i e = elim i [ ]
in-any p (y ∷ ys) x (inl s) e = or_left (p y) _ (ap p (sym s) ∙ e)
in-any p (y ∷ ys) x (inr i) e = or_right (p y) _ (in-any p ys x i e)

pub member-contains : (members : List BundleId) (b : BundleId) → lists_bundle members b.0 ≡ true → Contains members b
member-contains members b e =
    let r = any-in (λ (x : BundleId). x.0 == b.0) members e in
    let s : r.0 ≡ b = (let q : r.0.0 ≡ b.0 = eqb-true r.0.0 b.0 r.2 in λ i. record { 0 = q i }) in
    In-contains members b (subst (λ x. In x members) s r.1)

pub contains-member : (members : List BundleId) (b : BundleId) → Contains members b → lists_bundle members b.0 ≡ true
contains-member members b c = in-any (λ (x : BundleId). x.0 == b.0) members b (contains-In members b c) (eq-eqb b.0 b.0 refl)

abbrev keeps : List BundleId → Known → Bool
keeps members k = not (lists_bundle members k.bundle.0) || k.current

abbrev stays : List Known → List BundleId → Wiring → Bool
stays K members g = not (lists_bundle members (bundle_of K g.revision))

pub dropped-tidy : (n : ℕ) (world : World) (members : List BundleId) → IsClosed world members → (Contains members system → ⊥) → IsTidy n world → IsTidy n (dropped members world)
dropped-tidy n world members closed apart t = record {
  once = λ k l i j e. t.once k l (In-filter (keeps members) world.known k i).0 (In-filter (keeps members) world.known l j).0 e;
  few = λ k i. t.few k (In-filter (keeps members) world.known k i).0;
  wired = λ g i. (let r = t.wired g (there g i) in (r.0, kept r.0 r.1 (holder g i), r.2, r.3));
  one_wiring = λ g h i j e. t.one_wiring g h (there g i) (there h j) e;
  attached = λ g f i j. (let r = t.attached g f (there g i) j in (
    r.0,
    kept r.0 r.1 (outside g i r.0 r.1 (hosting (record { wiring = g; stands = there g i; revision = refl; has = subst (λ x. In x g.fragments) (sym r.2) j }))),
    r.2,
    r.3,
  ));
  provided = λ g w i j. (let f = t.provided g w (there g i) j in
      let p = t.wired f.wiring f.stands in
      let leans : LeansOn world.wirings g.revision p.0.id =
      subst (LeansOn world.wirings g.revision) (sym (p.2 ∙ f.revision)) (wired (record { wiring = g; stands = there g i; revision = refl; has = j })) in
      record { wiring = f.wiring; stands = stood f.wiring f.stands p.0 p.1 p.2 (outside g i p.0 p.1 leans); revision = f.revision });
  system = λ k i e. t.system k (In-filter (keeps members) world.known k i).0 e;
  known = In-kept (keeps members) world.known known_system t.known (or_right _ _ refl);
  bare = λ g i e. t.bare g (there g i) e;
  in_force = record {
    wiring = t.in_force.wiring;
    stands = stood t.in_force.wiring t.in_force.stands known_system t.known (sym t.in_force.revision) (false_from_ne_true _ (λ e. apart (member-contains members system e)));
    revision = t.in_force.revision;
  };
}
  where
    there : (g : Wiring) → In g (dropped members world).wirings → In g world.wirings
    there g i = (In-filter (stays world.known members) world.wirings g i).0

    kept : (k : Known) → In k world.known → lists_bundle members k.bundle.0 ≡ false → In k (dropped members world).known
    kept k i e = In-kept (keeps members) world.known k i (or_left _ _ (ap not e))

    -- the bundle of a wiring that stays is no member
    holder : (g : Wiring) (i : In g (dropped members world).wirings) → lists_bundle members (t.wired g (there g i)).0.bundle.0 ≡ false
    holder g i =
        let r = t.wired g (there g i) in
        ap (λ (o : Option Known). lists_bundle members (option_map_or (λ (k : Known). k.bundle.0) o 0)) (sym (known-bundle world.known t.once r.0 r.1 g.revision r.2))
        ∙ not-true _ (In-filter (stays world.known members) world.wirings g i).1

    -- nor is that of what it leans on
    outside : (g : Wiring) (i : In g (dropped members world).wirings) (k : Known) → In k world.known → LeansOn world.wirings g.revision k.id → lists_bundle members k.bundle.0 ≡ false
    outside g i k j leans = false_from_ne_true _ (λ e.
        let r = t.wired g (there g i) in
        let c = closed k.bundle r.0.bundle
        (record { k = r.0; l = k; has = r.1; there = j; of = refl; of_other = refl; leans = subst (λ x. LeansOn world.wirings x k.id) (sym r.2) leans })
        (member-contains members k.bundle e) in
        let bad : true ≡ false = sym (contains-member members r.0.bundle c) ∙ holder g i in cc bad)

    -- a wiring stays where its bundle is no member
    stood : (g : Wiring) → In g world.wirings → (k : Known) → In k world.known → k.id ≡ g.revision → lists_bundle members k.bundle.0 ≡ false → In g (dropped members world).wirings
    stood g i k j e out =
        In-kept (stays world.known members) world.wirings g i
        (ap not (ap (λ (o : Option Known). lists_bundle members (option_map_or (λ (l : Known). l.bundle.0) o 0)) (known-bundle world.known t.once k j g.revision e) ∙ out))

-- the current revision of the system bundle is its first
pub system-current : (n : ℕ) (world : World) → IsTidy n world → current_revision world system ≡ Some known_system
system-current n world t =
    let f = find-some (is_current_of system) world.known known_system t.known refl in
    let i = found-in (is_current_of system) world.known f.0 f.1 in
    let c = and_parts f.0.current (f.0.bundle.0 == 0) i.1 in
    f.1 ∙ ap Some (t.system f.0 i.0 (let q : f.0.bundle.0 ≡ 0 = eqb-true f.0.bundle.0 0 c.1 in λ j. record { 0 = q j }))
