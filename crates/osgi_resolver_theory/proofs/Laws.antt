-- How what is known hangs together.
use Rattle.std.proofs.Common.{◌≡◌, ◌≢◌, ℕ, ◌+◌, ◌<◌, ◌≤◌, ◌⊎◌, inl, inr, ◌==◌, ◌&&◌, ◌↔◌, not, Bool, true, false, IsTrue, nat_lt, nat_le, is_some, is_none, bytes_eq, if◌then◌else◌, List, [], ◌∷◌, map, filter, Option, Some, None, refl, sym, ◌∙◌, ap, subst, arith, leb-true, leb-false}
use Rattle.std.specs.Option.{option_map, option_map_or}
use Rattle.std.specs.Cmp.{IsTotalOrder, nat_cmp_total, on_total, then_total}
use Rattle.std.specs.Cmp.Lexicographic.{on_texts}
use Rattle.std.specs.Ordering.{is_gt, ordering_reverse}
use Rattle.std.specs.declared.cmp.Ordering.{Ordering}
use Rattle.std.specs.declared.cmp.Ordering.TheVariants.{Less, Equal, Greater}
use Rattle.osgi_base.specs.declared.ids.RevisionId.{RevisionId}
use Rattle.osgi_version.specs.RangeValues.{is_within, range_parts}
use Rattle.osgi_version.specs.VersionValues.{order, parts}
use Rattle.osgi_version.specs.Versions.{Parts}
use Rattle.osgi_world.specs.Candidates.{IsProblem, is_higher}
use Rattle.osgi_world.specs.Lists.{In, Two}
use Rattle.osgi_world.specs.Candidates.{preference_version}
use Rattle.osgi_world.specs.Lookups.{known_at, revision_at, is_current, is_fragment, is_host_of, is_dynamic, bundle_of, requirement_count, dynamic_count, requirement_namespace, capability_namespace, SatisfiesAs, SatisfiesAt}
use Rattle.osgi_world.specs.Payloads.{current_fragments, by_bundle, insert_by_bundle}
use Rattle.osgi_world.specs.Satisfaction.{matches_host, is_host_for}
use Rattle.osgi_world.specs.declared.capability.Capability.{Capability}
use Rattle.osgi_world.specs.declared.problem.Problem.{Problem}
use Rattle.osgi_world.specs.declared.requirement.Requirement.{Requirement}
use Rattle.osgi_world.specs.declared.revision.Revision.{Revision}
use Rattle.osgi_world.specs.declared.wiring.CapRef.{CapRef}
use Rattle.osgi_world.specs.declared.wiring.ReqRef.{ReqRef}
use Rattle.osgi_world.specs.declared.world.Known.{Known}
use Rattle.osgi_resolver_theory.proofs.Lists.{and-cases, and-both, in-map, map-in, filter-in, in-filter}
use Rattle.osgi_resolver_theory.proofs.Twos.{only-one, two-and, two-map, two-unfilter}
use Rattle.osgi_resolver_theory.proofs.Values.{rev-eq, rev-same, some-inj, find-some, find-none}

abbrev pub revisions_of : List Known → List RevisionId
revisions_of K = map (λ (k : Known). k.id) K

pub record Laws (K : List Known) : Type 0 where
  pub revisions_are : (r : RevisionId) → IsTrue (is_current K r) → In r (revisions_of K)
  pub fragments_are : (f : RevisionId) → In f (current_fragments K) ↔ (IsTrue (is_current K f) × IsTrue (is_fragment K f))
  pub fragments_ordered : ¬ Two (λ (e f : RevisionId). bundle_of K f ≤ bundle_of K e) (current_fragments K)
  pub one_current : (r s : RevisionId) → IsTrue (is_current K r) → IsTrue (is_current K s) → bundle_of K r ≡ bundle_of K s → r ≡ s
  pub matching : (f h : RevisionId) → IsTrue (is_host_of K f h) → IsTrue (is_fragment K f) × ¬ IsTrue (is_fragment K h)
  pub dynamics : (q : ReqRef) → IsTrue (is_dynamic K q) → ¬ (q.index < requirement_count K q.owner)
  pub higher_once : (c d : CapRef) → IsTrue (is_higher K c d) → ¬ IsTrue (is_higher K d c)
  pub satisfied : (q : ReqRef) (c : CapRef) → SatisfiesAt K q c → requirement_namespace K q ≡ capability_namespace K c.owner c.index

-- ---- what satisfies has the same namespace

as-namespace : (b : Bool) (n : Requirement) (c : Capability) (v : Revision) → SatisfiesAs b n c v → n.namespace ≡ c.namespace
as-namespace false n c v s = s.namespace
as-namespace true n c v s = s.1.namespace

pub same-namespace : (K : List Known) (q : ReqRef) (c : CapRef) → SatisfiesAt K q c → requirement_namespace K q ≡ capability_namespace K c.owner c.index
same-namespace K q c s =
    ap (λ o. option_map_or (λ (n : Requirement). n.namespace) o []) s.requirement_is
    ∙ as-namespace (is_dynamic K q) s.requirement s.capability s.provider s.satisfies
    ∙ sym (ap (λ o. option_map_or (λ (c : Capability). c.namespace) o []) s.capability_is)

-- ---- places

not-less : (a b : ℕ) → IsTrue (not (nat_lt a b)) → ¬ (a < b)
not-less a b t h = grind (arith, t, h)

dynamic-after : (K : List Known) (q : ReqRef) → IsTrue (is_dynamic K q) → ¬ (q.index < requirement_count K q.owner)
dynamic-after K q t = not-less q.index (requirement_count K q.owner) (and-cases (not (nat_lt q.index (requirement_count K q.owner))) (nat_lt q.index (requirement_count K q.owner + dynamic_count K q.owner)) t).0

-- ---- hosts

host-go : (o : Option Requirement) (h : Revision) → IsTrue (option_map_or (λ asked. is_host_for asked h) o false) → IsTrue (is_some o) × IsTrue (is_none h.host)
host-go None h t = cc
host-go (Some n) h t =
    let a = and-cases (bytes_eq n.name h.name) (is_within (range_parts n.range) (parts h.version) && (h.attach && is_none h.host)) t in
    let b = and-cases (is_within (range_parts n.range) (parts h.version)) (h.attach && is_none h.host) a.1 in
    (refl, (and-cases h.attach (is_none h.host) b.1).1)

none-not_some : {X : Type 0} (o : Option X) → IsTrue (is_none o) → IsTrue (is_some o) → ⊥
none-not_some None n s = cc
none-not_some (Some x) n s = cc

both-hosts : (f h : Option Revision) → IsTrue (option_map_or (λ fragment. option_map_or (λ host. matches_host fragment host) h false) f false) →
    IsTrue (option_map_or (λ (v : Revision). is_some v.host) f false) × (IsTrue (option_map_or (λ (v : Revision). is_some v.host) h false) → ⊥)
both-hosts None h t = cc
both-hosts (Some f) None t = cc
both-hosts (Some f) (Some h) t = let p = host-go f.host h t in (p.0, λ s. none-not_some h.host p.1 s)

-- ---- versions

pub order_total : IsTotalOrder order
order_total =
    then_total (on_total (λ (v : Parts). v.major) nat_cmp_total)
    (then_total (on_total (λ (v : Parts). v.minor) nat_cmp_total)
    (then_total (on_total (λ (v : Parts). v.micro) nat_cmp_total) (on_texts (λ (v : Parts). v.qualifier))))

not-both_greater : (r : Ordering) → IsTrue (is_gt r) → IsTrue (is_gt (ordering_reverse r)) → ⊥
not-both_greater Less t u = cc
not-both_greater Equal t u = cc
not-both_greater Greater t u = cc

order-once : (a b : Parts) → IsTrue (is_gt (order a b)) → ¬ IsTrue (is_gt (order b a))
order-once a b t u = not-both_greater (order a b) t (subst (λ r. IsTrue (is_gt r)) (order_total.antisymm b a) u)

-- ---- what is known of an id

pub option-cases : {X : Type 0} (o : Option X) → ((x : X) × (o ≡ Some x)) ⊎ (o ≡ None)
option-cases None = inr refl
option-cases (Some x) = inl (x, refl)

abbrev SameId : Known → Known → Type 0
SameId k l = k.id ≡ l.id

pub known-found : (K : List Known) → ¬ Two SameId K → (k : Known) → In k K → known_at K k.id ≡ Some k
known-found K apart k i = go (option-cases (known_at K k.id))
  where
    go : ((x : Known) × (known_at K k.id ≡ Some x)) ⊎ (known_at K k.id ≡ None) → known_at K k.id ≡ Some k
    go (inl a) =
        let f = find-some (λ (x : Known). x.id.0 == k.id.0) K a.0 a.1 in
        let e = rev-eq a.0.id k.id f.1 in
        a.1 ∙ ap Some (only-one SameId K a.0 k apart f.0 i e (sym e))
    go (inr n) = absurd (find-none (λ (x : Known). x.id.0 == k.id.0) K k n i (rev-same k.id k.id refl))

-- a test of a known revision that is true is of one
test-found : (K : List Known) (test : Known → Bool) (r : RevisionId) → IsTrue (option_map_or test (known_at K r) false) → (k : Known) × In k K × (k.id ≡ r) × IsTrue (test k)
test-found K test r t = go (option-cases (known_at K r))
  where
    none-false : (o : Option Known) → o ≡ None → IsTrue (option_map_or test o false) → ⊥
    none-false None e t = cc
    none-false (Some x) e t = cc

    some-test : (o : Option Known) (k : Known) → o ≡ Some k → IsTrue (option_map_or test o false) → IsTrue (test k)
    some-test None k e t = cc
    some-test (Some x) k e t = subst (λ y. IsTrue (test y)) (some-inj x k e) t

    go : ((x : Known) × (known_at K r ≡ Some x)) ⊎ (known_at K r ≡ None) → (k : Known) × In k K × (k.id ≡ r) × IsTrue (test k)
    go (inl a) = let f = find-some (λ (x : Known). x.id.0 == r.0) K a.0 a.1 in (a.0, f.0, rev-eq a.0.id r f.1, some-test (known_at K r) a.0 a.1 t)
    go (inr n) = absurd (none-false (known_at K r) n t)

found-test : (K : List Known) → ¬ Two SameId K → (test : Known → Bool) (k : Known) → In k K → IsTrue (test k) → IsTrue (option_map_or test (known_at K k.id) false)
found-test K apart test k i t = subst (λ o. IsTrue (option_map_or test o false)) (sym (known-found K apart k i)) t

-- what a revision says, by way of what is known of its id
of-known : {X : Type 0} (f : Revision → X) (d : X) (o : Option Known) → option_map_or f (option_map (λ (k : Known). k.revision) o) d ≡ option_map_or (λ (k : Known). f k.revision) o d
of-known f d None = refl
of-known f d (Some k) = refl

abbrev is_of_fragment : Known → Bool
is_of_fragment k = is_some k.revision.host

fragment-known : (K : List Known) (r : RevisionId) → is_fragment K r ≡ option_map_or is_of_fragment (known_at K r) false
fragment-known K r = of-known (λ (v : Revision). is_some v.host) false (known_at K r)

-- ---- in order of bundles

put-head : (k x : Known) (xs ys : List Known) (b : Bool) (y : Known) → In y (if b then k ∷ x ∷ xs else x ∷ ys) → (In y ys → (y ≡ k) ⊎ In y xs) → (y ≡ k) ⊎ In y (x ∷ xs)
put-head k x xs ys true y (inl e) rest = inl e
put-head k x xs ys true y (inr i) rest = inr i
put-head k x xs ys false y (inl e) rest = inr (inl e)
put-head k x xs ys false y (inr i) rest = or-later (rest i)
  where
    or-later : (y ≡ k) ⊎ In y xs → (y ≡ k) ⊎ In y (x ∷ xs)
    or-later (inl e) = inl e
    or-later (inr j) = inr (inr j)

pub put-in : (k : Known) (xs : List Known) (y : Known) → In y (insert_by_bundle k xs) → (y ≡ k) ⊎ In y xs
put-in k [] y (inl e) = inl e
put-in k [] y (inr i) = elim i [ ]
put-in k (x ∷ xs) y i = put-head k x xs (insert_by_bundle k xs) (nat_le k.bundle.0 x.bundle.0) y i (put-in k xs y)

put-back : (k x : Known) (xs ys : List Known) (b : Bool) (y : Known) → (y ≡ k) ⊎ ((y ≡ x) ⊎ In y xs) → ((y ≡ k) ⊎ In y xs → In y ys) → In y (if b then k ∷ x ∷ xs else x ∷ ys)
put-back k x xs ys true y i rest = i
put-back k x xs ys false y (inl e) rest = inr (rest (inl e))
put-back k x xs ys false y (inr (inl e)) rest = inl e
put-back k x xs ys false y (inr (inr i)) rest = inr (rest (inr i))

pub in-put : (k : Known) (xs : List Known) (y : Known) → (y ≡ k) ⊎ In y xs → In y (insert_by_bundle k xs)
in-put k [] y i = i
in-put k (x ∷ xs) y i = put-back k x xs (insert_by_bundle k xs) (nat_le k.bundle.0 x.bundle.0) y i (in-put k xs y)

sorted-or : (k y : Known) (xs : List Known) → (y ≡ k) ⊎ In y (by_bundle xs) → (In y (by_bundle xs) → In y xs) → (y ≡ k) ⊎ In y xs
sorted-or k y xs (inl e) rest = inl e
sorted-or k y xs (inr i) rest = inr (rest i)

pub sorted-in : (xs : List Known) (y : Known) → In y (by_bundle xs) → In y xs
sorted-in [] y i = elim i [ ]
sorted-in (x ∷ xs) y i = sorted-or x y xs (put-in x (by_bundle xs) y i) (sorted-in xs y)

pub in-sorted : (xs : List Known) (y : Known) → In y xs → In y (by_bundle xs)
in-sorted [] y i = elim i [ ]
in-sorted (x ∷ xs) y (inl e) = in-put x (by_bundle xs) y (inl e)
in-sorted (x ∷ xs) y (inr i) = in-put x (by_bundle xs) y (inr (in-sorted xs y i))

-- the second is not of a later bundle
abbrev NotLater : Known → Known → Type 0
NotLater a b = b.bundle.0 ≤ a.bundle.0

put-apart_head : (k x : Known) (xs ys : List Known) (b : Bool) → nat_le k.bundle.0 x.bundle.0 ≡ b → (k.bundle.0 ≢ x.bundle.0) → ¬ Two NotLater (x ∷ xs) → ((y : Known) → In y ys → (y ≡ k) ⊎ In y xs) → ¬ Two NotLater ys → Two NotLater (if b then k ∷ x ∷ xs else x ∷ ys) → ⊥
put-apart_head k x xs ys true e d apart from rest (inl (y, inl s, h)) = first
  where
    first : ⊥
    first = let l = ap (λ (k : Known). k.bundle.0) s in let t : k.bundle.0 ≤ x.bundle.0 = leb-true k.bundle.0 x.bundle.0 e in d (omega (arith, t, h, l))
put-apart_head k x xs ys true e d apart from rest (inl (y, inr i, h)) = apart (inl (y, i, (let t : k.bundle.0 ≤ x.bundle.0 = leb-true k.bundle.0 x.bundle.0 e in omega (arith, t, h))))
put-apart_head k x xs ys true e d apart from rest (inr t) = apart t
put-apart_head k x xs ys false e d apart from rest (inl (y, i, h)) = elim (from y i) [
  | inl s ↦ (let l = ap (λ (k : Known). k.bundle.0) s in let t : x.bundle.0 < k.bundle.0 = leb-false k.bundle.0 x.bundle.0 e in omega (arith, t, h, l))
  | inr j ↦ apart (inl (y, j, h))
]
put-apart_head k x xs ys false e d apart from rest (inr t) = rest t

pub put-apart : (k : Known) (xs : List Known) → ((y : Known) → In y xs → k.bundle.0 ≢ y.bundle.0) → ¬ Two NotLater xs → ¬ Two NotLater (insert_by_bundle k xs)
put-apart k [] d apart (inl h) = elim h.1 [ ]
put-apart k [] d apart (inr t) = elim t [ ]
put-apart k (x ∷ xs) d apart t = put-apart_head k x xs (insert_by_bundle k xs) (nat_le k.bundle.0 x.bundle.0) refl (d x (inl refl)) apart (put-in k xs) (put-apart k xs (λ y i. d y (inr i)) (λ u. apart (inr u))) t

pub sorted-apart : (xs : List Known) → ¬ Two (λ (k l : Known). k.bundle.0 ≡ l.bundle.0) xs → ¬ Two NotLater (by_bundle xs)
sorted-apart [] d t = elim t [ ]
sorted-apart (x ∷ xs) d t = put-apart x (by_bundle xs) (λ y i e. d (inl (y, sorted-in xs y i, e))) (sorted-apart xs (λ u. d (inr u))) t

-- ---- the laws

bundle-found : (K : List Known) → ¬ Two SameId K → (k : Known) → In k K → bundle_of K k.id ≡ k.bundle.0
bundle-found K apart k i = ap (λ o. option_map_or (λ (k : Known). k.bundle.0) o 0) (known-found K apart k i)

abbrev is_current_fragment : Known → Bool
is_current_fragment k = k.current && is_of_fragment k

abbrev sorted : List Known → List Known
sorted K = by_bundle (filter is_current_fragment K)

pub laws : (P : Problem) → IsProblem P → Laws P.world.known
laws P L = record {
  revisions_are = λ r t. let k = test-found K (λ k. k.current) r t in subst (λ x. In x (map (λ (k : Known). k.id) K)) k.2 (in-map (λ (k : Known). k.id) K k.0 k.1);
  fragments_are = λ f. (
    λ i.
        let x = map-in (λ (k : Known). k.id) (sorted K) f i in
        let y = filter-in is_current_fragment K x.0 (sorted-in (filter is_current_fragment K) x.0 x.1) in
        let b = and-cases x.0.current (is_of_fragment x.0) y.1 in (
          subst (λ r. IsTrue (is_current K r)) (sym x.2) (found-test K apart (λ k. k.current) x.0 y.0 b.0),
          subst (λ r. IsTrue (is_fragment K r)) (sym x.2) (subst (λ b. IsTrue b) (sym (fragment-known K x.0.id)) (found-test K apart is_of_fragment x.0 y.0 b.1)),
        ),
    λ t.
        let x = test-found K (λ k. k.current) f t.0 in
        let y = test-found K is_of_fragment f (subst (λ b. IsTrue b) (fragment-known K f) t.1) in
        let same = only-one SameId K x.0 y.0 apart x.1 y.1 (x.2 ∙ sym y.2) (y.2 ∙ sym x.2) in
        let here = in-filter is_current_fragment K x.0 x.1 (and-both x.0.current (is_of_fragment x.0) x.3 (subst (λ (k : Known). IsTrue (is_of_fragment k)) (sym same) y.3)) in
        subst (λ r. In r (current_fragments K)) x.2
        (in-map (λ (k : Known). k.id) (sorted K) x.0 (in-sorted (filter is_current_fragment K) x.0 here)),
  );
  fragments_ordered = λ t.
      sorted-apart (filter is_current_fragment K) fragments-apart
      (two-and (λ (k l : Known). bundle_of K l.id ≤ bundle_of K k.id) NotLater (sorted K)
      (λ a b i j h.
      let x = bundle-found K apart a (filter-in is_current_fragment K a (sorted-in (filter is_current_fragment K) a i)).0 in
      let y = bundle-found K apart b (filter-in is_current_fragment K b (sorted-in (filter is_current_fragment K) b j)).0 in
      omega (arith, x, y, h))
      (two-map (λ (k : Known). k.id) (λ e f. bundle_of K f ≤ bundle_of K e) (sorted K) t));
  one_current = L.ordered.one_current;
  matching = λ f h t. both-hosts (revision_at K f) (revision_at K h) t;
  dynamics = dynamic-after K;
  higher_once = λ c d t. order-once (preference_version K c) (preference_version K d) t;
  satisfied = same-namespace K;
}
  where
    K : List Known
    K = P.world.known

    apart : ¬ Two SameId P.world.known
    apart = L.world_is.known_once

    one : (a b : Known) → In a P.world.known → In b P.world.known → IsTrue a.current → IsTrue b.current → a.bundle.0 ≡ b.bundle.0 → a.id ≡ b.id
    one a b i j s t e =
        L.ordered.one_current a.id b.id (found-test P.world.known apart (λ k. k.current) a i s) (found-test P.world.known apart (λ k. k.current) b j t)
        (bundle-found P.world.known apart a i ∙ e ∙ sym (bundle-found P.world.known apart b j))

    fragments-apart : ¬ Two (λ (k l : Known). k.bundle.0 ≡ l.bundle.0) (filter is_current_fragment P.world.known)
    fragments-apart t =
        apart (two-unfilter SameId is_current_fragment P.world.known
        (two-and (λ (k l : Known). k.bundle.0 ≡ l.bundle.0) SameId (filter is_current_fragment P.world.known)
        (λ a b i j e.
        let x = filter-in is_current_fragment P.world.known a i in
        let y = filter-in is_current_fragment P.world.known b j in
        one a b x.0 y.0 (and-cases a.current (is_of_fragment a) x.1).0 (and-cases b.current (is_of_fragment b) y.1).0 e) t))
