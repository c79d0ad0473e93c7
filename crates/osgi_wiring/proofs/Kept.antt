-- What holds of the world at all times: at first, with one more known revision, and with more wirings.
use Rattle.std.proofs.Common.{◌≡◌, ◌≢◌, ℕ, suc, ◌+◌, ◌<◌, ◌≤◌, ◌⊎◌, inl, inr, IsSome, IsTrue, List, [], ◌∷◌, ◌++◌, map, Option, Some, None, refl, sym, ◌∙◌, ap, ap₂, subst, arith}
use Rattle.std.specs.Prelude.{All, find, is_some, ◌==◌, ◌&&◌, Bool, true, false, cond}
use Rattle.std.specs.List.Sorted.{IsNonDecreasing, IsStrictlyIncreasing}
use Rattle.std.specs.Option.{option_map_or, option_or}
use Rattle.std.proofs.lemmas.Bool.{eq-eqb, eqb-true, ne_eqb}
use Rattle.std.proofs.lemmas.List.{map-append}
use Rattle.std.proofs.lemmas.List.Elements.{All-map, All-push, All-weaker}
use Rattle.std.proofs.lemmas.List.Folds.{find-append}
use Rattle.std.proofs.lemmas.List.Kept.{AllPairs-from_increasing}
use Rattle.std.proofs.lemmas.List.Quantifiers.{all_pairs_push}
use Rattle.osgi_base.specs.declared.ids.BundleId.{BundleId}
use Rattle.osgi_base.specs.declared.ids.RevisionId.{RevisionId}
use Rattle.osgi_world.specs.Candidates.{AreOrdered}
use Rattle.osgi_world.specs.Lists.{In, Two}
use Rattle.osgi_world.specs.Lookups.{bundle_of, IsKnown, is_current, known_at}
use Rattle.osgi_world.specs.declared.wiring.Wiring.{Wiring}
use Rattle.osgi_world.specs.declared.world.Known.{Known}
use Rattle.osgi_world.specs.declared.world.World.{World}
use Rattle.osgi_wiring.proofs.Grown.{attached-known, Grown, consistent-up, world-up}
use Rattle.osgi_wiring.specs.States.{BecomesKnown, current_in, IsKeptWorld, MayExtend, revision_number, with_known, with_wirings}

-- ---- one more known revision

rising-push : (issued : ℕ) (K : List Known) (k : Known) → IsStrictlyIncreasing (map revision_number K) → All (λ l. revision_number l ≤ issued) K → revision_number k ≡ issued + 1 → IsStrictlyIncreasing (map revision_number (K ++ k ∷ []))
rising-push issued K k rising given next =
    let below : All (λ n. n ≤ issued) (map revision_number K) = All-map (λ n. n ≤ issued) revision_number K given in
    let pairs = all_pairs_push (λ x y. x < y) (map revision_number K) (revision_number k) (AllPairs-from_increasing (map revision_number K) rising) (λ i d within. omega (arith, below i d within, next)) in
    subst IsStrictlyIncreasing (sym (map-append revision_number K (k ∷ []))) (λ i within. pairs i (i + 1) 0 (omega arith) within)

given-push : (issued : ℕ) (K : List Known) (k : Known) → All (λ l. revision_number l ≤ issued) K → revision_number k ≡ issued + 1 → All (λ l. revision_number l ≤ issued + 1) (K ++ k ∷ [])
given-push issued K k given next =
    All-push (λ l. revision_number l ≤ issued + 1) K k (All-weaker (λ l. revision_number l ≤ issued) (λ l. revision_number l ≤ issued + 1) (λ l le. omega (arith, le)) K given) (omega (arith, next))

in-push : {X : Type 0} (xs : List X) (x y : X) → In y (xs ++ x ∷ []) → In y xs ⊎ (y ≡ x)
in-push [] x y (inl e) = inr e
in-push [] x y (inr i) = elim i [ ]
in-push (z ∷ xs) x y (inl e) = inl (inl e)
in-push (z ∷ xs) x y (inr i) = elim (in-push xs x y i) [ inl j ↦ inl (inr j) | inr e ↦ inr e ]

two-push : {X : Type 0} (R : X → X → Type 0) (xs : List X) (x : X) → Two R (xs ++ x ∷ []) → Two R xs ⊎ ((y : X) × In y xs × R y x)
two-push R [] x (inl h) = elim h.1 [ ]
two-push R [] x (inr t) = elim t [ ]
two-push R (z ∷ xs) x (inl h) = elim (in-push xs x h.0 h.1) [ inl i ↦ inl (inl (h.0, i, h.2)) | inr e ↦ inr (z, inl refl, subst (R z) e h.2) ]
two-push R (z ∷ xs) x (inr t) = elim (two-push R xs x t) [ inl u ↦ inl (inr u) | inr a ↦ inr (a.0, inr a.1, a.2) ]

pub all-in : (P : Known → Type 0) (K : List Known) → All P K → (k : Known) → In k K → P k
all-in P [] all k i = elim i [ ]
all-in P (l ∷ K) all k (inl e) = subst P (sym e) (all 0 l (omega arith))
all-in P (l ∷ K) all k (inr i) = all-in P K (λ n d within. all (suc n) d (omega arith)) k i

once-push : (issued : ℕ) (K : List Known) (k : Known) → ¬ Two (λ (a b : Known). a.id ≡ b.id) K → All (λ l. revision_number l ≤ issued) K → revision_number k ≡ issued + 1 → ¬ Two (λ (a b : Known). a.id ≡ b.id) (K ++ k ∷ [])
once-push issued K k once given next t = elim (two-push (λ (a b : Known). a.id ≡ b.id) K k t) [
  | inl u ↦ once u
  | inr a ↦ let le = all-in (λ l. revision_number l ≤ issued) K given a.0 a.1 in let e = ap (λ (r : RevisionId). r.0) a.2 in omega (arith, le, e, next)
]

or-left : {X : Type 0} (a b : Option X) → IsSome a → option_or a b ≡ a
or-left None b some = cc
or-left (Some x) b some = refl

same-push : (K : List Known) (k : Known) (r : RevisionId) → IsKnown K r → known_at (K ++ k ∷ []) r ≡ known_at K r
same-push K k r known = find-append (λ (l : Known). l.id.0 == r.0) K (k ∷ []) ∙ or-left (known_at K r) (find (λ (l : Known). l.id.0 == r.0) (k ∷ [])) known

map-same : {X : Type 0} (f g : X → ℕ) (xs : List X) → ((x : X) → In x xs → f x ≡ g x) → map f xs ≡ map g xs
map-same f g [] same = refl
map-same f g (x ∷ xs) same = λ i. same x (inl refl) i ∷ map-same f g xs (λ y there. same y (inr there)) i

-- ---- at most one current revision of a bundle

find-by : {X : Type 0} (p : X → Bool) (y : X) (ys : List X) (x : X) (here : Bool) → p y ≡ here → (find p ys ≡ Some x → In x ys × (p x ≡ true)) → cond here (Some y) (find p ys) ≡ Some x → In x (y ∷ ys) × (p x ≡ true)
find-by {X = X} p y ys x true is more found = let same : y ≡ x = cc found in (inl (sym same), subst (λ (z : X). p z ≡ true) same is)
find-by p y ys x false is more found = let rest = more found in (inr rest.0, rest.1)

pub find-in : {X : Type 0} (p : X → Bool) (xs : List X) (x : X) → find p xs ≡ Some x → In x xs × (p x ≡ true)
find-in p [] x found = absurd (cc found)
find-in p (y ∷ ys) x found = find-by p y ys x (p y) refl (find-in p ys x) found

none-by : {X : Type 0} (p : X → Bool) (y : X) (ys : List X) (x : X) (here : Bool) → p y ≡ here → (find p ys ≡ None → In x ys → ⊥) → cond here (Some y) (find p ys) ≡ None → In x (y ∷ ys) → p x ≡ true → ⊥
none-by p y ys x true is more none i passes = absurd (cc none)
none-by {X = X} p y ys x false is more none (inl same) passes = let here : p y ≡ true = subst (λ (z : X). p z ≡ true) same passes in cc (here, is)
none-by p y ys x false is more none (inr j) passes = more none j

pub none-in : {X : Type 0} (p : X → Bool) (xs : List X) (x : X) → find p xs ≡ None → In x xs → p x ≡ true → ⊥
none-in p [] x none i passes = elim i [ ]
none-in p (y ∷ ys) x none i passes = none-by p y ys x (p y) refl (λ e j. none-in p ys x e j passes) none i passes

-- of a current revision
current-known : (K : List Known) (r : RevisionId) → IsTrue (is_current K r) → (k : Known) × (known_at K r ≡ Some k) × (k.current ≡ true)
current-known K r current = by (known_at K r) refl current
  where
    by : (o : Option Known) → known_at K r ≡ o → IsTrue (option_map_or (λ (k : Known). k.current) o false) → (k : Known) × (known_at K r ≡ Some k) × (k.current ≡ true)
    by None is current = absurd (cc current)
    by (Some k) is current = (k, is, current)

-- a bundle without a current revision has none
no-current : (K : List Known) (b : BundleId) (r : RevisionId) → current_in K b ≡ None → IsTrue (is_current K r) → bundle_of K r ≡ b.0 → ⊥
no-current K b r none current bundle =
    let known = current-known K r current in
    let k : Known = known.0 in
    let there = find-in (λ (l : Known). l.id.0 == r.0) K k known.1 in
    let same : k.bundle.0 ≡ b.0 = sym (ap (λ o. option_map_or (λ (l : Known). l.bundle.0) o 0) known.1) ∙ bundle in
    none-in (λ (l : Known). l.current && (l.bundle.0 == b.0)) K k none there.0 (ap₂ (λ c d. c && d) known.2 (eq-eqb k.bundle.0 b.0 same))

-- what is current with one more known revision was so before, or is that one
module _ (K : List Known) (k : Known) where
  Split : RevisionId → Type 0
  Split r = (IsTrue (is_current K r) × (bundle_of (K ++ k ∷ []) r ≡ bundle_of K r)) ⊎ ((r ≡ k.id) × (bundle_of (K ++ k ∷ []) r ≡ k.bundle.0))

  split-new : (r : RevisionId) (t : Bool) → (k.id.0 == r.0) ≡ t → known_at (K ++ k ∷ []) r ≡ cond t (Some k) None → IsTrue (is_current (K ++ k ∷ []) r) → Split r
  unfolding Split
  split-new r true same is current =
      inr ((λ i. record { 0 = sym (eqb-true k.id.0 r.0 same) i }), ap (λ o. option_map_or (λ (l : Known). l.bundle.0) o 0) is)
  split-new r false other is current = absurd (cc (current, ap (λ o. option_map_or (λ (l : Known). l.current) o false) is))

  split : (r : RevisionId) → IsTrue (is_current (K ++ k ∷ []) r) → Split r
  unfolding Split
  split r current = by (known_at K r) refl
    where
      all : known_at (K ++ k ∷ []) r ≡ option_or (known_at K r) (known_at (k ∷ []) r)
      all = find-append (λ (l : Known). l.id.0 == r.0) K (k ∷ [])

      by : (o : Option Known) → known_at K r ≡ o → (IsTrue (is_current K r) × (bundle_of (K ++ k ∷ []) r ≡ bundle_of K r)) ⊎ ((r ≡ k.id) × (bundle_of (K ++ k ∷ []) r ≡ k.bundle.0))
      by None is = split-new r (k.id.0 == r.0) refl (all ∙ ap (λ o. option_or o (known_at (k ∷ []) r)) is) current
      by (Some l) is =
          let same : known_at (K ++ k ∷ []) r ≡ known_at K r = all ∙ ap (λ o. option_or o (known_at (k ∷ []) r)) is ∙ sym is in
          inl (subst (λ o. IsTrue (option_map_or (λ (l : Known). l.current) o false)) same current, ap (λ o. option_map_or (λ (l : Known). l.bundle.0) o 0) same)

  one-push : ((r s : RevisionId) → IsTrue (is_current K r) → IsTrue (is_current K s) → bundle_of K r ≡ bundle_of K s → r ≡ s) → current_in K k.bundle ≡ None → (r s : RevisionId) →
      IsTrue (is_current (K ++ k ∷ []) r) → IsTrue (is_current (K ++ k ∷ []) s) → bundle_of (K ++ k ∷ []) r ≡ bundle_of (K ++ k ∷ []) s → r ≡ s
  unfolding Split
  one-push one none r s i j same = elim (split r i) [
    | inl a ↦ elim (split s j) [
      | inl b ↦ one r s a.0 b.0 (sym a.1 ∙ same ∙ b.1)
      | inr b ↦ absurd (no-current K k.bundle r none a.0 (sym a.1 ∙ same ∙ b.1))
    ]
    | inr a ↦ elim (split s j) [
      | inl b ↦ absurd (no-current K k.bundle s none b.0 (sym b.1 ∙ sym same ∙ a.1))
      | inr b ↦ a.0 ∙ sym b.0
    ]
  ]

ordered-known : (world : World) (issued : ℕ) → IsKeptWorld world issued → (k : Known) → revision_number k ≡ issued + 1 → current_in world.known k.bundle ≡ None →
    Grown world.known (world.known ++ k ∷ []) world.wirings → AreOrdered (world.known ++ k ∷ []) world.wirings
ordered-known world issued kept k next none grown = record {
  by_id = rising-push issued world.known k kept.ordered.by_id kept.given next;
  fragments_ordered = λ g there.
      subst IsNonDecreasing (map-same (bundle_of world.known) (bundle_of (world.known ++ k ∷ [])) g.fragments (λ f i.
      ap (λ o. option_map_or (λ (l : Known). l.bundle.0) o 0) (sym (grown.same f (attached-known grown (record { wiring = g; stands = there; revision = refl; has = i }))))))
      (kept.ordered.fragments_ordered g there);
  one_current = one-push world.known k kept.ordered.one_current none;
}

kept-known : (world : World) (issued : ℕ) → IsKeptWorld world issued → (k : Known) → revision_number k ≡ issued + 1 → current_in world.known k.bundle ≡ None → IsKeptWorld (with_known world k) (issued + 1)
kept-known world issued kept k next none =
    let grown : Grown world.known (world.known ++ k ∷ []) world.wirings = record { same = same-push world.known k; is_world = kept.is_world; consistent = kept.consistent } in
    record {
      is_world = world-up grown (once-push issued world.known k kept.is_world.known_once kept.given next);
      consistent = consistent-up grown;
      ordered = ordered-known world issued kept k next none grown;
      given = given-push issued world.known k kept.given next;
    }

-- no id above those that were given is known
none-above : (issued : ℕ) (K : List Known) (r : RevisionId) → All (λ k. revision_number k ≤ issued) K → issued < r.0 → known_at K r ≡ None
none-above issued [] r given above = refl
none-above issued (k ∷ K) r given above =
    let le : revision_number k ≤ issued = given 0 k (omega arith) in
    let other : (k.id.0 == r.0) ≡ false = ne_eqb k.id.0 r.0 (λ e. omega (arith, le, e, above)) in
    rw other (none-above issued K r (λ n d within. given (suc n) d (omega arith)) above)

not-known : (K : List Known) (r : RevisionId) → known_at K r ≡ None → ¬ IsKnown K r
not-known K r none known = let some : IsSome (known_at K r) = known in let e : is_some (known_at K r) ≡ false = ap is_some none in cc

or-right : {X : Type 0} (a b : Option X) → a ≡ None → option_or a b ≡ b
or-right None b none = refl
or-right (Some x) b none = cc

or-none : {X : Type 0} (a : Option X) → option_or a None ≡ a
or-none None = refl
or-none (Some x) = refl

last-is : (k : Known) → known_at (k ∷ []) k.id ≡ Some k
last-is k = let same : (k.id.0 == k.id.0) ≡ true = grind arith in rw same refl

last-is_not : (k : Known) (r : RevisionId) → r ≢ k.id → known_at (k ∷ []) r ≡ None
last-is_not k r other = let differs : (k.id.0 == r.0) ≡ false = ne_eqb k.id.0 r.0 (λ e. other (ap (λ n. record { 0 = n }) (sym e))) in rw differs refl

becomes-known : (world : World) (issued : ℕ) → IsKeptWorld world issued → (k : Known) → revision_number k ≡ issued + 1 → BecomesKnown world (with_known world k) k
becomes-known world issued kept k next =
    let none : known_at world.known k.id ≡ None = none-above issued world.known k.id kept.given (omega (arith, next)) in
    record {
      unknown = not-known world.known k.id none;
      is = find-append (λ (l : Known). l.id.0 == k.id.0) world.known (k ∷ []) ∙ or-right (known_at world.known k.id) (known_at (k ∷ []) k.id) none ∙ last-is k;
      others = λ r other.
          find-append (λ (l : Known). l.id.0 == r.0) world.known (k ∷ []) ∙ ap (option_or (known_at world.known r)) (last-is_not k r other) ∙ or-none (known_at world.known r);
      not_in_force = λ i. not-known world.known k.id none (subst (IsKnown world.known) i.revision (kept.is_world.known i.wiring i.stands));
    }

-- both, of a world that is the one with the revision
pub kept-grown : (world : World) (issued : ℕ) (k : Known) (K : List Known) → K ≡ world.known ++ k ∷ [] → revision_number k ≡ issued + 1 → current_in world.known k.bundle ≡ None → IsKeptWorld world issued → IsKeptWorld (record world { known = K }) (issued + 1)
kept-grown world issued k K is next none kept = subst (λ (L : List Known). IsKeptWorld (record world { known = L }) (issued + 1)) (sym is) (kept-known world issued kept k next none)

pub becomes-grown : (world : World) (issued : ℕ) (k : Known) (K : List Known) → K ≡ world.known ++ k ∷ [] → revision_number k ≡ issued + 1 → IsKeptWorld world issued → BecomesKnown world (record world { known = K }) k
becomes-grown world issued k K is next kept = subst (λ (L : List Known). BecomesKnown world (record world { known = L }) k) (sym is) (becomes-known world issued kept k next)

-- ---- more wirings

in-append : {X : Type 0} (xs ys : List X) (x : X) → In x (xs ++ ys) → In x xs ⊎ In x ys
in-append [] ys x i = inr i
in-append (y ∷ xs) ys x (inl e) = inl (inl e)
in-append (y ∷ xs) ys x (inr i) = elim (in-append xs ys x i) [ inl j ↦ inl (inr j) | inr j ↦ inr j ]

pub kept-wirings : (world : World) (issued : ℕ) → IsKeptWorld world issued → (added : List Wiring) → MayExtend world added → IsKeptWorld (with_wirings world added) issued
kept-wirings world issued kept added may = record {
  is_world = may.extends.world;
  consistent = may.extends.consistent;
  ordered = record {
    by_id = kept.ordered.by_id;
    fragments_ordered = λ g there. elim (in-append world.wirings added g there) [
      | inl old ↦ kept.ordered.fragments_ordered g old
      | inr new ↦ may.fragments_ordered g new
    ];
    one_current = kept.ordered.one_current;
  };
  given = kept.given;
}
