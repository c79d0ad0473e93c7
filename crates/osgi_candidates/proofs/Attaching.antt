-- The fragments that match a host, by bundle id.
use Rattle.std.proofs.Common.{◌≡◌, ◌==◌, ◌↔◌, ◌⊎◌, inl, inr, ℕ, ◌≤◌, List, [], ◌∷◌, ◌++◌, map, refl, sym, ◌∙◌, ap, subst, arith}
use Rattle.std.specs.Prelude.{false, IsSome, IsTrue, Option, None, Some}
use Rattle.std.specs.BTreeSet.{BTreeSet, insert_key, IsOrdered}
use Rattle.std.specs.Option.{option_map, option_map_or}
use Rattle.std.specs.Ordering.{nat_cmp}
use Rattle.std.specs.declared.cmp.Ordering.TheVariants.{Equal}
use Rattle.std.proofs.lemmas.Map.Lookups.{exact_unsigned}
use Rattle.osgi_base.specs.declared.ids.RevisionId.{RevisionId}
use Rattle.osgi_candidates.specs.computed.Fitting.{IsFit}
use Rattle.osgi_candidates.specs.computed.Fragments.{AreAttachable, AreBundled, IsMatch, IsMatchOf, bundled_cmp, fragment_of}
use Rattle.osgi_candidates.specs.computed.Names.{AreNames, values_of}
use Rattle.osgi_candidates.specs.declared.fragments.Bundled.{Bundled}
use Rattle.osgi_candidates.specs.declared.names.KnownNames.{KnownNames}
use Rattle.osgi_candidates.proofs.Answering.{fit_of}
use Rattle.osgi_candidates.proofs.Preferring.{nat-less, then_less, then_tie}
use Rattle.osgi_candidates.proofs.Proposed.{asks_host}
use Rattle.osgi_candidates.proofs.Sets.{put_in, put_kept, put_stored, two_below}
use Rattle.osgi_candidates.proofs.Tested.{matching_is}
use Rattle.osgi_resolver_theory.proofs.Laws.{laws}
use Rattle.osgi_resolver_theory.proofs.Lists.{in-map, map-in}
use Rattle.osgi_resolver_theory.proofs.Twos.{two-map, two-unfilter}
use Rattle.osgi_resolver_theory.proofs.Values.{find-some, rev-eq}
use Rattle.osgi_space_rules.proofs.Grow.{in_either}
use Rattle.osgi_world.specs.Candidates.{IsProblem, matching}
use Rattle.osgi_world.specs.Lists.{In, Two}
use Rattle.osgi_world.specs.Lookups.{bundle_of, is_host_of, known_at, revision_at, symbolic_name}
use Rattle.osgi_world.specs.Payloads.{current_fragments}
use Rattle.osgi_world.specs.Satisfaction.{matches_host}
use Rattle.osgi_world.specs.declared.problem.Problem.{Problem}
use Rattle.osgi_world.specs.declared.revision.Revision.{Revision}
use Rattle.osgi_world.specs.declared.world.Known.{Known}
use Rattle.osgi_world.specs.declared.world.World.{World}

-- ---- one after another

module _ (K : List Known) (host : Revision) where
  pub bundled_none : (keys : List Bundled) → keys ≡ [] → AreBundled K host [] keys
  bundled_none keys empty = record { good = λ b i. absurd (subst (λ l. In b l) empty i); all = λ f i. absurd i }

  pub bundled_skip : (among : List RevisionId) (f : RevisionId) (keys : List Bundled) → AreBundled K host among keys → ¬ IsMatchOf K host f → AreBundled K host (among ++ f ∷ []) keys
  bundled_skip among f keys are skip = record {
    good = are.good;
    all = λ x i m. elim (in_either among f x i) [ inl o ↦ are.all x o m | inr e ↦ absurd (skip (subst (IsMatchOf K host) e m)) ];
  }

  pub bundled_put : (among : List RevisionId) (b : Bundled) (keys new : List Bundled) → AreBundled K host among keys → IsMatchOf K host b.fragment → b.bundle.0 ≡ bundle_of K b.fragment → new ≡ insert_key bundled_cmp keys b → AreBundled K host (among ++ b.fragment ∷ []) new
  bundled_put among b keys new are is bundle put = record {
    good = λ x i. elim (put_in bundled_cmp b keys x (subst (λ l. In x l) put i)) [
      | inl e ↦ subst (λ (y : Bundled). IsMatchOf K host y.fragment × (y.bundle.0 ≡ bundle_of K y.fragment)) (sym e) (is, bundle)
      | inr o ↦ are.good x o
    ];
    all = λ f i m. elim (in_either among b.fragment f i) [
      | inl o ↦ (let z = are.all f o m in (z.0, subst (λ l. In z.0 l) (sym put) (put_kept bundled_cmp b keys z.0 z.1), z.2))
      | inr e ↦ (
          let z = put_stored bundled_cmp b keys in
          let same : z.0.fragment ≡ b.fragment = elim z.2 [ inl e ↦ ap fragment_of e | inr tie ↦ tied b z.0 tie ] in
          (z.0, subst (λ l. In z.0 l) (sym put) z.1, same ∙ sym e))
    ];
  }
    where
      tied : (a b : Bundled) → bundled_cmp a b ≡ Equal → b.fragment ≡ a.fragment
      tied a b e = let t = then_tie (nat_cmp a.bundle.0 b.bundle.0) (nat_cmp a.fragment.0 b.fragment.0) e in let f = exact_unsigned a.fragment.0 b.fragment.0 t.1 in ap (λ n. record { 0 = n }) (sym f)

-- ---- all of them

current-some : (o : Option Known) → IsTrue (option_map_or (λ (k : Known). k.current) o false) → (k : Known) × (o ≡ Some k) × IsTrue k.current
current-some None t = absurd (cc t)
current-some (Some k) t = (k, refl, t)

name-of : (K : List Known) (r : RevisionId) (v : Revision) → revision_at K r ≡ Some v → symbolic_name K r ≡ v.name
name-of K r v e = ap (λ o. option_map_or (λ (x : Revision). x.name) o []) e

known-some : (o : Option Known) → IsSome o → option_map (λ (k : Known). k.revision) o ≡ None → ⊥
known-some None s e = cc s
known-some (Some k) s e = cc e

-- a fragment matches the host with an id exactly where it matches its revision
host-of : (K : List Known) (h : RevisionId) (v : Revision) → revision_at K h ≡ Some v → (f : RevisionId) → is_host_of K f h ≡ option_map_or (λ fragment. matches_host fragment v) (revision_at K f) false
host-of K h v is f = ap (λ o. option_map_or (λ fragment. option_map_or (λ host. matches_host fragment host) o false) (revision_at K f) false) is

match-of : (K : List Known) (h : RevisionId) (v : Revision) → revision_at K h ≡ Some v → (f : RevisionId) → IsMatch K h f ↔ IsMatchOf K v f
match-of K h v is f = (λ m. (m.0, subst IsTrue (host-of K h v is f) m.1), λ m. (m.0, subst IsTrue (sym (host-of K h v is f)) m.1))

module _ (w : World) (fit : IsFit w) (h : RevisionId) where
  pub attachable_none : (list : List RevisionId) → list ≡ [] → revision_at w.known h ≡ None → AreAttachable w h list
  attachable_none list empty none = record {
    are = λ f. (λ i. absurd (subst (λ l. In f l) empty i), λ m. absurd (known-some (known_at w.known h) (asks_host w.known f h m.1).known none));
    ordered = λ t. subst (λ l. Two (λ e f. bundle_of w.known f ≤ bundle_of w.known e) l) empty t;
  }

  -- a fragment that matches stands under the name of the host
  listed : (names : KnownNames) → AreNames w.known names → (v : Revision) → revision_at w.known h ≡ Some v → (f : RevisionId) → IsMatch w.known h f → In f (values_of names.fragments v.name)
  listed names are v is f m =
      let a = asks_host w.known f h m.1 in
      let k = current-some (known_at w.known f) m.0 in
      let id = rev-eq k.0.id f (find-some (λ (x : Known). x.id.0 == f.0) w.known k.0 k.1).1 in
      let name : a.asked.name ≡ v.name = sym a.name ∙ name-of w.known h v is in
      let revision : Some k.0.revision ≡ Some a.fragment = sym (ap (λ o. option_map (λ (x : Known). x.revision) o) k.1) ∙ a.is in
      let same : k.0.revision ≡ a.fragment = cc revision in
      are.fragments f k.0 k.1 v.name f (k.2, (a.asked, ap (λ (x : Revision). x.host) same ∙ a.host, name), sym id)

  pub attachable_are : (names : KnownNames) → AreNames w.known names → (v : Revision) → revision_at w.known h ≡ Some v → (set : BTreeSet Bundled) (list : List RevisionId) → AreBundled w.known v (values_of names.fragments v.name) set.keys → list ≡ map fragment_of set.keys → IsOrdered bundled_cmp set →
      AreAttachable w h list
  attachable_are names are v is set list bundled made up = record {
    are = λ f. (
      λ i. let m = map-in fragment_of set.keys f (subst (λ l. In f l) made i) in subst (IsMatch w.known h) (sym m.2) ((match-of w.known h v is m.0.fragment).1 (bundled.good m.0 m.1).0),
      λ m. let b = bundled.all f (listed names are v is f m) ((match-of w.known h v is f).0 m) in subst (λ l. In f l) (sym made) (subst (λ r. In r (map fragment_of set.keys)) b.2 (in-map fragment_of set.keys b.0 b.1)),
    );
    ordered = λ t.
        let R : RevisionId → RevisionId → Type 0 = λ e f. bundle_of w.known f ≤ bundle_of w.known e in
        let b = two_below bundled_cmp (λ (x y : Bundled). R x.fragment y.fragment) set.keys up (two-map fragment_of R set.keys (subst (λ l. Two R l) made t)) in
        let low = bundled.good b.low b.low_in in
        let high = bundled.good b.high b.high_in in
        elim (then_less (nat_cmp b.low.bundle.0 b.high.bundle.0) (nat_cmp b.low.fragment.0 b.high.fragment.0) b.less) [
          | inl less ↦ (let l = nat-less b.low.bundle.0 b.high.bundle.0 less in let r = b.related in let x = low.1 in let y = high.1 in omega (arith, l, r, x, y))
          | inr tied ↦ (
              let bundles = exact_unsigned b.low.bundle.0 b.high.bundle.0 tied.0 in
              let same = fit.ordered.one_current b.low.fragment b.high.fragment low.0.0 high.0.0 (sym low.1 ∙ (bundles ∙ high.1)) in
              let l = nat-less b.low.fragment.0 b.high.fragment.0 tied.1 in
              let e = ap (λ (x : RevisionId). x.0) same in
              omega (arith, l, e))
        ];
  }

-- ---- one list

module _ {X : Type 0} (key : X → ℕ) where
  abbrev Rises : List X → Type 0
  Rises xs = ¬ Two (λ a b. key b ≤ key a) xs

  head-same : (c d : X) (cs ds : List X) → Rises (c ∷ cs) → Rises (d ∷ ds) → (c ≡ d) ⊎ In c ds → (d ≡ c) ⊎ In d cs → c ≡ d
  head-same c d cs ds o p (inl e) j = e
  head-same c d cs ds o p (inr i) (inl e) = sym e
  head-same c d cs ds o p (inr i) (inr j) = absurd (apart (λ l. p (inl (c, i, l))) (λ l. o (inl (d, j, l))))
    where
      apart : (¬ (key c ≤ key d)) → (¬ (key d ≤ key c)) → ⊥
      apart x y = omega (arith, x, y)

  not-later : (c : X) (cs : List X) → Rises (c ∷ cs) → In c cs → ⊥
  not-later c cs o i = o (inl (c, i, (omega arith)))

  in-tail : (x c d : X) (ds : List X) → c ≡ d → (x ≡ c → ⊥) → (x ≡ d) ⊎ In x ds → In x ds
  in-tail x c d ds e n (inl f) = absurd (n (f ∙ sym e))
  in-tail x c d ds e n (inr i) = i

  -- two rising lists of the same items are one
  pub rising_once : (cs ds : List X) → Rises cs → Rises ds → ((x : X) → In x cs ↔ In x ds) → cs ≡ ds
  rising_once [] [] o p same = refl
  rising_once [] (d ∷ ds) o p same = absurd ((same d).1 (inl refl))
  rising_once (c ∷ cs) [] o p same = absurd ((same c).0 (inl refl))
  rising_once (c ∷ cs) (d ∷ ds) o p same =
      let e = head-same c d cs ds o p ((same c).0 (inl refl)) ((same d).1 (inl refl)) in
      let rest = rising_once cs ds (λ t. o (inr t)) (λ t. p (inr t)) (λ x. (
        λ i. in-tail x c d ds e (λ f. not-later c cs o (subst (λ y. In y cs) f i)) ((same x).0 (inr i)),
        λ j. in-tail x d c cs (sym e) (λ f. not-later d ds p (subst (λ y. In y ds) f j)) ((same x).1 (inr j)),
      )) in
      λ i. e i ∷ rest i

pub attachable_same : (P : Problem) (w : World) (h : RevisionId) (list : List RevisionId) → IsProblem P → P.world ≡ w → (IsFit w → AreAttachable w h list) → list ≡ matching P h
attachable_same P w h list L same exact =
    let fit = fit_of P L in
    let here : IsFit P.world → AreAttachable P.world h list = subst (λ (v : World). IsFit v → AreAttachable v h list) (sym same) exact in
    let are = here fit in
    let K = P.world.known in
    rising_once (bundle_of K) list (matching P h) are.ordered
    (λ t. (laws P L).fragments_ordered (two-unfilter (λ e f. bundle_of K f ≤ bundle_of K e) (λ f. is_host_of K f h) (current_fragments K) t))
    (λ f. (λ i. (matching_is P.world fit f h).1 ((are.are f).0 i), λ m. (are.are f).1 ((matching_is P.world fit f h).0 m)))
