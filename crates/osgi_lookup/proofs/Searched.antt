-- A revision found by a binary search for its id.
use Rattle.std.proofs.Common.{◌≡◌, ◌==◌, ◌↔◌, ◌⊎◌, inl, inr, ◌+◌, ◌<◌, ◌≤◌, ℕ, suc, List, [], ◌∷◌, length, map, get_or, ap, sym, subst, ◌∙◌, refl, arith, Result, Ok, Err, Bor}
use Rattle.std.specs.Prelude.{Bool, true, false, IsTrue, Option, None, Some, nat_lt, slice_get}
use Rattle.std.specs.List.{IsAllAdjacentAnswer}
use Rattle.std.specs.List.Sorted.{IsBinarySearchResult, IsNonDecreasingBy, IsPartitionPoint, IsSearchInRange}
use Rattle.std.specs.Option.{option_and_then, option_copied}
use Rattle.std.specs.Ordering.{nat_cmp, ordering_index}
use Rattle.std.specs.Result.{result_ok}
use Rattle.std.specs.Slice.{IsItemAt}
use Rattle.std.specs.declared.cmp.Ordering.TheVariants.{Less, Greater}
use Rattle.std.proofs.lemmas.Bool.{cases_lt, eq-eqb, ne_eqb}
use Rattle.std.proofs.lemmas.Bool.Decides.{nat_tests}
use Rattle.std.proofs.lemmas.Cmp.{ranked}
use Rattle.std.proofs.lemmas.List.{get_or-map, length-map}
use Rattle.std.proofs.lemmas.List.Folds.{find_at}
use Rattle.std.proofs.lemmas.List.Kept.{AllPairs-from_increasing}
use Rattle.std.proofs.lemmas.List.Sums.{position_or_len_is}
use Rattle.std.proofs.lemmas.Option.{slice_get_past, slice_get_read}
use Rattle.osgi_base.specs.declared.ids.RevisionId.{RevisionId}
use Rattle.osgi_lookup.specs.computed.Index.{AreRising, revision_number}
use Rattle.osgi_world.specs.Lookups.{known_at}
use Rattle.osgi_world.specs.declared.world.Known.{Known}

-- the revision that is lent of a place
pub lent : (K : List Known) (i : ℕ) (r : Option (Bor Known)) → IsItemAt K i r → option_copied r ≡ slice_get K i
lent K i None got = sym (slice_get_past K i got.3)
lent K i (Some x) got = sym (slice_get_read K (length K) i x.now refl got.3.0 (got.3.1 x.now))

any_of : {X : Type 0} (xs : List X) (i : ℕ) → i < length xs → X
any_of [] i within = absurd (omega (arith, within))
any_of (x ∷ xs) i within = x

absent : (K : List Known) (r : RevisionId) → ((i : ℕ) (d : Known) → i < length K → ¬ (revision_number (get_or K i d) ≡ r.0)) → known_at K r ≡ None
absent [] r none = refl
absent (k ∷ K) r none =
    rw (ne_eqb (revision_number k) r.0 (none 0 k (omega arith))) (absent K r (λ i d within. none (suc i) d (omega (arith, within))))

module _ (K : List Known) (rising : AreRising K) where
  ids_rise : (i j : ℕ) (d : Known) → i < j → j < length K → revision_number (get_or K i d) < revision_number (get_or K j d)
  ids_rise i j d before within =
      let later = AllPairs-from_increasing (map revision_number K) rising i j 0 before (subst (λ n. j < n) (sym (length-map K revision_number)) within) in
      subst (λ n. n < revision_number (get_or K j d)) (get_or-map revision_number K i d 0 (omega (arith, before, within))) (subst (λ n. get_or (map revision_number K) i 0 < n) (get_or-map revision_number K j d 0 within) later)

  ids_do_not_fall : (i j : ℕ) (d : Known) → i ≤ j → j < length K → revision_number (get_or K i d) ≤ revision_number (get_or K j d)
  ids_do_not_fall i j d before within = grind (arith, ids_rise i j d, λ (same : i ≡ j). ap (λ n. revision_number (get_or K n d)) same)

  comparisons_rise : (id : ℕ) → IsNonDecreasingBy (λ k. ordering_index (nat_cmp (revision_number k) id)) K
  comparisons_rise id i j d before within =
      let rise = ids_do_not_fall i j d before within in
      grind (arith, nat_tests)

  found_at : (r : RevisionId) (i : ℕ) (d : Known) → i < length K → revision_number (get_or K i d) ≡ r.0 → known_at K r ≡ slice_get K i
  found_at r i d within is =
      let test : Known → Bool = λ k. revision_number k == r.0 in
      find_at test K
      ∙ ap (slice_get K) (position_or_len_is test K i d (omega (arith, within)) (λ n before. ne_eqb (revision_number (get_or K n d)) r.0 (λ same. omega (arith, ids_rise n i d before within, is, same)))
      (λ w. eq-eqb (revision_number (get_or K i d)) r.0 is))

  -- a known revision with the id is the one
  pub known_there : (r : RevisionId) (i : ℕ) (x : Bor Known) → IsItemAt K i (Some x) → x.now.id.0 ≡ r.0 → known_at K r ≡ Some x.now
  known_there r i x got same = found_at r i x.now got.3.0 (sym (ap revision_number (got.3.1 x.now)) ∙ same) ∙ sym (lent K i (Some x) got)

  missed_by : (id i j : ℕ) (d : Known) → IsPartitionPoint (λ k. nat_cmp (revision_number k) id ≡ Less) (λ k. nat_cmp (revision_number k) id ≡ Greater) K i → j < length K →
      (j < i) ⊎ (i ≤ j) → ¬ (revision_number (get_or K j d) ≡ id)
  missed_by id i j d parted within (inl before) same =
      let below : revision_number (get_or K j d) < id = ranked _ id _ (sym (parted.0 j d (omega arith) before)) in
      omega (arith, below, same)
  missed_by id i j d parted within (inr after) same =
      let above : id < revision_number (get_or K j d) = ranked _ id _ (sym (parted.1 j d after within)) in
      omega (arith, above, same)

  -- the search ends at the revision, if it is known
  pub searched : (r : RevisionId) (at : Result ℕ ℕ) → IsSearchInRange at (length K) → IsBinarySearchResult (λ k. nat_cmp (revision_number k) r.0) K at → option_and_then (slice_get K) (result_ok at) ≡ known_at K r
  searched r (Ok i) within equal = let d = any_of K i within in sym (found_at r i d within (ranked _ r.0 _ (sym (equal d))))
  searched r (Err i) within parted = sym (absent K r (λ j d inside. missed_by r.0 i j d (parted (comparisons_rise r.0)) inside (cases_lt j i)))

-- ---- whether the ids rise

abbrev pub is_before : Known → Known → Bool
is_before k l = nat_lt (revision_number k) (revision_number l)

id_at : (K : List Known) (i : ℕ) (d : Known) → i < length K → get_or (map revision_number K) i 0 ≡ revision_number (get_or K i d)
id_at K i d within = get_or-map revision_number K i d 0 within

before-is : (a b : ℕ) → true ≡ nat_lt a b → a < b
before-is a b e = grind (arith, nat_tests, e)

before-not : (a b : ℕ) → false ≡ nat_lt a b → a < b → ⊥
before-not a b e h = grind (arith, nat_tests, e, h)

-- each is before the next exactly where the ids rise
pub rise_is : (K : List Known) (b : Bool) → IsAllAdjacentAnswer (λ k l before. before ≡ is_before k l) K b → IsTrue b ↔ AreRising K
rise_is K true all = (
  λ t i within.
      let inside : i + 1 < length K = subst (λ n. i + 1 < n) (length-map K revision_number) within in
      let d = any_of K (i + 1) inside in
      let less = before-is (revision_number (get_or K i d)) (revision_number (get_or K (i + 1) d)) (all i d inside) in
      subst (λ n. n < get_or (map revision_number K) (i + 1) 0) (sym (id_at K i d (omega (arith, inside)))) (subst (λ n. revision_number (get_or K i d) < n) (sym (id_at K (i + 1) d inside)) less),
  λ rising. refl,
)
rise_is K false some = (
  λ t. absurd (cc t),
  λ rising.
      let i = some.0 in
      let d = any_of K (i + 1) some.1 in
      absurd (before-not (revision_number (get_or K i d)) (revision_number (get_or K (i + 1) d)) (some.2 d) (ids_rise K rising i (i + 1) d (omega arith) some.1)),
)
