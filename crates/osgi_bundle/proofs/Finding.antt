-- Rows found: by a key, and by a binary search for an id.
use Rattle.std.proofs.Common.{◌≡◌, ◌⊎◌, inl, inr, ◌<◌, ◌≤◌, ℕ, suc, List, [], ◌∷◌, length, map, get_or, ap, sym, subst, ◌∙◌, refl, arith, Result, Ok, Err, Bor}
use Rattle.std.proofs.lemmas.List.{get_or-map, length-map}
use Rattle.std.specs.Prelude.{Bool, true, false, cond, Option, None, Some, IfSome, All, Contains, find, slice_get}
use Rattle.std.specs.List.Sorted.{IsBinarySearchResult, IsNonDecreasingBy, IsPartitionPoint, IsSearchInRange, IsStrictlyIncreasing}
use Rattle.std.specs.Option.{option_copied, option_map}
use Rattle.std.specs.Ordering.{eq_by_cmp, nat_cmp, ordering_index}
use Rattle.std.specs.Result.{result_ok}
use Rattle.std.specs.Slice.{IsItemAt}
use Rattle.std.specs.declared.cmp.Ordering.TheVariants.{Less, Greater}
use Rattle.std.proofs.lemmas.Bool.{cases_lt, eq-eqb, ne_eqb}
use Rattle.std.proofs.lemmas.Bool.Decides.{nat_tests}
use Rattle.std.proofs.lemmas.Cmp.{ranked}
use Rattle.std.proofs.lemmas.List.Elements.{All-cons, All-contains, All-nil}
use Rattle.std.proofs.lemmas.List.Folds.{find_at}
use Rattle.std.proofs.lemmas.List.Kept.{AllPairs-from_increasing}
use Rattle.std.proofs.lemmas.List.Sums.{position_or_len_is}
use Rattle.std.proofs.lemmas.Option.{slice_get_past, slice_get_read}
use Rattle.osgi_base.specs.declared.ids.BundleId.{BundleId}
use Rattle.osgi_bundle.specs.computed.Kept.{bundle_under, name_cmp, bundle_name, named, row_in}
use Rattle.osgi_bundle.specs.Rows.{bundle_number, has_bundle_id, IsTwin, row_at}
use Rattle.osgi_bundle.specs.declared.directory.BundleName.{BundleName}
use Rattle.osgi_bundle.specs.declared.kept.BundleKept.{BundleKept}
use Rattle.osgi_ops.specs.declared.refusal.Refusal.{Refusal}
use Rattle.osgi_ops.specs.declared.refusal.Refusal.TheVariants.{DuplicateBundle}
use Rattle.osgi_version.specs.declared.version.Version.{Version}
use Rattle.osgi_bundle.proofs.Names.{decides_name}

-- where none is found, none passes
pub none_passes : {X : Type 0} (p : X → Bool) (xs : List X) → find p xs ≡ None → All (λ x. p x ≡ false) xs
none_passes p [] none = All-nil (λ x. p x ≡ false)
none_passes p (x ∷ xs) none = by (p x) refl none (none_passes p xs)
  where
    by : (here : Bool) → p x ≡ here → cond here (Some x) (find p xs) ≡ None → (find p xs ≡ None → All (λ x. p x ≡ false) xs) → All (λ x. p x ≡ false) (x ∷ xs)
    by true is none more = absurd (cc none)
    by false is none more = All-cons (λ x. p x ≡ false) x xs is (more none)

-- what is found is there and passes
pub some_passes : {X : Type 0} (p : X → Bool) (xs : List X) (x : X) → find p xs ≡ Some x → Contains xs x × (p x ≡ true)
some_passes p [] x some = absurd (cc some)
some_passes p (y ∷ ys) x some = by (p y) refl some (some_passes p ys x)
  where
    by : (here : Bool) → p y ≡ here → cond here (Some y) (find p ys) ≡ Some x → (find p ys ≡ Some x → Contains ys x × (p x ≡ true)) → Contains (y ∷ ys) x × (p x ≡ true)
    by true is some more =
        let same : y ≡ x = cc some in
        ((0, omega arith, same), subst (λ z. p z ≡ true) same is)
    by false is some more =
        let there = more some in
        ((suc there.0.0, omega (arith, there.0.1), there.0.2), there.1)

-- ---- by id

-- the row that is lent of a place
pub lent : (rows : List BundleKept) (i : ℕ) (r : Option (Bor BundleKept)) → IsItemAt rows i r → option_copied r ≡ slice_get rows i
lent rows i None got = sym (slice_get_past rows i got.3)
lent rows i (Some x) got = sym (slice_get_read rows (length rows) i x.now refl got.3.0 (got.3.1 x.now))

-- and what holds of each row holds of it
pub lent_so : (P : BundleKept → Type 0) (rows : List BundleKept) (i : ℕ) (r : Option (Bor BundleKept)) → IsItemAt rows i r → All P rows → IfSome r (λ (x : Bor BundleKept). P x.now)
lent_so P rows i None got all = tt
lent_so P rows i (Some x) got all = subst P (sym (got.3.1 x.now)) (all i x.now got.3.0)

any_of : {X : Type 0} (xs : List X) (i : ℕ) → i < length xs → X
any_of [] i within = absurd (omega (arith, within))
any_of (x ∷ xs) i within = x

absent : (bundle : BundleId) (rows : List BundleKept) → ((k : ℕ) (d : BundleKept) → k < length rows → ¬ (bundle_number (get_or rows k d) ≡ bundle.0)) → row_at bundle rows ≡ None
absent bundle [] none = refl
absent bundle (row ∷ rest) none =
    rw (ne_eqb (bundle_number row) bundle.0 (none 0 row (omega arith))) (absent bundle rest (λ k d within. none (suc k) d (omega (arith, within))))

module _ (rows : List BundleKept) (rising : IsStrictlyIncreasing (map bundle_number rows)) where
  pub ids_rise : (i j : ℕ) (d : BundleKept) → i < j → j < length rows → bundle_number (get_or rows i d) < bundle_number (get_or rows j d)
  ids_rise i j d before within =
      let later = AllPairs-from_increasing (map bundle_number rows) rising i j 0 before (subst (λ n. j < n) (sym (length-map rows bundle_number)) within) in
      subst (λ n. n < bundle_number (get_or rows j d)) (get_or-map bundle_number rows i d 0 (omega (arith, before, within))) (subst (λ n. get_or (map bundle_number rows) i 0 < n) (get_or-map bundle_number rows j d 0 within) later)

  ids_do_not_fall : (i j : ℕ) (d : BundleKept) → i ≤ j → j < length rows → bundle_number (get_or rows i d) ≤ bundle_number (get_or rows j d)
  ids_do_not_fall i j d before within = grind (arith, ids_rise i j d, λ (same : i ≡ j). ap (λ k. bundle_number (get_or rows k d)) same)

  comparisons_rise : (id : ℕ) → IsNonDecreasingBy (λ row. ordering_index (nat_cmp (bundle_number row) id)) rows
  comparisons_rise id i j d before within =
      let rise = ids_do_not_fall i j d before within in
      grind (arith, nat_tests)

  found_at : (bundle : BundleId) (i : ℕ) (d : BundleKept) → i < length rows → bundle_number (get_or rows i d) ≡ bundle.0 → row_at bundle rows ≡ slice_get rows i
  found_at bundle i d within is =
      find_at (has_bundle_id bundle) rows
      ∙ ap (slice_get rows) (position_or_len_is (has_bundle_id bundle) rows i d (omega (arith, within)) (λ k before. ne_eqb (bundle_number (get_or rows k d)) bundle.0 (λ same. omega (arith, ids_rise k i d before within, is, same)))
      (λ w. eq-eqb (bundle_number (get_or rows i d)) bundle.0 is))

  missed_by : (bundle : BundleId) (i k : ℕ) (d : BundleKept) → IsPartitionPoint (λ row. nat_cmp (bundle_number row) bundle.0 ≡ Less) (λ row. nat_cmp (bundle_number row) bundle.0 ≡ Greater) rows i → k < length rows →
      (k < i) ⊎ (i ≤ k) → ¬ (bundle_number (get_or rows k d) ≡ bundle.0)
  missed_by bundle i k d parted within (inl before) same =
      let below : bundle_number (get_or rows k d) < bundle.0 = ranked _ bundle.0 _ (sym (parted.0 k d (omega arith) before)) in
      omega (arith, below, same)
  missed_by bundle i k d parted within (inr after) same =
      let above : bundle.0 < bundle_number (get_or rows k d) = ranked _ bundle.0 _ (sym (parted.1 k d after within)) in
      omega (arith, above, same)

  -- a binary search by id ends at the bundle's row, if it is live
  pub searched : (bundle : BundleId) (r : Result ℕ ℕ) → IsSearchInRange r (length rows) → IsBinarySearchResult (λ row. nat_cmp (bundle_number row) bundle.0) rows r → row_in rows (result_ok r) ≡ row_at bundle rows
  searched bundle (Ok i) within equal = let d = any_of rows i within in sym (found_at bundle i d within (ranked _ bundle.0 _ (sym (equal d))))
  searched bundle (Err i) within parted = sym (absent bundle rows (λ k d inside. missed_by bundle i k d (parted (comparisons_rise bundle.0)) inside (cases_lt k i)))

-- ---- by name

found_bundle : (o : Option BundleKept) (bundle : BundleId) → option_map (λ (r : BundleKept). r.bundle) o ≡ Some bundle → (r : BundleKept) × (o ≡ Some r) × (r.bundle ≡ bundle)
found_bundle None bundle some = absurd (cc some)
found_bundle (Some r) bundle some = (r, refl, cc some)

pub none_found : (o : Option BundleKept) → option_map (λ (r : BundleKept). r.bundle) o ≡ None → o ≡ None
none_found None none = refl
none_found (Some r) none = absurd (cc none)

-- the bundle of a name and version that is found is a twin
pub twin_of : (name : List ℕ) (version : Version) (rows : List BundleKept) (bundle : BundleId) → bundle_under name_cmp bundle_name (named name version) rows ≡ Some bundle → IsTwin name version rows (DuplicateBundle bundle)
twin_of name version rows bundle found =
    let key = named name version in
    let test : BundleKept → Bool = λ r. eq_by_cmp name_cmp key (bundle_name r) in
    let row = found_bundle (find test rows) bundle found in
    let passes = some_passes test rows row.0 row.1 in
    let same : key ≡ bundle_name row.0 = (decides_name key (bundle_name row.0)).0 passes.1 in
    record {
      other = row.0;
      live = passes.0;
      same_name = sym (ap (λ (n : BundleName). n.name) same);
      same_version = sym (ap (λ (n : BundleName). n.version) same);
      says = ap DuplicateBundle (sym row.2);
    }

-- no row has a name with a version that is not found
pub none_named : (key : BundleName) (rows : List BundleKept) → bundle_under name_cmp bundle_name key rows ≡ None → All (λ r. ¬ (key ≡ bundle_name r)) rows
none_named key rows none = λ k d within same.
    let fails = none_passes (λ r. eq_by_cmp name_cmp key (bundle_name r)) rows (none_found _ none) k d within in
    absurd (cc (fails, (decides_name key (bundle_name (get_or rows k d))).1 same))

-- where none is found there is no twin
-- where no bundle is one, none is found under its name
pub free_name : (name : List ℕ) (version : Version) (rows : List BundleKept) → ((refusal : Refusal) → ¬ IsTwin name version rows refusal) → bundle_under name_cmp bundle_name (named name version) rows ≡ None
free_name name version rows none = by (bundle_under name_cmp bundle_name (named name version) rows) refl
  where
    by : (o : Option BundleId) → bundle_under name_cmp bundle_name (named name version) rows ≡ o → bundle_under name_cmp bundle_name (named name version) rows ≡ None
    by None e = e
    by (Some bundle) e = absurd (none (DuplicateBundle bundle) (twin_of name version rows bundle e))

pub no_twin : (name : List ℕ) (version : Version) (rows : List BundleKept) (refusal : Refusal) → bundle_under name_cmp bundle_name (named name version) rows ≡ None → ¬ (IsTwin name version rows refusal)
no_twin name version rows refusal none twin =
    All-contains (λ r. ¬ (named name version ≡ bundle_name r)) rows twin.other (none_named (named name version) rows none) twin.live (λ i. named (sym twin.same_name i) (sym twin.same_version i))
