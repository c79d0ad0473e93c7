-- Rows where that of one bundle is changed, in its state or in its tag.
use Rattle.std.proofs.Common.{◌≡◌, ◌<◌, ◌≤◌, ℕ, suc, zero, List, [], ◌∷◌, length, map, set, get_or, ap, sym, subst, ◌∙◌, refl, arith}
use Rattle.std.proofs.lemmas.List.{get_or-map, length-map}
use Rattle.std.proofs.lemmas.Option.{slice_get_within, unwrap_or-slice_get}
use Rattle.std.specs.Prelude.{Bool, true, false, cond, Option, None, Some, All, find, IsSomeAnd, slice_get, unwrap_or}
use Rattle.std.specs.List.Sorted.{IsStrictlyIncreasing}
use Rattle.std.specs.Option.{option_map}
use Rattle.std.specs.Ordering.{eq_by_cmp}
use Rattle.std.specs.declared.cmp.Ordering.{Ordering}
use Rattle.std.proofs.lemmas.Bool.{eq-eqb, eqb-true, ne_eqb}
use Rattle.std.proofs.lemmas.List.Elements.{All-map}
use Rattle.osgi_base.specs.computed.Texts.{text_cmp}
use Rattle.osgi_base.specs.declared.ids.BundleId.{BundleId}
use Rattle.osgi_base.specs.declared.ids.Tag.{Tag}
use Rattle.osgi_bundle.specs.Rows.{AreApart, bundle_number, has_bundle_id, IsBegun, row_at, TableRows}
use Rattle.osgi_ops.specs.States.{is_changing}
use Rattle.osgi_bundle.specs.computed.Kept.{bundle_under, IsKept, location_of, name_cmp, named, bundle_name}
use Rattle.osgi_bundle.specs.declared.directory.BundleName.{BundleName}
use Rattle.osgi_bundle.specs.declared.directory.Directory.{Directory}
use Rattle.osgi_bundle.specs.declared.kept.BundleKept.{BundleKept}
use Rattle.osgi_bundle.specs.laws.Standing.{found_map}
use Rattle.osgi_bundle.proofs.Finding.{some_passes}

-- a change of a row that leaves all that the table finds it by
pub record LeavesKeys (change : BundleKept → BundleKept) : Type 0 where
  pub bundle : (row : BundleKept) → (change row).bundle ≡ row.bundle
  pub location : (row : BundleKept) → (change row).location ≡ row.location
  pub name : (row : BundleKept) → (change row).name ≡ row.name
  pub version : (row : BundleKept) → (change row).version ≡ row.version

-- the rows where that of the bundle is changed
abbrev pub changed_in : BundleId → (BundleKept → BundleKept) → BundleKept → BundleKept
changed_in id change row = cond (has_bundle_id id row) (change row) row

abbrev pub with_changed : BundleId → (BundleKept → BundleKept) → List BundleKept → List BundleKept
with_changed id change rows = map (changed_in id change) rows

pub leaves_set : (state : ℕ) → LeavesKeys (λ row. record row { state = state })
leaves_set state = record { bundle = λ row. refl; location = λ row. refl; name = λ row. refl; version = λ row. refl }

pub leaves_begun : (state : ℕ) (tag : Tag) → LeavesKeys (λ row. record row { state = state; by = Some tag })
leaves_begun state tag = record { bundle = λ row. refl; location = λ row. refl; name = λ row. refl; version = λ row. refl }

-- a state that is put with no tag is none that a line began, so where it is put it is not asked whose
pub settled_begun : (state : ℕ) → is_changing state ≡ false → (row : BundleKept) → IsBegun (record row { state = state })
settled_begun state settled row changing = let bad : true ≡ false = sym changing ∙ settled in absurd (cc bad)

-- what the change leaves stays
same_by : {X : Type 0} (says : BundleKept → X) (changed row : BundleKept) → says changed ≡ says row → (here : Bool) → says (cond here changed row) ≡ says row
same_by says changed row same true = same
same_by says changed row same false = refl

module _ (id : BundleId) (change : BundleKept → BundleKept) (leaves : LeavesKeys change) where
  same_bundle : (row : BundleKept) → (changed_in id change row).bundle ≡ row.bundle
  same_bundle row = same_by (λ (r : BundleKept). r.bundle) (change row) row (leaves.bundle row) (has_bundle_id id row)

  same_location : (row : BundleKept) → (changed_in id change row).location ≡ row.location
  same_location row = same_by (λ (r : BundleKept). r.location) (change row) row (leaves.location row) (has_bundle_id id row)

  same_id : (row : BundleKept) → bundle_number (changed_in id change row) ≡ bundle_number row
  same_id row = ap (λ (b : BundleId). b.0) (same_bundle row)

  same_name : (row : BundleKept) → bundle_name (changed_in id change row) ≡ bundle_name row
  same_name row = same_by bundle_name (change row) row (λ i. named (leaves.name row i) (leaves.version row i)) (has_bundle_id id row)

  ids_same : (rows : List BundleKept) → map bundle_number (with_changed id change rows) ≡ map bundle_number rows
  ids_same [] = refl
  ids_same (row ∷ rest) = λ i. same_id row i ∷ ids_same rest i

  bundle_after : (o : Option BundleKept) → option_map (λ (row : BundleKept). row.bundle) (option_map (changed_in id change) o) ≡ option_map (λ (row : BundleKept). row.bundle) o
  bundle_after None = refl
  bundle_after (Some row) = ap Some (same_bundle row)

  -- what is found under a key
  under_same : {K : Type 0} (cmp : K → K → Ordering) (key_of : BundleKept → K) (key : K) (rows : List BundleKept) → ((row : BundleKept) → key_of (changed_in id change row) ≡ key_of row) →
      bundle_under cmp key_of key (with_changed id change rows) ≡ bundle_under cmp key_of key rows
  under_same cmp key_of key rows same =
      let test : BundleKept → Bool = λ row. eq_by_cmp cmp key (key_of row) in
      ap (option_map (λ (row : BundleKept). row.bundle)) (found_map (changed_in id change) test rows)
      ∙ bundle_after (find (λ row. test (changed_in id change row)) rows)
      ∙ ap (λ (p : BundleKept → Bool). option_map (λ (row : BundleKept). row.bundle) (find p rows)) (λ i row. eq_by_cmp cmp key (same row i))

  first_same : (rows : List BundleKept) (P : BundleKept → Type 0) → ((row : BundleKept) → P row → P (changed_in id change row)) → IsSomeAnd (slice_get rows 0) P → IsSomeAnd (slice_get (with_changed id change rows) 0) P
  first_same [] P keeps first = absurd first
  first_same (row ∷ rest) P keeps first = keeps row first

  all_same : (P : BundleKept → Type 0) (rows : List BundleKept) → ((row : BundleKept) → P row → P (changed_in id change row)) → All P rows → All P (with_changed id change rows)
  all_same P rows keeps all = All-map P (changed_in id change) rows (λ k d within. keeps (get_or rows k d) (all k d within))

  apart_same : (rows : List BundleKept) → AreApart rows → AreApart (with_changed id change rows)
  apart_same rows apart = λ i j d before within.
      let inside : j < length rows = subst (λ n. j < n) (length-map rows (changed_in id change)) within in
      let at : (k : ℕ) → k < length rows → bundle_name (get_or (with_changed id change rows) k d) ≡ bundle_name (get_or rows k d) =
      λ k lt. ap bundle_name (get_or-map (changed_in id change) rows k d d lt) ∙ same_name (get_or rows k d) in
      let name : (k : ℕ) → k < length rows → (get_or (with_changed id change rows) k d).name ≡ (get_or rows k d).name = λ k lt. ap (λ (n : BundleName). n.name) (at k lt) in
      let version : (k : ℕ) → k < length rows → (get_or (with_changed id change rows) k d).version ≡ (get_or rows k d).version = λ k lt. ap (λ (n : BundleName). n.version) (at k lt) in
      λ names versions. apart i j d before inside (sym (name i (omega (arith, before, inside))) ∙ names ∙ name j inside) (sym (version i (omega (arith, before, inside))) ∙ versions ∙ version j inside)

  begun_same : ((row : BundleKept) → IsBegun (change row)) → (row : BundleKept) → IsBegun row → IsBegun (changed_in id change row)
  begun_same begun row was = by (has_bundle_id id row)
    where
      by : (here : Bool) → IsBegun (cond here (change row) row)
      by true = begun row
      by false = was

  -- all that is true of the fields
  pub kept_with_changed : (table : TableRows) (directory : Directory) → ((row : BundleKept) → IsBegun (change row)) → IsKept table directory → IsKept (record { rows = with_changed id change table.rows; issued = table.issued }) directory
  kept_with_changed table directory begun kept = record {
    in_order = record {
      first = first_same table.rows (λ row. (row.bundle ≡ record { 0 = 0 }) × (row.location ≡ [])) (λ row is. (same_bundle row ∙ is.0, same_location row ∙ is.1)) kept.in_order.first;
      rising = subst IsStrictlyIncreasing (sym (ids_same table.rows)) kept.in_order.rising;
      issued = all_same (λ row. bundle_number row ≤ table.issued) table.rows (λ row le. subst (λ n. n ≤ table.issued) (sym (same_id row)) le) kept.in_order.issued;
    };
    apart = apart_same table.rows kept.apart;
    begun = all_same IsBegun table.rows (begun_same begun) kept.begun;
    index = record {
      locations = λ key. kept.index.locations key ∙ sym (under_same text_cmp location_of key table.rows same_location);
      names = λ key. kept.index.names key ∙ sym (under_same name_cmp bundle_name key table.rows same_name);
    };
  }

-- ---- the place of a bundle

-- the ids rise
abbrev pub Rise : List BundleKept → Type 0
Rise rows = (i j : ℕ) (d : BundleKept) → i < j → j < length rows → bundle_number (get_or rows i d) < bundle_number (get_or rows j d)

later_differ : (row : BundleKept) (rest : List BundleKept) → Rise (row ∷ rest) → All (λ other. ¬ (bundle_number other ≡ bundle_number row)) rest
later_differ row rest rise = λ k d within same. let below : bundle_number row < bundle_number (get_or rest k d) = rise 0 (suc k) d (omega arith) (omega (arith, within)) in omega (arith, below, same)

module _ (id : BundleId) (change : BundleKept → BundleKept) where
  same_elsewhere : (rows : List BundleKept) → All (λ row. ¬ (bundle_number row ≡ id.0)) rows → with_changed id change rows ≡ rows
  same_elsewhere [] others = refl
  same_elsewhere (row ∷ rest) others =
      let other : has_bundle_id id row ≡ false = ne_eqb (bundle_number row) id.0 (others 0 row (omega arith)) in
      λ i. cond (other i) (change row) row ∷ same_elsewhere rest (λ k d within. others (suc k) d (omega (arith, within))) i

  -- a write at the place of the bundle changes its row
  set_at : (rows : List BundleKept) (i : ℕ) (row : BundleKept) → Rise rows → slice_get rows i ≡ Some row → bundle_number row ≡ id.0 → set rows i (change row) ≡ with_changed id change rows
  set_at [] i row rise at is = absurd (cc at)
  set_at (first ∷ rest) zero row rise at is =
      let same : first ≡ row = cc at in
      let here : has_bundle_id id row ≡ true = eq-eqb (bundle_number row) id.0 is in
      let head : changed_in id change first ≡ change row = ap (changed_in id change) same ∙ ap (λ t. cond t (change row) row) here in
      let others : All (λ other. ¬ (bundle_number other ≡ id.0)) rest = λ k d within e. later_differ first rest rise k d within (e ∙ sym is ∙ ap bundle_number (sym same)) in
      λ i. sym head i ∷ sym (same_elsewhere rest others) i
  set_at (first ∷ rest) (suc n) row rise at is =
      let inside : n < length rest = slice_get_within rest n row at in
      let below : bundle_number first < bundle_number (get_or rest n row) = rise 0 (suc n) row (omega arith) (omega (arith, inside)) in
      let there : get_or rest n row ≡ row = sym (unwrap_or-slice_get rest n row) ∙ ap (λ o. unwrap_or o row) at in
      let there_id : bundle_number (get_or rest n row) ≡ bundle_number row = ap bundle_number there in
      let other : has_bundle_id id first ≡ false = ne_eqb (bundle_number first) id.0 (λ e. omega (arith, below, there_id, is, e)) in
      λ i. cond (sym other i) (change first) first ∷ set_at rest n row (λ j k d before within. rise (suc j) (suc k) d (omega (arith, before)) (omega (arith, within))) at is i

  -- the same where the row is what stands at the place that was found
  pub set_found : (rows : List BundleKept) (i : ℕ) (shown d : BundleKept) → Rise rows → slice_get rows i ≡ row_at id rows → ¬ (row_at id rows ≡ None) → shown ≡ get_or rows i d → set rows i (change shown) ≡ with_changed id change rows
  set_found rows i shown d rise at live is = by (row_at id rows) refl
    where
      by : (o : Option BundleKept) → row_at id rows ≡ o → set rows i (change shown) ≡ with_changed id change rows
      by None found = absurd (live found)
      by (Some row) found =
          let here : slice_get rows i ≡ Some row = at ∙ found in
          let same : shown ≡ row = is ∙ sym (unwrap_or-slice_get rows i d) ∙ ap (λ o. unwrap_or o d) here in
          let number : bundle_number row ≡ id.0 = eqb-true (bundle_number row) id.0 (some_passes (has_bundle_id id) rows row found).1 in
          ap (λ (r : BundleKept). set rows i (change r)) same ∙ set_at rows i row rise here number
