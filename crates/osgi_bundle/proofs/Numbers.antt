-- The numbers of a depot's rows by location.
use Rattle.std.proofs.Common.{◌≡◌, ◌+◌, ◌<◌, ℕ, List, [], ◌∷◌, ◌++◌, length, length-append, ap, sym, ◌∙◌, refl, arith}
use Rattle.std.specs.Prelude.{Bool, true, false, cond, Option, None, Some, find, is_some, slice_get}
use Rattle.std.specs.BTreeMap.{BTreeMap, get, Updates}
use Rattle.std.specs.List.{position_or_len}
use Rattle.std.specs.Option.{option_map, option_or}
use Rattle.std.proofs.lemmas.Bool.{ne_eqb}
use Rattle.std.proofs.lemmas.List.{get_or_append_left, get_or_push}
use Rattle.std.proofs.lemmas.List.Folds.{find-append, find_at, position_or_len_push}
use Rattle.std.proofs.lemmas.List.Sums.{position_or_len_is}
use Rattle.std.proofs.lemmas.Map.Text.{is_eq-slice_cmp}
use Rattle.std.proofs.lemmas.Option.{slice_get_within}
use Rattle.std.proofs.lemmas.Slice.Eq.{bytes_eq-Decides}
use Rattle.osgi_base.specs.computed.Texts.{text_cmp}
use Rattle.osgi_bundle.specs.computed.Places.{AreFirstPlaces, depot_place}
use Rattle.osgi_ops.specs.Depots.{is_at as is_at_location, row_number}
use Rattle.osgi_ops.specs.declared.depot.DepotRow.{DepotRow}
use Rattle.osgi_bundle.proofs.Finding.{none_passes}

some_of : {X Y : Type 0} (f : X → Y) (o : Option X) (y : Y) → option_map f o ≡ Some y → (x : X) × (o ≡ Some x) × (f x ≡ y)
some_of f None y some = absurd (cc some)
some_of f (Some x) y some = (x, refl, cc some)

-- the row at the place that a location has
pub row_there : (location : List ℕ) (rows : List DepotRow) (n : ℕ) → depot_place location rows ≡ Some n → (row : DepotRow) × (find (is_at_location location) rows ≡ Some row) × (row_number rows location ≡ n) × (slice_get rows n ≡ Some row)
row_there location rows n is =
    let found = some_of (λ (row : DepotRow). row_number rows location) (find (is_at_location location) rows) n is in
    (found.0, found.1, found.2, ap (slice_get rows) (sym found.2) ∙ sym (find_at (is_at_location location) rows) ∙ found.1)

-- ---- one more row

number_found : (rows : List DepotRow) (row found : DepotRow) (location : List ℕ) → find (is_at_location location) rows ≡ Some found → row_number (rows ++ row ∷ []) location ≡ row_number rows location
number_found rows row found location some =
    let p : DepotRow → Bool = is_at_location location in
    let within : position_or_len p rows < length rows = slice_get_within rows (position_or_len p rows) found (sym (find_at p rows) ∙ some) in
    position_or_len_push p rows row
    ∙ ap (λ b. cond b (length rows + cond (p row) 0 1) (position_or_len p rows)) (ne_eqb (position_or_len p rows) (length rows) (λ same. omega (arith, within, same)))

number_new : (rows : List DepotRow) (row : DepotRow) (location : List ℕ) → find (is_at_location location) rows ≡ None → is_at_location location row ≡ true → row_number (rows ++ row ∷ []) location ≡ length rows
number_new rows row location none here =
    position_or_len_is (is_at_location location) (rows ++ row ∷ []) (length rows) row (omega (arith, length-append rows (row ∷ [])))
    (λ k before. ap (is_at_location location) (get_or_append_left rows (row ∷ []) row k before) ∙ none_passes (is_at_location location) rows none k row before)
    (λ within. ap (is_at_location location) (get_or_push rows row row (length rows) refl) ∙ here)

place_by : (rows : List DepotRow) (row : DepotRow) (location : List ℕ) (found : Option DepotRow) (here : Bool) → find (is_at_location location) rows ≡ found → is_at_location location row ≡ here →
    option_map (λ (r : DepotRow). row_number (rows ++ row ∷ []) location) (option_or found (cond here (Some row) None))
    ≡ option_or (option_map (λ (r : DepotRow). row_number rows location) found) (cond here (Some (length rows)) None)
place_by rows row location None true none is = ap Some (number_new rows row location none is)
place_by rows row location None false none is = refl
place_by rows row location (Some found) here some is = ap Some (number_found rows row found location some)

-- a location has the place that it had, else the new row's if that is its
place_push : (rows : List DepotRow) (row : DepotRow) (location : List ℕ) → depot_place location (rows ++ row ∷ []) ≡ option_or (depot_place location rows) (cond (is_at_location location row) (Some (length rows)) None)
place_push rows row location =
    ap (option_map (λ (r : DepotRow). row_number (rows ++ row ∷ []) location)) (find-append (is_at_location location) rows (row ∷ []))
    ∙ place_by rows row location (find (is_at_location location) rows) (is_at_location location row) refl refl

put_by : (old new : Option ℕ) (n : ℕ) (here : Bool) → (here ≡ true → old ≡ None) → new ≡ cond here (Some n) old → new ≡ option_or old (cond here (Some n) None)
put_by old new n true none is = is ∙ ap (λ o. option_or o (Some n)) (sym (none refl))
put_by None new n false none is = is
put_by (Some m) new n false none is = is

kept_by : (old : Option ℕ) (n : ℕ) (here : Bool) → (here ≡ true → is_some old ≡ true) → old ≡ option_or old (cond here (Some n) None)
kept_by None n true some = absurd (cc (some refl))
kept_by None n false some = refl
kept_by (Some m) n here some = refl

module _ (places : BTreeMap (List ℕ) ℕ) (rows : List DepotRow) (row : DepotRow) (are : AreFirstPlaces places rows) where
  same_at : (location : List ℕ) → is_at_location location row ≡ true → get text_cmp places location ≡ get text_cmp places row.location
  same_at location here = ap (get text_cmp places) (sym ((bytes_eq-Decides row.location location).0 here))

  -- a row for a location that had none
  pub places_new : (new : BTreeMap (List ℕ) ℕ) → get text_cmp places row.location ≡ None → Updates text_cmp places new row.location (Some (length rows)) → AreFirstPlaces new (rows ++ row ∷ [])
  places_new new none updates = λ location.
      let here = is_at_location location row in
      put_by (get text_cmp places location) (get text_cmp new location) (length rows) here (λ is. same_at location is ∙ none)
      (updates.0 location ∙ ap (λ b. cond b (Some (length rows)) (get text_cmp places location)) (is_eq-slice_cmp row.location location))
      ∙ ap (λ o. option_or o (cond here (Some (length rows)) None)) (are location)
      ∙ sym (place_push rows row location)

  -- and one for a location that had one
  pub places_known : is_some (get text_cmp places row.location) ≡ true → AreFirstPlaces places (rows ++ row ∷ [])
  places_known some = λ location.
      let here = is_at_location location row in
      kept_by (get text_cmp places location) (length rows) here (λ is. ap is_some (same_at location is) ∙ some)
      ∙ ap (λ o. option_or o (cond here (Some (length rows)) None)) (are location)
      ∙ sym (place_push rows row location)
