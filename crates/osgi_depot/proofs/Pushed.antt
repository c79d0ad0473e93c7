-- One more row.
use Rattle.std.proofs.Common.{◌≡◌, ◌≤◌, ◌<◌, ◌+◌, ℕ, List, [], ◌∷◌, ◌++◌, length, take, drop, ap, sym, ◌∙◌, refl, subst, inl, inr, arith, length-append, get_or}
use Rattle.std.specs.Prelude.{◌⊎◌, All, Option, None, Some}
use Rattle.std.specs.List.{AllZip}
use Rattle.std.specs.Option.{option_to_list}
use Rattle.std.proofs.lemmas.Bool.{cases_lt}
use Rattle.std.proofs.lemmas.List.{length-map, length-take-le, take_more, drop-append-le, drop_all, map-append, take-append-le, take_all}
use Rattle.std.proofs.lemmas.List.Elements.{All-nil, All-push, All-same, filter_map-append}
use Rattle.osgi_depot.specs.Depots.{AreKeptAt, AreWithin, failure_of, failures, IsKeptAt, IsSkipped}
use Rattle.osgi_depot.specs.computed.Rows.{AreRowsOf, IsStoredAt}
use Rattle.osgi_ops.specs.declared.depot.DepotRow.{DepotRow}
use Rattle.osgi_ops.specs.declared.depot.Stored.{Stored}
use Rattle.osgi_outside.specs.Shelves.{ShelfRow}
use Rattle.osgi_session.specs.declared.script.Script.{Script}

-- ---- failures

within_earlier : (from mid to : ℕ) (failures : List (ℕ × ℕ)) → from ≤ mid → AreWithin mid to failures → AreWithin from to failures
within_earlier from mid to [] less is = omega arith
within_earlier from mid to (failure ∷ rest) less is = let before : from ≤ failure.0 = omega arith in (before, is.1)

within_append : (from mid to : ℕ) (first second : List (ℕ × ℕ)) → AreWithin from mid first → AreWithin mid to second → AreWithin from to (first ++ second)
within_append from mid to [] second less is = within_earlier from mid to second less is
within_append from mid to (failure ∷ rest) second is more = (is.0, within_append failure.1 mid to rest second is.1 more)

one_failure : (location : List ℕ) (kept : Stored) (o : Option (ℕ × ℕ)) → failure_of kept ≡ o → failures (record { location = location; stored = kept } ∷ []) ≡ option_to_list o
one_failure location kept None is = rw is refl
one_failure location kept (Some failure) is = rw is refl

failures_push : (rows : List DepotRow) (location : List ℕ) (kept : Stored) →
    failures (rows ++ record { location = location; stored = kept } ∷ []) ≡ failures rows ++ option_to_list (failure_of kept)
failures_push rows location kept =
    filter_map-append (λ (row : DepotRow). failure_of row.stored) rows (record { location = location; stored = kept } ∷ [])
    ∙ ap (λ l. failures rows ++ l) (one_failure location kept (failure_of kept) refl)

-- ---- rows

module _ (limit : ℕ) (locations : List (List ℕ)) (location : List ℕ) (from mid to : ℕ) (rows : List DepotRow) (kept : Stored) (are : AreRowsOf limit locations from mid rows) (at : IsStoredAt limit (length rows) mid to kept) where
  abbrev IsRead : DepotRow → Type 0
  IsRead row = ¬ IsSkipped row

  abbrev row : DepotRow
  row = record { location = location; stored = kept }

  one_longer : length (rows ++ row ∷ []) ≡ length rows + 1
  one_longer = length-append rows (row ∷ [])

  read_push : (length rows < limit) ⊎ (limit ≤ length rows) → All IsRead (take limit (rows ++ row ∷ []))
  read_push (inl below) =
      All-same IsRead (take limit (rows ++ row ∷ [])) (rows ++ row ∷ []) (take_all limit (rows ++ row ∷ []) (omega (arith, one_longer)))
      (All-push IsRead rows row (All-same IsRead rows (take limit rows) (sym (take_all limit rows (omega arith))) are.read) (at.read below))
  read_push (inr past) = All-same IsRead (take limit (rows ++ row ∷ [])) (take limit rows) (take-append-le limit rows (row ∷ []) past) are.read

  skipped_push : (length rows < limit) ⊎ (limit ≤ length rows) → All IsSkipped (drop limit (rows ++ row ∷ []))
  skipped_push (inl below) = All-same IsSkipped (drop limit (rows ++ row ∷ [])) [] (drop_all limit (rows ++ row ∷ []) (omega (arith, one_longer))) (All-nil IsSkipped)
  skipped_push (inr past) =
      All-same IsSkipped (drop limit (rows ++ row ∷ [])) (drop limit rows ++ row ∷ []) (drop-append-le limit rows (row ∷ []) past)
      (All-push IsSkipped (drop limit rows) row are.skipped (at.skipped past))

  pub rows_push : AreRowsOf limit (locations ++ location ∷ []) from to (rows ++ row ∷ [])
  rows_push = record {
    locations_are = map-append (λ (row : DepotRow). row.location) rows (row ∷ []) ∙ ap (λ l. l ++ location ∷ []) are.locations_are;
    read = read_push (cases_lt (length rows) limit);
    skipped = skipped_push (cases_lt (length rows) limit);
    failed = subst (AreWithin from to) (sym (failures_push rows location kept)) (within_append from mid to (failures rows) (option_to_list (failure_of kept)) are.failed at.failed);
  }

length_rows : (limit : ℕ) (locations : List (List ℕ)) (from to : ℕ) (rows : List DepotRow) → AreRowsOf limit locations from to rows → length rows ≡ length locations
length_rows limit locations from to rows are = sym (length-map rows (λ (row : DepotRow). row.location)) ∙ ap length are.locations_are

-- the row of the location with the number `i`
pub rows_more : (limit : ℕ) (locations : List (List ℕ)) (i : ℕ) (location copy : List ℕ) (from mid to : ℕ) (rows more : List DepotRow) (kept : Stored) →
    i < length locations → location ≡ get_or locations i location → copy ≡ location → AreRowsOf limit (take i locations) from mid rows →
    IsStoredAt limit i mid to kept → more ≡ rows ++ record { location = copy; stored = kept } ∷ [] → AreRowsOf limit (take (i + 1) locations) from to more
rows_more limit locations i location copy from mid to rows more kept below is same are at pushed =
    let count : i ≡ length rows = sym (length_rows limit (take i locations) from mid rows are ∙ length-take-le i locations (omega arith)) in
    let now : IsStoredAt limit (length rows) mid to kept = subst (λ n. IsStoredAt limit n mid to kept) count at in
    let there : more ≡ rows ++ record { location = location; stored = kept } ∷ [] = pushed ∙ ap (λ l. rows ++ record { location = l; stored = kept } ∷ []) same in
    let here : take i locations ++ location ∷ [] ≡ take (i + 1) locations = sym (take_more locations i location below ∙ ap (λ l. take i locations ++ l ∷ []) (sym is)) in
    subst (λ (l : List DepotRow). AreRowsOf limit (take (i + 1) locations) from to l) (sym there)
    (subst (λ (l : List (List ℕ)). AreRowsOf limit l from to (rows ++ record { location = location; stored = kept } ∷ [])) here
    (rows_push limit (take i locations) location from mid to rows kept are now))

-- ---- rows with their scripts

zip_push : {A B : Type 0} (R : A → B → Type 0) (xs : List A) (ys : List B) (x : A) (y : B) → AllZip R xs ys → R x y → AllZip R (xs ++ x ∷ []) (ys ++ y ∷ [])
zip_push R [] [] x y all one = (one, tt)
zip_push R [] (b ∷ ys) x y all one = absurd all
zip_push R (a ∷ xs) [] x y all one = absurd all
zip_push R (a ∷ xs) (b ∷ ys) x y all one = (all.0, zip_push R xs ys x y all.1 one)

-- one more row with its script
pub kept_more : (told told_then : Option (List ShelfRow)) (rows more : List DepotRow) (scripts others : List Script) (location copy : List ℕ) (kept : Stored) (script : Script) →
    told_then ≡ told → copy ≡ location → AreKeptAt told rows scripts → IsKeptAt told_then location kept script → more ≡ rows ++ record { location = copy; stored = kept } ∷ [] →
    others ≡ scripts ++ script ∷ [] → AreKeptAt told more others
kept_more told told_then rows more scripts others location copy kept script told_is same are at pushed added =
    let here : IsKeptAt told copy kept script
    = subst (λ l. IsKeptAt told l kept script) (sym same) (subst (λ (t : Option (List ShelfRow)). IsKeptAt t location kept script) told_is at) in
    subst (λ (l : List DepotRow). AreKeptAt told l others) (sym pushed)
    (subst (λ (l : List Script). AreKeptAt told (rows ++ record { location = copy; stored = kept } ∷ []) l) (sym added)
    (zip_push (λ (row : DepotRow) (s : Script). IsKeptAt told row.location row.stored s) rows scripts (record { location = copy; stored = kept }) script are here))
