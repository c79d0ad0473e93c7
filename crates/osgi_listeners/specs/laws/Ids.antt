-- The rows stand by rising id: a listener has one row.
use Rattle.std.proofs.Common.{◌≡◌, ◌≢◌, ◌⊎◌, inl, inr, ◌<◌, ◌≤◌, ℕ, List, [], ◌∷◌, length, map, get_or, ap, sym, subst, refl, ◌∙◌, arith}
use Rattle.std.specs.Prelude.{Contains}
use Rattle.std.specs.List.Sorted.{IsStrictlyIncreasing}
use Rattle.std.proofs.lemmas.Bool.{cases_eq, cases_lt}
use Rattle.std.proofs.lemmas.List.{get_or-map, length-map, get_or_default}
use Rattle.std.proofs.lemmas.List.Kept.{AllPairs-from_increasing}
use Rattle.osgi_listeners.specs.Rows.{id_of, listeners_in, number_of, Row}

-- the ids rise
abbrev pub Rise : List Row → Type 0
Rise rows = (i j : ℕ) (d : Row) → i < j → j < length rows → id_of (get_or rows i d) < id_of (get_or rows j d)

pub numbers_are_ids : (rows : List Row) → map number_of (listeners_in rows) ≡ map id_of rows
numbers_are_ids [] = refl
numbers_are_ids (row ∷ rest) = ap (λ ns. id_of row ∷ ns) (numbers_are_ids rest)

pub ids_rise : (rows : List Row) → IsStrictlyIncreasing (map number_of (listeners_in rows)) → Rise rows
ids_rise rows rising i j d before within =
    let by_id : IsStrictlyIncreasing (map id_of rows) = subst IsStrictlyIncreasing (numbers_are_ids rows) rising in
    let later = AllPairs-from_increasing (map id_of rows) by_id i j 0 before (subst (λ n. j < n) (sym (length-map rows id_of)) within) in
    let low : get_or (map id_of rows) i 0 ≡ id_of (get_or rows i d) = get_or-map id_of rows i d 0 (omega (arith, before, within)) in
    let high : get_or (map id_of rows) j 0 ≡ id_of (get_or rows j d) = get_or-map id_of rows j d 0 within in
    omega (arith, later, low, high)

-- rows at different places are of different listeners
pub apart : (rows : List Row) → Rise rows → (i j : ℕ) (d : Row) → i < length rows → j < length rows → i ≢ j → id_of (get_or rows i d) ≢ id_of (get_or rows j d)
apart rows rise i j d inside within differ same = by (cases_lt i j)
  where
    by : (i < j) ⊎ (j ≤ i) → ⊥
    by (inl before) = let below = rise i j d before within in omega (arith, below, same)
    by (inr after) = let above = rise j i d (omega (arith, after, differ)) inside in omega (arith, above, same)

-- a listener has one row
pub same_row : (rows : List Row) → Rise rows → (a b : Row) → Contains rows a → Contains rows b → id_of a ≡ id_of b → a ≡ b
same_row rows rise a b there here same = by (cases_eq there.0 here.0)
  where
    by : (there.0 ≡ here.0) ⊎ (there.0 ≢ here.0) → a ≡ b
    by (inl at) = sym there.2 ∙ ap (λ n. get_or rows n a) at ∙ get_or_default rows here.0 a b here.1 ∙ here.2
    by (inr differ) =
        absurd (apart rows rise there.0 here.0 a there.1 here.1 differ (ap id_of there.2 ∙ same ∙ ap id_of (sym here.2) ∙ ap id_of (get_or_default rows here.0 b a here.1)))

pub ids_do_not_fall : (rows : List Row) → Rise rows → (i j : ℕ) (d : Row) → i ≤ j → j < length rows → id_of (get_or rows i d) ≤ id_of (get_or rows j d)
ids_do_not_fall rows rise i j d before within = by (cases_eq i j)
  where
    by : (i ≡ j) ⊎ (i ≢ j) → id_of (get_or rows i d) ≤ id_of (get_or rows j d)
    by (inl same) = let is = ap (λ k. id_of (get_or rows k d)) same in omega (arith, is)
    by (inr differ) = let below = rise i j d (omega (arith, before, differ)) within in omega (arith, below)
