-- The names of numbers are one to one.
use Rattle.std.proofs.Common.{◌≡◌, ℕ, zero, suc, ◌+◌, ◌≤◌, List, [], ◌∷◌, length, replicate, refl, sym, ◌∙◌, ap, arith}
use Rattle.std.specs.Prelude.{Option, None, Some, slice_get, sum_by, unwrap_or}
use Rattle.std.proofs.lemmas.List.{length-replicate}
use Rattle.std.proofs.lemmas.List.Sums.{sum_by-cons}
use Rattle.osgi_space_rows.specs.Names.{AreOnce, HasNumber, name_numbered}
use Rattle.osgi_space_rows.proofs.Places.{some-same}

-- ---- names and what stands beyond them

pub name-known : (names : List (List ℕ)) (number : ℕ) (text : List ℕ) → HasNumber names text number → name_numbered names number ≡ text
name-known names number text has = ap (λ o. unwrap_or o (replicate (sum_by length names + 1 + number) 0)) has

le_total : (names : List (List ℕ)) (number : ℕ) (text : List ℕ) → HasNumber names text number → length text ≤ sum_by length names
le_total [] number text has = absurd (cc has)
le_total (name ∷ names) zero text has =
    let same : length name ≡ length text = ap length (some-same name text has) in
    omega (arith, same, sum_by-cons length name names)
le_total (name ∷ names) (suc number) text has = omega (arith, le_total names number text has, sum_by-cons length name names)

name-beyond : (names : List (List ℕ)) (number : ℕ) → slice_get names number ≡ None → name_numbered names number ≡ replicate (sum_by length names + 1 + number) 0
name-beyond names number none = ap (λ o. unwrap_or o (replicate (sum_by length names + 1 + number) 0)) none

long : (names : List (List ℕ)) (number : ℕ) → slice_get names number ≡ None → length (name_numbered names number) ≡ sum_by length names + 1 + number
long names number none = ap length (name-beyond names number none) ∙ length-replicate (sum_by length names + 1 + number) 0

-- ---- one to one

one_by : (names : List (List ℕ)) → AreOnce names → (i j : ℕ) (at : Option (List ℕ)) (other : Option (List ℕ)) → slice_get names i ≡ at → slice_get names j ≡ other → name_numbered names i ≡ name_numbered names j → i ≡ j
one_by names once i j (Some text) (Some other) here there same =
    once text i j here (there ∙ ap Some (sym (name-known names j other there) ∙ sym same ∙ name-known names i text here))
one_by names once i j (Some text) None here there same =
    let short = le_total names i text here in
    let equal : length text ≡ sum_by length names + 1 + j = ap length (sym (name-known names i text here) ∙ same) ∙ long names j there in
    absurd (omega (arith, short, equal))
one_by names once i j None (Some other) here there same =
    let short = le_total names j other there in
    let equal : length other ≡ sum_by length names + 1 + i = ap length (sym (name-known names j other there) ∙ sym same) ∙ long names i here in
    absurd (omega (arith, short, equal))
one_by names once i j None None here there same =
    let equal : sum_by length names + 1 + i ≡ sum_by length names + 1 + j = sym (long names i here) ∙ ap length same ∙ long names j there in
    omega (arith, equal)

pub name-one_to_one : (names : List (List ℕ)) → AreOnce names → (i j : ℕ) → name_numbered names i ≡ name_numbered names j → i ≡ j
name-one_to_one names once i j same = one_by names once i j (slice_get names i) (slice_get names j) refl refl same
