-- The registry's entries: found by their keys, in order, and after a push.
use Rattle.std.proofs.Common.{◌≡◌, ℕ, suc, ◌+◌, ◌-◌, ◌^◌, ◌<◌, ◌≤◌, List, [], ◌∷◌, ◌++◌, length, length-append, map, ap, sym, ◌∙◌, refl, arith, nat_eq}
use Rattle.std.specs.Prelude.{Bool, true, false, cond, None, Some, All, AllPairs}
use Rattle.std.specs.Map.{lookup, values_of}
use Rattle.std.proofs.lemmas.Bool.{eqb-true}
use Rattle.std.proofs.lemmas.List.Elements.{All-head, All-map, All-push, All-tail, All-weaker}
use Rattle.std.proofs.lemmas.List.Kept.{AllPairs-cons}
use Rattle.std.proofs.lemmas.List.Quantifiers.{all_pairs_push}
use Rattle.std.specs.BTreeMap.{insert_entry}
use Rattle.std.specs.Cmp.{nat_cmp_is}
use Rattle.std.specs.Ordering.{match_ordering, nat_cmp}
use Rattle.std.specs.declared.cmp.Ordering.TheVariants.{Greater}
use Rattle.osgi_base.specs.declared.ids.ServiceId.{ServiceId}
use Rattle.osgi_ops.specs.declared.limits.TheConstants.{MAX_SERVICES}
use Rattle.osgi_registry.specs.computed.Kept.{IsBefore, AreKept, IsUnder}
use Rattle.osgi_registry.specs.Rows.{AreInOrder, service_number, row_at, LiveService}

-- ---- a fresh id

-- goes last
pub inserted : (issued : ℕ) (entries : List (ℕ × LiveService)) (row : LiveService) → All (IsUnder issued) entries → insert_entry nat_cmp entries (issued + 1) row ≡ entries ++ (issued + 1, row) ∷ []
inserted issued [] row under = refl
inserted issued (e ∷ rest) row under =
    let here = All-head (IsUnder issued) e rest under in
    let above : Greater ≡ nat_cmp (issued + 1) e.0 = nat_cmp_is (issued + 1) e.0 Greater (omega (arith, here.below)) in
    ap (λ o. match_ordering o ((issued + 1, row) ∷ e ∷ rest) ((e.0, row) ∷ rest) (e ∷ insert_entry nat_cmp rest (issued + 1) row)) (sym above)
    ∙ ap (λ l. e ∷ l) (inserted issued rest row (All-tail (IsUnder issued) e rest under))

pub values-push : (entries : List (ℕ × LiveService)) (key : ℕ) (row : LiveService) → values_of (entries ++ (key, row) ∷ []) ≡ values_of entries ++ row ∷ []
values-push [] key row = refl
values-push (e ∷ rest) key row = ap (λ l. e.1 ∷ l) (values-push rest key row)

pub kept_push : (issued : ℕ) (entries : List (ℕ × LiveService)) (row : LiveService) → AreKept issued entries → service_number row ≡ issued + 1 → length entries < MAX_SERVICES → issued < 2 ^ 32 - 1 →
    AreKept (issued + 1) (entries ++ (issued + 1, row) ∷ [])
kept_push issued entries row kept is room fits = record {
  under =
      All-push (IsUnder (issued + 1)) entries (issued + 1, row)
      (All-weaker (IsUnder issued) (IsUnder (issued + 1)) (λ e u. record { key = u.key; some = u.some; below = omega (arith, u.below) }) entries kept.under)
      (record { key = sym is; some = omega arith; below = omega arith });
  rising = all_pairs_push IsBefore entries (issued + 1, row) kept.rising (λ k d within. let u = kept.under k d within in omega (arith, u.below));
  few = omega (arith, length-append entries ((issued + 1, row) ∷ []), room);
  fits = omega (arith, fits);
}

-- ---- rows by their ids

find_by : (service : ServiceId) (e : ℕ × LiveService) (rest : List (ℕ × LiveService)) (here : Bool) → e.0 ≡ service_number e.1 → nat_eq service.0 e.0 ≡ here → row_at service (values_of rest) ≡ lookup (nat_eq service.0) rest →
    row_at service (e.1 ∷ values_of rest) ≡ cond here (Some e.1) (lookup (nat_eq service.0) rest)
find_by service e rest true key same more = rw (← key, same) refl
find_by service e rest false key same more = rw (← key, same) more

-- the row of a service is what stands under its id
pub row_by_key : (issued : ℕ) (service : ServiceId) (entries : List (ℕ × LiveService)) → All (IsUnder issued) entries → row_at service (values_of entries) ≡ lookup (nat_eq service.0) entries
row_by_key issued service [] under = refl
row_by_key issued service (e ∷ rest) under =
    find_by service e rest (nat_eq service.0 e.0) (All-head (IsUnder issued) e rest under).key refl (row_by_key issued service rest (All-tail (IsUnder issued) e rest under))

under_by : (issued key : ℕ) (e : ℕ × LiveService) (rest : List (ℕ × LiveService)) (row : LiveService) (here : Bool) → IsUnder issued e → nat_eq key e.0 ≡ here → (lookup (nat_eq key) rest ≡ Some row → IsUnder issued (key, row)) →
    cond here (Some e.1) (lookup (nat_eq key) rest) ≡ Some row → IsUnder issued (key, row)
under_by issued key e rest row true under same more found =
    let is : key ≡ e.0 = eqb-true key e.0 same in
    let row_is : e.1 ≡ row = cc found in
    record { key = is ∙ under.key ∙ ap service_number row_is; some = rw is under.some; below = rw is under.below }
under_by issued key e rest row false under same more found = more found

-- and stands under the id that it has
pub found_under : (issued key : ℕ) (entries : List (ℕ × LiveService)) (row : LiveService) → All (IsUnder issued) entries → lookup (nat_eq key) entries ≡ Some row → IsUnder issued (key, row)
found_under issued key [] row under found = absurd (cc found)
found_under issued key (e ∷ rest) row under found =
    under_by issued key e rest row (nat_eq key e.0) (All-head (IsUnder issued) e rest under) refl (found_under issued key rest row (All-tail (IsUnder issued) e rest under)) found

-- a service that is not found under its id is not live
pub row_absent : (issued : ℕ) (service : ServiceId) (entries : List (ℕ × LiveService)) (rows : List LiveService) → values_of entries ≡ rows → All (IsUnder issued) entries → lookup (nat_eq service.0) entries ≡ None → row_at service rows ≡ None
row_absent issued service entries rows are under none = rw (← are) (row_by_key issued service entries under ∙ none)

-- and one that is found has that row
pub row_present : (issued : ℕ) (service : ServiceId) (entries : List (ℕ × LiveService)) (rows : List LiveService) (row : LiveService) → values_of entries ≡ rows → All (IsUnder issued) entries → lookup (nat_eq service.0) entries ≡ Some row → row_at service rows ≡ Some row
row_present issued service entries rows row are under some = rw (← are) (row_by_key issued service entries under ∙ some)

-- ---- rows in order

pub pairs_head : {X : Type 0} (R : X → X → Type 0) (x : X) (xs : List X) → AllPairs R (x ∷ xs) → All (R x) xs
pairs_head R x xs pairs = λ k d within. pairs 0 (suc k) d (omega arith) (omega arith)

pub pairs_tail : {X : Type 0} (R : X → X → Type 0) (x : X) (xs : List X) → AllPairs R (x ∷ xs) → AllPairs R xs
pairs_tail R x xs pairs = λ i j d before within. pairs (suc i) (suc j) d (omega arith) (omega arith)

-- the ids rise
pub rising_ids : (issued : ℕ) (entries : List (ℕ × LiveService)) → All (IsUnder issued) entries → AllPairs IsBefore entries → AllPairs (λ k l. k < l) (map service_number (values_of entries))
rising_ids issued [] under pairs = λ i j d before within. absurd (omega arith)
rising_ids issued (e ∷ rest) under pairs =
    let here = All-head (IsUnder issued) e rest under in
    let others = All-tail (IsUnder issued) e rest under in
    let after = pairs_head IsBefore e rest pairs in
    AllPairs-cons (λ k l. k < l) (service_number e.1) (map service_number (values_of rest))
    (All-map (λ l. service_number e.1 < l) service_number (values_of rest)
    (All-map (λ row. service_number e.1 < service_number row) (λ (x : ℕ × LiveService). x.1) rest (λ k d within. let u = others k d within in let b = after k d within in omega (arith, here.key, u.key, b))))
    (rising_ids issued rest others (pairs_tail IsBefore e rest pairs))

pub in_order : (issued : ℕ) (entries : List (ℕ × LiveService)) → AreKept issued entries → AreInOrder (record { rows = values_of entries; issued = issued })
in_order issued entries kept = record {
  rising = λ k within. rising_ids issued entries kept.under kept.rising k (k + 1) 0 (omega arith) within;
  issued =
      All-map (λ row. (0 < service_number row) × (service_number row ≤ issued)) (λ (e : ℕ × LiveService). e.1) entries
      (λ k d within. let u = kept.under k d within in (rw (← u.key) u.some, rw (← u.key) u.below));
}
