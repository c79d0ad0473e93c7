-- The registry's entries after a change at a key, and after a removal.
use Rattle.std.proofs.Common.{◌≡◌, ℕ, suc, ◌≤◌, List, [], ◌∷◌, length, ap, sym, ◌∙◌, refl, arith, nat_eq}
use Rattle.std.specs.Prelude.{Bool, true, false, cond, Some, All, AllPairs}
use Rattle.std.specs.BTreeMap.{is_at}
use Rattle.std.specs.Map.{lookup, remove_entry, set_value, values_of}
use Rattle.std.specs.Ordering.{nat_cmp}
use Rattle.std.proofs.lemmas.Bool.{eqb-true, ne_eqb}
use Rattle.std.proofs.lemmas.List.Elements.{All-cons, All-head, All-map, All-tail}
use Rattle.std.proofs.lemmas.List.Kept.{AllPairs-cons}
use Rattle.std.proofs.lemmas.Map.Steps.{set_value_same}
use Rattle.osgi_base.specs.declared.ids.ServiceId.{ServiceId}
use Rattle.osgi_registry.specs.computed.Kept.{IsBefore, AreKept, IsUnder}
use Rattle.osgi_registry.specs.Rows.{change, service_number, is_service, LiveService, without}
use Rattle.osgi_registry.specs.laws.Changing.{change_none}
use Rattle.osgi_registry.proofs.Entries.{pairs_head, pairs_tail}
use Rattle.osgi_registry.proofs.Keys.{found_by, set_by}

-- ---- what stays true

All-set_by : (P : ℕ × LiveService → Type 0) (key : ℕ) (row : LiveService) (e : ℕ × LiveService) (rest : List (ℕ × LiveService)) (here : Bool) → nat_eq key e.0 ≡ here → (key ≡ e.0 → P (e.0, row)) → P e → All P rest → All P (set_value (nat_eq key) rest row) →
    All P (cond here ((e.0, row) ∷ rest) (e ∷ set_value (nat_eq key) rest row))
All-set_by P key row e rest true same new old others more = All-cons P (e.0, row) rest (new (eqb-true key e.0 same)) others
All-set_by P key row e rest false same new old others more = All-cons P e (set_value (nat_eq key) rest row) old more

All-set_value : (P : ℕ × LiveService → Type 0) (key : ℕ) (row : LiveService) (entries : List (ℕ × LiveService)) → All P entries → ((e : ℕ × LiveService) → P e → key ≡ e.0 → P (e.0, row)) → All P (set_value (nat_eq key) entries row)
All-set_value P key row [] all new = all
All-set_value P key row (e ∷ rest) all new =
    let others = All-tail P e rest all in
    let here = All-head P e rest all in
    All-set_by P key row e rest (nat_eq key e.0) refl (new e here) here others (All-set_value P key row rest others new)

pairs_set_by : (key : ℕ) (row : LiveService) (e : ℕ × LiveService) (rest : List (ℕ × LiveService)) (here : Bool) → All (IsBefore e) rest → AllPairs IsBefore rest → AllPairs IsBefore (set_value (nat_eq key) rest row) →
    AllPairs IsBefore (cond here ((e.0, row) ∷ rest) (e ∷ set_value (nat_eq key) rest row))
pairs_set_by key row e rest true after pairs more = AllPairs-cons IsBefore (e.0, row) rest after pairs
pairs_set_by key row e rest false after pairs more =
    AllPairs-cons IsBefore e (set_value (nat_eq key) rest row) (All-set_value (IsBefore e) key row rest after (λ d before same. before)) more

pairs_set : (key : ℕ) (row : LiveService) (entries : List (ℕ × LiveService)) → AllPairs IsBefore entries → AllPairs IsBefore (set_value (nat_eq key) entries row)
pairs_set key row [] pairs = pairs
pairs_set key row (e ∷ rest) pairs =
    let others = pairs_tail IsBefore e rest pairs in
    pairs_set_by key row e rest (nat_eq key e.0) (pairs_head IsBefore e rest pairs) others (pairs_set key row rest others)

length_set_by : (row : LiveService) (e : ℕ × LiveService) (rest more : List (ℕ × LiveService)) (here : Bool) → length more ≡ length rest → length (cond here ((e.0, row) ∷ rest) (e ∷ more)) ≡ length (e ∷ rest)
length_set_by row e rest more true same = refl
length_set_by row e rest more false same = ap suc same

length_set : (key : ℕ) (row : LiveService) (entries : List (ℕ × LiveService)) → length (set_value (nat_eq key) entries row) ≡ length entries
length_set key row [] = refl
length_set key row (e ∷ rest) = length_set_by row e rest (set_value (nat_eq key) rest row) (nat_eq key e.0) (length_set key row rest)

pub kept_set : (issued key : ℕ) (row : LiveService) (entries : List (ℕ × LiveService)) → AreKept issued entries → service_number row ≡ key → AreKept issued (set_value (nat_eq key) entries row)
kept_set issued key row entries kept is = record {
  under = All-set_value (IsUnder issued) key row entries kept.under (λ e u same. record { key = sym (is ∙ same); some = u.some; below = u.below });
  rising = pairs_set key row entries kept.rising;
  few = rw (length_set key row entries) kept.few;
  fits = kept.fits;
}

All-remove_by : (P : ℕ × LiveService → Type 0) (e : ℕ × LiveService) (rest more : List (ℕ × LiveService)) (here : Bool) → P e → All P rest → All P more → All P (cond here rest (e ∷ more))
All-remove_by P e rest more true old others all = others
All-remove_by P e rest more false old others all = All-cons P e more old all

All-remove : (P : ℕ × LiveService → Type 0) (key : ℕ) (entries : List (ℕ × LiveService)) → All P entries → All P (remove_entry (nat_eq key) entries)
All-remove P key [] all = all
All-remove P key (e ∷ rest) all =
    let others = All-tail P e rest all in
    All-remove_by P e rest (remove_entry (nat_eq key) rest) (nat_eq key e.0) (All-head P e rest all) others (All-remove P key rest others)

pairs_remove_by : (e : ℕ × LiveService) (rest more : List (ℕ × LiveService)) (here : Bool) → All (IsBefore e) more → AllPairs IsBefore rest → AllPairs IsBefore more → AllPairs IsBefore (cond here rest (e ∷ more))
pairs_remove_by e rest more true after pairs all = pairs
pairs_remove_by e rest more false after pairs all = AllPairs-cons IsBefore e more after all

pairs_remove : (key : ℕ) (entries : List (ℕ × LiveService)) → AllPairs IsBefore entries → AllPairs IsBefore (remove_entry (nat_eq key) entries)
pairs_remove key [] pairs = pairs
pairs_remove key (e ∷ rest) pairs =
    let others = pairs_tail IsBefore e rest pairs in
    pairs_remove_by e rest (remove_entry (nat_eq key) rest) (nat_eq key e.0) (All-remove (IsBefore e) key rest (pairs_head IsBefore e rest pairs)) others (pairs_remove key rest others)

length_remove_by : (e : ℕ × LiveService) (rest more : List (ℕ × LiveService)) (here : Bool) → length more ≤ length rest → length (cond here rest (e ∷ more)) ≤ length (e ∷ rest)
length_remove_by e rest more true less = omega arith
length_remove_by e rest more false less = omega arith

length_remove : (key : ℕ) (entries : List (ℕ × LiveService)) → length (remove_entry (nat_eq key) entries) ≤ length entries
length_remove key [] = omega arith
length_remove key (e ∷ rest) = length_remove_by e rest (remove_entry (nat_eq key) rest) (nat_eq key e.0) (length_remove key rest)

pub kept_remove : (issued key : ℕ) (entries : List (ℕ × LiveService)) → AreKept issued entries → AreKept issued (remove_entry (nat_eq key) entries)
kept_remove issued key entries kept = record {
  under = All-remove (IsUnder issued) key entries kept.under;
  rising = pairs_remove key entries kept.rising;
  few = omega (arith, length_remove key entries, kept.few);
  fits = kept.fits;
}

-- a row put back as it was changes nothing
pub written_same : (key : ℕ) (old new : LiveService) (entries written : List (ℕ × LiveService)) → new ≡ old → Some old ≡ lookup (is_at (nat_cmp key)) entries → written ≡ set_value (is_at (nat_cmp key)) entries new → written ≡ entries
written_same key old new entries written is found put =
    set_by key entries written new put ∙ ap (set_value (nat_eq key) entries) is ∙ set_value_same (nat_eq key) entries old (found_by key entries (Some old) found)

-- ---- the rows

-- no row after this one is the service's
pub others_differ : (issued : ℕ) (service : ServiceId) (e : ℕ × LiveService) (rest : List (ℕ × LiveService)) → service.0 ≡ e.0 → All (IsUnder issued) rest → All (IsBefore e) rest → All (λ row. is_service service row ≡ false) (values_of rest)
others_differ issued service e rest is under after =
    All-map (λ row. is_service service row ≡ false) (λ (x : ℕ × LiveService). x.1) rest
    (λ k d within. let u = under k d within in let b = after k d within in ne_eqb service.0 _ (λ same. absurd (omega (arith, is, same, u.key, b))))

without_none : (service : ServiceId) (rows : List LiveService) → All (λ row. is_service service row ≡ false) rows → without service rows ≡ rows
without_none service [] none = refl
without_none service (row ∷ rest) none =
    rw (All-head (λ r. is_service service r ≡ false) row rest none) (ap (λ l. row ∷ l) (without_none service rest (All-tail (λ r. is_service service r ≡ false) row rest none)))

rows_set_by : (issued : ℕ) (service : ServiceId) (old new : LiveService) (f : LiveService → LiveService) (e : ℕ × LiveService) (rest : List (ℕ × LiveService)) (here : Bool) → nat_eq service.0 e.0 ≡ here → e.0 ≡ service_number e.1 → All (IsUnder issued) rest → All (IsBefore e) rest → f old ≡ new →
    (lookup (nat_eq service.0) rest ≡ Some old → values_of (set_value (nat_eq service.0) rest new) ≡ change service f (values_of rest)) →
    cond here (Some e.1) (lookup (nat_eq service.0) rest) ≡ Some old →
    values_of (cond here ((e.0, new) ∷ rest) (e ∷ set_value (nat_eq service.0) rest new)) ≡ change service f (e.1 ∷ values_of rest)
rows_set_by issued service old new f e rest true same key under after is more found =
    let row_is : e.1 ≡ old = cc found in
    let others : change service f (values_of rest) ≡ values_of rest = change_none service f (values_of rest) (others_differ issued service e rest (eqb-true service.0 e.0 same) under after) in
    let at : is_service service e.1 ≡ true = rw (← key) same in
    rw (at, others, row_is, is) refl
rows_set_by issued service old new f e rest false same key under after is more found =
    let at : is_service service e.1 ≡ false = rw (← key) same in
    rw at (ap (λ l. e.1 ∷ l) (more found))

-- a change at the key changes the service's row
pub rows_set : (issued : ℕ) (service : ServiceId) (old new : LiveService) (f : LiveService → LiveService) (entries : List (ℕ × LiveService)) → All (IsUnder issued) entries → AllPairs IsBefore entries → f old ≡ new → lookup (nat_eq service.0) entries ≡ Some old →
    values_of (set_value (nat_eq service.0) entries new) ≡ change service f (values_of entries)
rows_set issued service old new f [] under pairs is found = absurd (cc found)
rows_set issued service old new f (e ∷ rest) under pairs is found =
    let others = All-tail (IsUnder issued) e rest under in
    rows_set_by issued service old new f e rest (nat_eq service.0 e.0) refl (All-head (IsUnder issued) e rest under).key others (pairs_head IsBefore e rest pairs) is
    (rows_set issued service old new f rest others (pairs_tail IsBefore e rest pairs) is) found

rows_remove_by : (issued : ℕ) (service : ServiceId) (e : ℕ × LiveService) (rest : List (ℕ × LiveService)) (here : Bool) → nat_eq service.0 e.0 ≡ here → e.0 ≡ service_number e.1 → All (IsUnder issued) rest → All (IsBefore e) rest →
    values_of (remove_entry (nat_eq service.0) rest) ≡ without service (values_of rest) → values_of (cond here rest (e ∷ remove_entry (nat_eq service.0) rest)) ≡ without service (e.1 ∷ values_of rest)
rows_remove_by issued service e rest true same key under after more =
    let at : is_service service e.1 ≡ true = rw (← key) same in
    rw at (sym (without_none service (values_of rest) (others_differ issued service e rest (eqb-true service.0 e.0 same) under after)))
rows_remove_by issued service e rest false same key under after more =
    let at : is_service service e.1 ≡ false = rw (← key) same in
    rw at (ap (λ l. e.1 ∷ l) more)

-- a removal of the key takes the service's row out
pub rows_remove : (issued : ℕ) (service : ServiceId) (entries : List (ℕ × LiveService)) → All (IsUnder issued) entries → AllPairs IsBefore entries → values_of (remove_entry (nat_eq service.0) entries) ≡ without service (values_of entries)
rows_remove issued service [] under pairs = refl
rows_remove issued service (e ∷ rest) under pairs =
    let others = All-tail (IsUnder issued) e rest under in
    rows_remove_by issued service e rest (nat_eq service.0 e.0) refl (All-head (IsUnder issued) e rest under).key others (pairs_head IsBefore e rest pairs)
    (rows_remove issued service rest others (pairs_tail IsBefore e rest pairs))

-- a change of a row that leaves its service
pub uses_set : (issued : ℕ) (service : ServiceId) (old new : LiveService) (entries : List (ℕ × LiveService)) → AreKept issued entries → new.service ≡ old.service → lookup (nat_eq service.0) entries ≡ Some old →
    values_of (set_value (nat_eq service.0) entries new) ≡ change service (λ row. record new { service = row.service }) (values_of entries)
uses_set issued service old new entries kept same found =
    rows_set issued service old new (λ row. record new { service = row.service }) entries kept.under kept.rising (ap (λ s. record new { service = s }) (sym same)) found
