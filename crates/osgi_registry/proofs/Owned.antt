-- Those of the services that concern a bundle that it owns are all that it owns.
use Rattle.std.proofs.Common.{◌≡◌, ℕ, ◌+◌, ◌<◌, List, [], ◌∷◌, ◌++◌, ap, sym, ◌∙◌, refl, arith, get_or, length, map, take}
use Rattle.std.specs.Prelude.{Bool, true, false, cond, ◌==◌, ◌||◌, ◌&&◌, Option, None, Some, All, AllPairs, filter, option_to_list}
use Rattle.std.specs.BTreeMap.{is_at}
use Rattle.std.specs.BTreeSet.{BTreeSet}
use Rattle.std.specs.List.{cons_option, list_any}
use Rattle.std.specs.List.Sorted.{IsStrictlySortedBy}
use Rattle.std.specs.Map.{values_of}
use Rattle.std.specs.Option.{option_map, option_map_or}
use Rattle.std.specs.Ordering.{nat_cmp}
use Rattle.std.proofs.lemmas.Bool.{eq-eqb, eqb-true, ne_eqb, or_left}
use Rattle.std.proofs.lemmas.List.{take_more}
use Rattle.std.proofs.lemmas.List.Elements.{All-cons, All-filter, All-head, All-map, All-tail, filter_map-append}
use Rattle.std.proofs.lemmas.List.Kept.{AllPairs-cons, AllPairs-filter, IsStrictlySortedBy-filter}
use Rattle.std.proofs.lemmas.Map.Keys.{sorted_from_strictly_increasing}
use Rattle.std.proofs.lemmas.Cmp.{nat_cmp_total}
use Rattle.std.proofs.lemmas.Map.Lookups.{btree_set_from_contains, exact_unsigned}
use Rattle.osgi_base.specs.declared.ids.BundleId.{BundleId}
use Rattle.osgi_base.specs.declared.ids.ServiceId.{ServiceId}
use Rattle.osgi_ops.specs.declared.service.Service.{Service}
use Rattle.osgi_registry.specs.computed.Concerns.{AreAmong, concerns, live_among, owns}
use Rattle.osgi_registry.specs.computed.Kept.{AreKept, IsBefore, IsUnder}
use Rattle.osgi_registry.specs.Rows.{ids_of, is_owned, LiveService, row_at, service_number, services_in}
use Rattle.osgi_registry_index.proofs.Belongs.{same_number}
use Rattle.osgi_registry.proofs.Entries.{pairs_head, pairs_tail}

abbrev pub number_of : ServiceId → ℕ
number_of service = service.0

abbrev pub of_number : ℕ → ServiceId
of_number n = record { 0 = n }

-- ---- rising ids

pub rising_rows : (issued : ℕ) (entries : List (ℕ × LiveService)) → All (IsUnder issued) entries → AllPairs IsBefore entries → AllPairs (λ a b. service_number a < service_number b) (values_of entries)
rising_rows issued [] under pairs = λ i j d before within. absurd (omega arith)
rising_rows issued (e ∷ rest) under pairs =
    let here = All-head (IsUnder issued) e rest under in
    let more = All-tail (IsUnder issued) e rest under in
    let after = pairs_head IsBefore e rest pairs in
    AllPairs-cons (λ a b. service_number a < service_number b) e.1 (values_of rest)
    (All-map (λ r. service_number e.1 < service_number r) (λ (x : ℕ × LiveService). x.1) rest (λ k d within. let u = more k d within in let b = after k d within in omega (arith, here.key, u.key, b)))
    (rising_rows issued rest more (pairs_tail IsBefore e rest pairs))

rising_numbers : (rows : List LiveService) → AllPairs (λ a b. service_number a < service_number b) rows → AllPairs (λ k l. k < l) (map service_number rows)
rising_numbers [] pairs = λ i j d before within. absurd (omega arith)
rising_numbers (row ∷ rest) pairs =
    AllPairs-cons (λ k l. k < l) (service_number row) (map service_number rest)
    (All-map (λ l. service_number row < l) service_number rest (pairs_head (λ a b. service_number a < service_number b) row rest pairs))
    (rising_numbers rest (pairs_tail (λ a b. service_number a < service_number b) row rest pairs))

sorted_numbers : (rows : List LiveService) → AllPairs (λ a b. service_number a < service_number b) rows → IsStrictlySortedBy nat_cmp (map service_number rows)
sorted_numbers rows pairs = sorted_from_strictly_increasing (map service_number rows) (λ k within. rising_numbers rows pairs k (k + 1) 0 (omega arith) within)

-- ---- what is among the services that the bundle owns

absent_by : (q : ℕ) (p : LiveService → Bool) (row : LiveService) (left : List LiveService) (kept : Bool) → (q == service_number row) ≡ false → list_any (is_at (nat_cmp q)) (map service_number left) ≡ false →
    list_any (is_at (nat_cmp q)) (map service_number (cond kept (row ∷ left) left)) ≡ false
absent_by q p row left true other more = ap (λ t. t || list_any (is_at (nat_cmp q)) (map service_number left)) (same_number q (service_number row) ∙ other) ∙ more
absent_by q p row left false other more = more

absent : (q : ℕ) (p : LiveService → Bool) (rows : List LiveService) → All (λ row. (q == service_number row) ≡ false) rows → list_any (is_at (nat_cmp q)) (map service_number (filter p rows)) ≡ false
absent q p [] others = refl
absent q p (row ∷ rest) others =
    absent_by q p row (filter p rest) (p row) (All-head (λ r. (q == service_number r) ≡ false) row rest others) (absent q p rest (All-tail (λ r. (q == service_number r) ≡ false) row rest others))

rows_by : (q : ℕ) (p : LiveService → Bool) (row : LiveService) (rest : List LiveService) (here kept : Bool) → (q == service_number row) ≡ here → p row ≡ kept → (here ≡ true → list_any (is_at (nat_cmp q)) (map service_number (filter p rest)) ≡ false) →
    list_any (is_at (nat_cmp q)) (map service_number (filter p rest)) ≡ option_map_or p (row_at (of_number q) rest) false →
    list_any (is_at (nat_cmp q)) (map service_number (cond kept (row ∷ filter p rest) (filter p rest))) ≡ option_map_or p (cond here (Some row) (row_at (of_number q) rest)) false
rows_by q p row rest true true same own none more = or_left _ _ (same_number q (service_number row) ∙ same) ∙ sym own
rows_by q p row rest true false same own none more = none refl ∙ sym own
rows_by q p row rest false true other own none more = ap (λ t. t || list_any (is_at (nat_cmp q)) (map service_number (filter p rest))) (same_number q (service_number row) ∙ other) ∙ more
rows_by q p row rest false false other own none more = more

after_apart : (q : ℕ) (row : LiveService) (rest : List LiveService) → All (λ r. service_number row < service_number r) rest → (q == service_number row) ≡ true → All (λ r. (q == service_number r) ≡ false) rest
after_apart q row rest after same = λ k d within. ne_eqb q _ (λ is. let number = eqb-true q (service_number row) same in let above = after k d within in absurd (omega (arith, is, number, above)))

rows_among : (q : ℕ) (p : LiveService → Bool) (rows : List LiveService) → AllPairs (λ a b. service_number a < service_number b) rows → list_any (is_at (nat_cmp q)) (map service_number (filter p rows)) ≡ option_map_or p (row_at (of_number q) rows) false
rows_among q p [] pairs = refl
rows_among q p (row ∷ rest) pairs =
    rows_by q p row rest (q == service_number row) (p row) refl refl (λ same. absent q p rest (after_apart q row rest (pairs_head (λ a b. service_number a < service_number b) row rest pairs) same))
    (rows_among q p rest (pairs_tail (λ a b. service_number a < service_number b) row rest pairs))

-- ---- what is among the services that were asked for

asked_by : (q : ℕ) (p : ℕ → Bool) (n : ℕ) (left : List ℕ) (was here kept : Bool) → is_at (nat_cmp q) n ≡ here → p n ≡ kept → (here ≡ true → p q ≡ p n) → list_any (is_at (nat_cmp q)) left ≡ (p q && was) → list_any (is_at (nat_cmp q)) (cond kept (n ∷ left) left) ≡ (p q && (here || was))
asked_by q p n left was true true same is alike more = or_left (is_at (nat_cmp q) n) (list_any (is_at (nat_cmp q)) left) same ∙ sym (ap (λ t. t && true) (alike refl ∙ is))
asked_by q p n left was true false same is alike more = more ∙ (λ i. (alike refl ∙ is) i && was) ∙ sym (ap (λ t. t && true) (alike refl ∙ is))
asked_by q p n left was false true other is alike more = ap (λ t. t || list_any (is_at (nat_cmp q)) left) other ∙ more
asked_by q p n left was false false other is alike more = more

asked : (q : ℕ) (p : ℕ → Bool) (numbers : List ℕ) → list_any (is_at (nat_cmp q)) (filter p numbers) ≡ (p q && list_any (is_at (nat_cmp q)) numbers)
asked q p [] = none (p q)
  where
    none : (b : Bool) → false ≡ (b && false)
    none true = refl
    none false = refl
asked q p (n ∷ rest) =
    asked_by q p n (filter p rest) (list_any (is_at (nat_cmp q)) rest) (is_at (nat_cmp q) n) (p n) refl refl (λ same. ap p (eqb-true q n (sym (same_number q n) ∙ same))) (asked q p rest)

-- ---- they are the same

found_by : (bundle : BundleId) (q : ℕ) (services : List ServiceId) (row : LiveService) (rest : Option LiveService) (here : Bool) → (q == service_number row) ≡ here → (concerns bundle row ≡ true → list_any (is_at (nat_cmp (service_number row))) (map number_of services) ≡ true) →
    (option_map_or (is_owned bundle) rest false ≡ true → list_any (is_at (nat_cmp q)) (map number_of services) ≡ true) → option_map_or (is_owned bundle) (cond here (Some row) rest) false ≡ true → list_any (is_at (nat_cmp q)) (map number_of services) ≡ true
found_by bundle q services row rest true same among more own =
    ap (λ n. list_any (is_at (nat_cmp n)) (map number_of services)) (eqb-true q (service_number row) same) ∙ among (or_left (is_owned bundle row) (list_any (λ other. bundle.0 == other.0) row.uses) own)
found_by bundle q services row rest false other among more own = more own

owned_among : (bundle : BundleId) (services : List ServiceId) (rows : List LiveService) (q : ℕ) → AreAmong bundle services rows → owns bundle rows (of_number q) ≡ true → list_any (is_at (nat_cmp q)) (map number_of services) ≡ true
owned_among bundle services [] q among own = absurd (cc own)
owned_among bundle services (row ∷ rest) q among own =
    let P : LiveService → Type 0 = λ r. concerns bundle r ≡ true → list_any (is_at (nat_cmp (service_number r))) (map number_of services) ≡ true in
    found_by bundle q services row (row_at (of_number q) rest) (q == service_number row) refl (All-head P row rest among) (owned_among bundle services rest q (All-tail P row rest among)) own

and_if : (p q : Bool) → (p ≡ true → q ≡ true) → (p && q) ≡ p
and_if true q then = then refl
and_if false q then = refl

numbers_filter_by : (p : ServiceId → Bool) (s : ServiceId) (left : List ServiceId) (kept : Bool) (numbers : List ℕ) → map number_of left ≡ numbers → map number_of (cond kept (s ∷ left) left) ≡ cond kept (s.0 ∷ numbers) numbers
numbers_filter_by p s left true numbers more = ap (λ l. s.0 ∷ l) more
numbers_filter_by p s left false numbers more = more

numbers_filter : (p : ServiceId → Bool) (services : List ServiceId) → map number_of (filter p services) ≡ filter (λ n. p (of_number n)) (map number_of services)
numbers_filter p [] = refl
numbers_filter p (s ∷ rest) = numbers_filter_by p s (filter p rest) (p s) (filter (λ n. p (of_number n)) (map number_of rest)) (numbers_filter p rest)

ids_from : (services : List ServiceId) → map of_number (map number_of services) ≡ services
ids_from [] = refl
ids_from (s ∷ rest) = ap (λ l. s ∷ l) (ids_from rest)

ids_numbers : (rows : List LiveService) → map of_number (map service_number rows) ≡ ids_of rows
ids_numbers [] = refl
ids_numbers (row ∷ rest) = ap (λ l. row.service.service ∷ l) (ids_numbers rest)

pub owned_exact : (issued : ℕ) (bundle : BundleId) (entries : List (ℕ × LiveService)) (services : List ServiceId) → AreKept issued entries → AreAmong bundle services (values_of entries) → IsStrictlySortedBy nat_cmp (map number_of services) →
    filter (owns bundle (values_of entries)) services ≡ ids_of (filter (is_owned bundle) (values_of entries))
owned_exact issued bundle entries services kept among rising =
    let rows = values_of entries in
    let p : ℕ → Bool = λ n. owns bundle rows (of_number n) in
    let up = rising_rows issued entries kept.under kept.rising in
    let left : BTreeSet ℕ = record { keys = filter p (map number_of services) } in
    let right : BTreeSet ℕ = record { keys = map service_number (filter (is_owned bundle) rows) } in
    let keys : left.keys ≡ right.keys
    = btree_set_from_contains nat_cmp_total left right (IsStrictlySortedBy-filter nat_cmp p (map number_of services) rising)
    (sorted_numbers (filter (is_owned bundle) rows) (AllPairs-filter (λ a b. service_number a < service_number b) (is_owned bundle) rows up))
    (λ q. asked q p (map number_of services) ∙ and_if (p q) (list_any (is_at (nat_cmp q)) (map number_of services)) (owned_among bundle services rows q among) ∙ sym (rows_among q (is_owned bundle) rows up)) exact_unsigned in
    sym (ids_from (filter (owns bundle rows) services)) ∙ ap (map of_number) (numbers_filter (owns bundle rows) services ∙ keys) ∙ ids_numbers (filter (is_owned bundle) rows)

-- ---- the services of these ids

-- each row is found by its id
pub each_found : (rows : List LiveService) → AllPairs (λ a b. service_number a < service_number b) rows → All (λ row. row_at row.service.service rows ≡ Some row) rows
each_found [] pairs = λ k d within. absurd (omega arith)
each_found (row ∷ rest) pairs =
    let after = pairs_head (λ a b. service_number a < service_number b) row rest pairs in
    let more = each_found rest (pairs_tail (λ a b. service_number a < service_number b) row rest pairs) in
    All-cons (λ r. row_at r.service.service (row ∷ rest) ≡ Some r) row rest (ap (λ b. cond b (Some row) (row_at row.service.service rest)) (eq-eqb (service_number row) (service_number row) refl))
    (λ k d within.
    let r = get_or rest k d in
    let above = after k d within in
    let apart : (service_number r == service_number row) ≡ false = ne_eqb (service_number r) (service_number row) (λ same. absurd (omega (arith, same, above))) in
    ap (λ b. cond b (Some row) (row_at r.service.service rest)) apart ∙ more k d within)

found_live : (rows some : List LiveService) → All (λ row. row_at row.service.service rows ≡ Some row) some → live_among rows (ids_of some) ≡ services_in some
found_live rows [] all = refl
found_live rows (row ∷ rest) all =
    let P : LiveService → Type 0 = λ r. row_at r.service.service rows ≡ Some r in
    ap (λ at. cons_option (option_map (λ (r : LiveService). r.service) at) (live_among rows (ids_of rest))) (All-head P row rest all) ∙ ap (λ l. row.service ∷ l) (found_live rows rest (All-tail P row rest all))

-- of the rows that the bundle owns, the services are found by their ids
pub owned_services : (bundle : BundleId) (rows : List LiveService) → AllPairs (λ a b. service_number a < service_number b) rows → live_among rows (ids_of (filter (is_owned bundle) rows)) ≡ services_in (filter (is_owned bundle) rows)
owned_services bundle rows pairs = found_live rows (filter (is_owned bundle) rows) (All-filter (is_owned bundle) (λ row. row_at row.service.service rows ≡ Some row) rows (each_found rows pairs))

one_live : (found : Option Service) → cons_option found [] ≡ option_to_list found
one_live None = refl
one_live (Some service) = refl

-- one id more
pub live_more : (rows : List LiveService) (ids : List ServiceId) (i : ℕ) (d : ServiceId) → i < length ids →
    live_among rows (take (i + 1) ids) ≡ live_among rows (take i ids) ++ option_to_list (option_map (λ (r : LiveService). r.service) (row_at (get_or ids i d) rows))
live_more rows ids i d within =
    let service_of : ServiceId → Option Service = λ id. option_map (λ (r : LiveService). r.service) (row_at id rows) in
    ap (live_among rows) (take_more ids i d within) ∙ filter_map-append service_of (take i ids) (get_or ids i d ∷ []) ∙ ap (λ l. live_among rows (take i ids) ++ l) (one_live (service_of (get_or ids i d)))
