-- The index by class after the rows change, and what its first place says of them.
use Rattle.std.proofs.Common.{◌≡◌, ◌≢◌, ◌<◌, ℕ, List, [], ◌∷◌, ◌++◌, ap, sym, ◌∙◌, refl, arith, get_or, length, nat_eq, true≢false}
use Rattle.std.specs.Prelude.{Bool, true, false, cond, ◌||◌, ◌&&◌, not, Some, All, AllPairs, Contains}
use Rattle.std.specs.List.{list_any}
use Rattle.std.specs.Map.{lookup, set_value, values_of}
use Rattle.std.proofs.lemmas.Bool.{and_from, and_parts, and_right, eq-eqb, eqb-true, or_left, or_right}
use Rattle.std.proofs.lemmas.List.{get_or-map, length-map}
use Rattle.std.proofs.lemmas.List.Elements.{All-cons, All-head, All-map, All-tail}
use Rattle.std.proofs.lemmas.List.Folds.{Any-from_list_any, list_any-append, list_any_at, list_any_none}
use Rattle.osgi_base.specs.declared.ids.ServiceId.{ServiceId}
use Rattle.osgi_registry_index.specs.declared.place.Place.{Place}
use Rattle.osgi_registry.specs.computed.Kept.{AreKept, IsBefore, IsUnder}
use Rattle.osgi_registry.specs.computed.LivePlaces.{is_placed, IsIndexOf}
use Rattle.osgi_registry_index.specs.Places.{Classes, holds, HoldsSame, IsFresh, Moves, place_of, Puts, same_place, StandsUnder}
use Rattle.osgi_ops.specs.Classes.{has_class}
use Rattle.osgi_base.specs.Texts.{is_among}
use Rattle.osgi_registry.specs.Rows.{change, service_number, is_service, LiveService, services_in, without}
use Rattle.osgi_registry.proofs.Changed.{others_differ, uses_set}
use Rattle.osgi_registry.proofs.Entries.{pairs_head, pairs_tail}
use Rattle.osgi_registry_index.proofs.Exact.{place_exact, place_itself}
use Rattle.osgi_registry_index.proofs.Holds.{added_held, moved_held, taken_held}

-- what is held alike is an index alike
pub index_same : (old new : Classes) (rows : List LiveService) → IsIndexOf old rows → HoldsSame old new → IsIndexOf new rows
index_same old new rows index same = λ c p. same c p ∙ index c p

-- ---- one more service

or_last : (a b : Bool) → (a || b) ≡ (b || (a || false))
or_last true true = refl
or_last true false = refl
or_last false true = refl
or_last false false = refl

pub placed_push : (old new : Classes) (rows : List LiveService) (row : LiveService) → IsIndexOf old rows → Puts old new row.service.classes (place_of row.service) true → IsIndexOf new (rows ++ row ∷ [])
placed_push old new rows row index added = λ c p.
    added_held old new row.service.classes (place_of row.service) added c p ∙ ap (λ b. is_placed c p row || b) (index c p) ∙ or_last (is_placed c p row) (list_any (is_placed c p) rows) ∙ sym (list_any-append (is_placed c p) rows (row ∷ []))

apart_by : (a place p : Place) (test : Bool) → same_place a p ≡ test → a ≢ place → same_place place p ≡ true → test ≡ false
apart_by a place p true same apart there = absurd (apart (place_exact a p same ∙ sym (place_exact place p there)))
apart_by a place p false same apart there = refl

-- a place that is no service's stands under no class
pub fresh_place : (classes : Classes) (rows : List LiveService) (place : Place) → IsIndexOf classes rows → All (λ row. place_of row.service ≢ place) rows → IsFresh classes place
fresh_place classes rows place index apart = λ c p same.
    index c p
    ∙ list_any_none (is_placed c p) rows
    (λ k d within. and_right (has_class c (get_or rows k d).service) _ (apart_by (place_of (get_or rows k d).service) place p _ refl (apart k d within) same))

-- as that of an id which was not given
pub fresh_id : (issued : ℕ) (entries : List (ℕ × LiveService)) (place : Place) → All (IsUnder issued) entries → issued < place.service → All (λ row. place_of row.service ≢ place) (values_of entries)
fresh_id issued entries place under above =
    All-map (λ row. place_of row.service ≢ place) (λ (e : ℕ × LiveService). e.1) entries
    (λ k d within same. let u = under k d within in let is = ap (λ (p : Place). p.service) same in absurd (omega (arith, u.key, u.below, is, above)))

-- ---- the one row of a service

only_by : (issued : ℕ) (service : ServiceId) (row : LiveService) (e : ℕ × LiveService) (rest : List (ℕ × LiveService)) (here : Bool) → nat_eq service.0 e.0 ≡ here → e.0 ≡ service_number e.1 → All (IsUnder issued) rest → All (IsBefore e) rest →
    (lookup (nat_eq service.0) rest ≡ Some row → All (λ r. is_service service r ≡ true → r ≡ row) (values_of rest)) →
    cond here (Some e.1) (lookup (nat_eq service.0) rest) ≡ Some row → All (λ r. is_service service r ≡ true → r ≡ row) (e.1 ∷ values_of rest)
only_by issued service row e rest true same key under after more found =
    let row_is : e.1 ≡ row = cc found in
    All-cons (λ r. is_service service r ≡ true → r ≡ row) e.1 (values_of rest) (λ yes. row_is)
    (λ k d within yes. absurd (true≢false (sym yes ∙ others_differ issued service e rest (eqb-true service.0 e.0 same) under after k d within)))
only_by issued service row e rest false same key under after more found =
    let at : is_service service e.1 ≡ false = rw (← key) same in
    All-cons (λ r. is_service service r ≡ true → r ≡ row) e.1 (values_of rest) (λ yes. absurd (true≢false (sym yes ∙ at))) (more found)

-- no other row has its id
pub only_one : (issued : ℕ) (service : ServiceId) (row : LiveService) (entries : List (ℕ × LiveService)) → All (IsUnder issued) entries → AllPairs IsBefore entries → lookup (nat_eq service.0) entries ≡ Some row →
    All (λ r. is_service service r ≡ true → r ≡ row) (values_of entries)
only_one issued service row [] under pairs found = absurd (cc found)
only_one issued service row (e ∷ rest) under pairs found =
    let others = All-tail (IsUnder issued) e rest under in
    only_by issued service row e rest (nat_eq service.0 e.0) refl (All-head (IsUnder issued) e rest under).key others (pairs_head IsBefore e rest pairs)
    (only_one issued service row rest others (pairs_tail IsBefore e rest pairs)) found

any_by : (test : LiveService → Bool) (key : ℕ) (row : LiveService) (e : ℕ × LiveService) (rest : List (ℕ × LiveService)) (here : Bool) → test row ≡ true → (lookup (nat_eq key) rest ≡ Some row → list_any test (values_of rest) ≡ true) →
    cond here (Some e.1) (lookup (nat_eq key) rest) ≡ Some row → list_any test (e.1 ∷ values_of rest) ≡ true
any_by test key row e rest true passes more found = or_left (test e.1) (list_any test (values_of rest)) (ap test (cc found) ∙ passes)
any_by test key row e rest false passes more found = or_right (test e.1) (list_any test (values_of rest)) (more found)

-- and it is there
pub any_found : (test : LiveService → Bool) (key : ℕ) (row : LiveService) (entries : List (ℕ × LiveService)) → test row ≡ true → lookup (nat_eq key) entries ≡ Some row → list_any test (values_of entries) ≡ true
any_found test key row [] passes found = absurd (cc found)
any_found test key row (e ∷ rest) passes found = any_by test key row e rest (nat_eq key e.0) passes (any_found test key row rest passes) found

pub stands : (classes : Classes) (key : ℕ) (row : LiveService) (entries : List (ℕ × LiveService)) → IsIndexOf classes (values_of entries) → lookup (nat_eq key) entries ≡ Some row → StandsUnder classes row.service.classes (place_of row.service)
stands classes key row entries index found = λ c p has same. index c p ∙ any_found (is_placed c p) key row entries (and_from (has_class c row.service) _ has same) found

apart_one : (service : ServiceId) (row r : LiveService) (to : Place) (test : Bool) → is_service service r ≡ test → (is_service service r ≡ true → r ≡ row) → to.service ≡ service.0 → same_place (place_of row.service) to ≡ false → place_of r.service ≢ to
apart_one service row r to true at only is apart same =
    let here : place_of row.service ≡ to = ap (λ x. place_of x.service) (sym (only at)) ∙ same in
    true≢false (sym (place_itself to) ∙ ap (λ q. same_place q to) (sym here) ∙ apart)
apart_one service row r to false at only is apart same = true≢false (sym (eq-eqb service.0 (service_number r) (sym (ap (λ (q : Place). q.service) same ∙ is))) ∙ at)

-- another place of its own is no service's
pub fresh_move : (issued : ℕ) (service : ServiceId) (row : LiveService) (entries : List (ℕ × LiveService)) (classes : Classes) (to : Place) → AreKept issued entries → IsIndexOf classes (values_of entries) → lookup (nat_eq service.0) entries ≡ Some row →
    to.service ≡ service.0 → same_place (place_of row.service) to ≡ false → IsFresh classes to
fresh_move issued service row entries classes to kept index found is apart =
    let only = only_one issued service row entries kept.under kept.rising found in
    fresh_place classes (values_of entries) to index (λ k d within. apart_one service row (get_or (values_of entries) k d) to (is_service service (get_or (values_of entries) k d)) refl (only k d within) is apart)

separate_by : (service : ServiceId) (c : List ℕ) (p : Place) (row r : LiveService) (test : Bool) → is_placed c p row ≡ test → service_number row ≡ service.0 → is_service service r ≡ false → is_placed c p r ≡ true → test ≡ false
separate_by service c p row r true own is other placed =
    let a = place_exact _ p (and_parts (has_class c row.service) _ own).1 in
    let b = place_exact _ p (and_parts (has_class c r.service) _ placed).1 in
    let same : service_number row ≡ service_number r = ap (λ (q : Place). q.service) (a ∙ sym b) in
    absurd (true≢false (sym (eq-eqb service.0 (service_number r) (sym is ∙ same)) ∙ other))
separate_by service c p row r false own is other placed = refl

-- ---- one service less

removed_same : (own left : Bool) → (not own && (own || left)) ≡ (not own && left)
removed_same true left = refl
removed_same false left = refl

removed_other : (own other left : Bool) → (other ≡ true → own ≡ false) → (not own && (other || left)) ≡ (other || (not own && left))
removed_other true true left apart = absurd (cc (apart refl))
removed_other true false left apart = refl
removed_other false true left apart = refl
removed_other false false left apart = refl

removed_none : (own : Bool) → (not own && false) ≡ false
removed_none true = refl
removed_none false = refl

removed_by : (service : ServiceId) (c : List ℕ) (p : Place) (row r : LiveService) (rest : List LiveService) (here : Bool) → is_service service r ≡ here → service_number row ≡ service.0 → (is_service service r ≡ true → r ≡ row) →
    (not (is_placed c p row) && list_any (is_placed c p) rest) ≡ list_any (is_placed c p) (without service rest) → (not (is_placed c p row) && (is_placed c p r || list_any (is_placed c p) rest)) ≡ list_any (is_placed c p) (cond (not here) (r ∷ without service rest) (without service rest))
removed_by service c p row r rest true at is only more = rw (only at) (removed_same (is_placed c p row) (list_any (is_placed c p) rest) ∙ more)
removed_by service c p row r rest false at is only more =
    removed_other (is_placed c p row) (is_placed c p r) (list_any (is_placed c p) rest) (separate_by service c p row r (is_placed c p row) refl is at) ∙ ap (λ b. is_placed c p r || b) more

removed : (service : ServiceId) (c : List ℕ) (p : Place) (row : LiveService) (rows : List LiveService) → service_number row ≡ service.0 → All (λ r. is_service service r ≡ true → r ≡ row) rows →
    (not (is_placed c p row) && list_any (is_placed c p) rows) ≡ list_any (is_placed c p) (without service rows)
removed service c p row [] is only = removed_none (is_placed c p row)
removed service c p row (r ∷ rest) is only =
    removed_by service c p row r rest (is_service service r) refl is (All-head (λ x. is_service service x ≡ true → x ≡ row) r rest only)
    (removed service c p row rest is (All-tail (λ x. is_service service x ≡ true → x ≡ row) r rest only))

pub placed_remove : (old new : Classes) (service : ServiceId) (row : LiveService) (rows : List LiveService) → IsIndexOf old rows → Puts old new row.service.classes (place_of row.service) false → service_number row ≡ service.0 →
    All (λ r. is_service service r ≡ true → r ≡ row) rows → IsIndexOf new (without service rows)
placed_remove old new service row rows index taken is only = λ c p.
    taken_held old new row.service.classes (place_of row.service) taken c p ∙ ap (λ b. not (is_placed c p row) && b) (index c p) ∙ removed service c p row rows is only

-- ---- a service changed

changed_none : (own new : Bool) → ((false && new) || (not own && false)) ≡ false
changed_none true new = refl
changed_none false new = refl

changed_same : (own new some left : Bool) → (((true || some) && new) || (not own && (own || left))) ≡ (new || ((some && new) || (not own && left)))
changed_same own true some left = refl
changed_same true false true left = refl
changed_same true false false left = refl
changed_same false false true left = refl
changed_same false false false left = refl

or_swap : (a b c : Bool) → (a || (b || c)) ≡ (b || (a || c))
or_swap true true c = refl
or_swap true false c = refl
or_swap false true c = refl
or_swap false false c = refl

changed_by : (service : ServiceId) (f : LiveService → LiveService) (c : List ℕ) (p : Place) (row r : LiveService) (rest : List LiveService) (here : Bool) → is_service service r ≡ here → service_number row ≡ service.0 → (is_service service r ≡ true → r ≡ row) →
    ((list_any (is_service service) rest && is_placed c p (f row)) || (not (is_placed c p row) && list_any (is_placed c p) rest)) ≡ list_any (is_placed c p) (change service f rest) →
    (((here || list_any (is_service service) rest) && is_placed c p (f row)) || (not (is_placed c p row) && (is_placed c p r || list_any (is_placed c p) rest))) ≡ list_any (is_placed c p) (cond here (f r) r ∷ change service f rest)
changed_by service f c p row r rest true at is only more =
    rw (only at) (changed_same (is_placed c p row) (is_placed c p (f row)) (list_any (is_service service) rest) (list_any (is_placed c p) rest) ∙ ap (λ b. is_placed c p (f row) || b) more)
changed_by service f c p row r rest false at is only more =
    ap (λ b. (list_any (is_service service) rest && is_placed c p (f row)) || b)
    (removed_other (is_placed c p row) (is_placed c p r) (list_any (is_placed c p) rest) (separate_by service c p row r (is_placed c p row) refl is at))
    ∙ or_swap (list_any (is_service service) rest && is_placed c p (f row)) (is_placed c p r) (not (is_placed c p row) && list_any (is_placed c p) rest)
    ∙ ap (λ b. is_placed c p r || b) more

changed : (service : ServiceId) (f : LiveService → LiveService) (c : List ℕ) (p : Place) (row : LiveService) (rows : List LiveService) → service_number row ≡ service.0 → All (λ r. is_service service r ≡ true → r ≡ row) rows →
    ((list_any (is_service service) rows && is_placed c p (f row)) || (not (is_placed c p row) && list_any (is_placed c p) rows)) ≡ list_any (is_placed c p) (change service f rows)
changed service f c p row [] is only = changed_none (is_placed c p row) (is_placed c p (f row))
changed service f c p row (r ∷ rest) is only =
    changed_by service f c p row r rest (is_service service r) refl is (All-head (λ x. is_service service x ≡ true → x ≡ row) r rest only)
    (changed service f c p row rest is (All-tail (λ x. is_service service x ≡ true → x ≡ row) r rest only))

-- a service that moves with its classes
pub placed_change : (old new : Classes) (service : ServiceId) (f : LiveService → LiveService) (row : LiveService) (rows : List LiveService) → IsIndexOf old rows → Moves old new row.service.classes (place_of row.service) (place_of (f row).service) →
    (f row).service.classes ≡ row.service.classes → service_number row ≡ service.0 → All (λ r. is_service service r ≡ true → r ≡ row) rows → list_any (is_service service) rows ≡ true → IsIndexOf new (change service f rows)
placed_change old new service f row rows index moved classes is only some = λ c p.
    moved_held old new row.service.classes (place_of row.service) (place_of (f row).service) moved c p ∙ ap (λ b. (is_among row.service.classes c && same_place (place_of (f row).service) p) || (not (is_placed c p row) && b)) (index c p)
    ∙ ap (λ l. (is_among l c && same_place (place_of (f row).service) p) || (not (is_placed c p row) && list_any (is_placed c p) rows)) (sym classes)
    ∙ ap (λ b. (b && is_placed c p (f row)) || (not (is_placed c p row) && list_any (is_placed c p) rows)) (sym some)
    ∙ changed service f c p row rows is only

kept_by : (f : LiveService → LiveService) (c : List ℕ) (p : Place) (r : LiveService) (here : Bool) → (f r).service ≡ r.service → is_placed c p (cond here (f r) r) ≡ is_placed c p r
kept_by f c p r true same = ap (λ s. is_among s.classes c && same_place (place_of s) p) same
kept_by f c p r false same = refl

placed_alike : (service : ServiceId) (f : LiveService → LiveService) (c : List ℕ) (p : Place) (rows : List LiveService) → All (λ r. (f r).service ≡ r.service) rows → list_any (is_placed c p) (change service f rows) ≡ list_any (is_placed c p) rows
placed_alike service f c p [] same = refl
placed_alike service f c p (r ∷ rest) same =
    ap (λ b. b || list_any (is_placed c p) (change service f rest)) (kept_by f c p r (is_service service r) (All-head (λ x. (f x).service ≡ x.service) r rest same))
    ∙ ap (λ b. is_placed c p r || b) (placed_alike service f c p rest (All-tail (λ x. (f x).service ≡ x.service) r rest same))

-- a service whose uses change
pub index_kept : (issued : ℕ) (service : ServiceId) (old new : LiveService) (entries : List (ℕ × LiveService)) (classes : Classes) → AreKept issued entries → IsIndexOf classes (values_of entries) → new.service ≡ old.service → lookup (nat_eq service.0) entries ≡ Some old →
    IsIndexOf classes (values_of (set_value (nat_eq service.0) entries new))
index_kept issued service old new entries classes kept index same found =
    rw (uses_set issued service old new entries kept same found) (λ c p. index c p ∙ sym (placed_alike service (λ row. record new { service = row.service }) c p (values_of entries) (λ k d within. refl)))

-- ---- services at places

-- a service of the class is held at its place
pub held_at : (classes : Classes) (c : List ℕ) (rows : List LiveService) (k : ℕ) (d : LiveService) → IsIndexOf classes rows → k < length rows → has_class c (get_or rows k d).service ≡ true → holds classes c (place_of (get_or rows k d).service) ≡ true
held_at classes c rows k d index within has =
    index c (place_of (get_or rows k d).service)
    ∙ list_any_at (is_placed c (place_of (get_or rows k d).service)) rows k d within (and_from (has_class c (get_or rows k d).service) _ has (place_itself (place_of (get_or rows k d).service)))

-- a service of the class that stands at the place
pub record IsAt (c : List ℕ) (rows : List LiveService) (place : Place) : Type 0 where
  pub row : LiveService
  pub live : Contains rows row
  pub has : has_class c row.service ≡ true
  pub is : place_of row.service ≡ place

pub row_held : (classes : Classes) (c : List ℕ) (rows : List LiveService) (place : Place) → IsIndexOf classes rows → holds classes c place ≡ true → IsAt c rows place
row_held classes c rows place index held =
    let some = Any-from_list_any (is_placed c place) rows (sym (index c place) ∙ held) in
    let parts = and_parts (has_class c some.1.service) _ some.4 in
    record { row = some.1; live = (some.0, some.2, some.3); has = parts.0; is = place_exact (place_of some.1.service) place parts.1 }

pub Contains-services : (rows : List LiveService) (row : LiveService) → Contains rows row → Contains (services_in rows) row.service
Contains-services rows row (k, within, is) =
    (k, omega (arith, length-map rows (λ r. r.service), within), get_or-map (λ r. r.service) rows k row row.service within ∙ ap (λ r. r.service) is)
