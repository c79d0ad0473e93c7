-- A registry that stands for a history, after one more entry.
use Rattle.std.proofs.Common.{◌≡◌, ◌+◌, ◌-◌, ◌≤◌, ◌<◌, ℕ, List, [], ◌∷◌, ◌++◌, length, length-append, map, suc, append-nil, ap, sym, subst, ◌∙◌, refl, arith}
use Rattle.std.specs.Prelude.{Bool, true, false, cond, nat_lt, not, ◌==◌, ◌&&◌, Option, None, Some, filter, find, unwrap_or, All}
use Rattle.std.specs.Bool.{OnTrue, OnFalse}
use Rattle.std.specs.Map.{lookup}
use Rattle.std.specs.Option.{option_map_or}
use Rattle.std.proofs.lemmas.Bool.{eq-eqb, eqb-true, ltb-true}
use Rattle.std.proofs.lemmas.List.{length-map}
use Rattle.std.proofs.lemmas.List.Elements.{All-head, All-tail}
use Rattle.osgi_base.specs.declared.ids.BundleId.{BundleId}
use Rattle.osgi_base.specs.declared.ids.ServiceId.{ServiceId}
use Rattle.osgi_base.specs.declared.ids.Tag.{Tag}
use Rattle.osgi_model.specs.declared.filter.Filter.{Filter}
use Rattle.osgi_model.specs.declared.value.Attribute.{Attribute}
use Rattle.osgi_ops.specs.Cleaning.{cleaned_by, cleans}
use Rattle.osgi_ops.specs.laws.Services.{gets-push, later, left_by, live-push, one_where, registered-push, service-push, ungets-push}
use Rattle.osgi_ops.specs.Properties.{with_framework}
use Rattle.osgi_ops.specs.Services.{gets, given_by, given_last, gets_object, is_service, is_unget, live_services, Registered, registered, registered_by, service_now, takes_out, ungets, uses_without_makes}
use Rattle.osgi_ops.specs.declared.entry.Entry.{Entry}
use Rattle.osgi_ops.specs.declared.op.Op.{Op}
use Rattle.osgi_ops.specs.declared.op.Op.TheVariants as op
use Rattle.osgi_ops.specs.declared.reply.Reply.{Reply}
use Rattle.osgi_ops.specs.declared.reply.Reply.TheVariants as answer
use Rattle.osgi_ops.specs.declared.refusal.Refusal.{Refusal}
use Rattle.osgi_ops.specs.declared.scope.Scope.{Scope}
use Rattle.osgi_ops.specs.declared.service.Service.{Service}
use Rattle.osgi_ops.specs.declared.service.ServiceRow.{ServiceRow}
use Rattle.osgi_registry.specs.Rows.{change, count_of, is_owned, is_service as is_row_of, new_row, others, RegistryRows, LiveService, released, row_at, services_in, used_less, used_more, with_count, with_properties, without, without_user}
use Rattle.osgi_registry.specs.Stands.{AreRowsOf, IsRowOf, StandsFor}

-- ---- rows one by one

rows_map : (f : LiveService → LiveService) (g : Registered → Registered) → ((row : LiveService) (r : Registered) → IsRowOf row r → IsRowOf (f row) (g r)) → (rows : List LiveService) (list : List Registered) → AreRowsOf rows list → AreRowsOf (map f rows) (map g list)
rows_map f g each [] [] are = tt
rows_map f g each [] (r ∷ list) are = absurd are
rows_map f g each (row ∷ rows) [] are = absurd are
rows_map f g each (row ∷ rows) (r ∷ list) are = (each row r are.0, rows_map f g each rows list are.1)

rows_append : (rows more : List LiveService) (list others : List Registered) → AreRowsOf rows list → AreRowsOf more others → AreRowsOf (rows ++ more) (list ++ others)
rows_append [] more [] others are new = new
rows_append [] more (r ∷ list) others are new = absurd are
rows_append (row ∷ rows) more [] others are new = absurd are
rows_append (row ∷ rows) more (r ∷ list) others are new = (are.0, rows_append rows more list others are.1 new)

filter_by : (p : Bool) (q : Bool) (row : LiveService) (r : Registered) (rows : List LiveService) (list : List Registered) → p ≡ q → IsRowOf row r → AreRowsOf rows list → AreRowsOf (cond p (row ∷ rows) rows) (cond q (r ∷ list) list)
filter_by true true row r rows list same is are = (is, are)
filter_by true false row r rows list same is are = absurd (cc same)
filter_by false true row r rows list same is are = absurd (cc same)
filter_by false false row r rows list same is are = are

-- those that pass, where both tests say the same
pub rows_filter : (p : LiveService → Bool) (q : Registered → Bool) → ((row : LiveService) (r : Registered) → IsRowOf row r → p row ≡ q r) → (rows : List LiveService) (list : List Registered) → AreRowsOf rows list → AreRowsOf (filter p rows) (filter q list)
rows_filter p q each [] [] are = tt
rows_filter p q each [] (r ∷ list) are = absurd are
rows_filter p q each (row ∷ rows) [] are = absurd are
rows_filter p q each (row ∷ rows) (r ∷ list) are = filter_by (p row) (q r) row r (filter p rows) (filter q list) (each row r are.0) are.0 (rows_filter p q each rows list are.1)

-- as many of one as of the other
pub rows_length : (rows : List LiveService) (list : List Registered) → AreRowsOf rows list → length rows ≡ length list
rows_length [] [] are = refl
rows_length [] (r ∷ list) are = absurd are
rows_length (row ∷ rows) [] are = absurd are
rows_length (row ∷ rows) (r ∷ list) are = ap suc (rows_length rows list are.1)

-- and the same services
pub rows_services : (rows : List LiveService) (list : List Registered) → AreRowsOf rows list → services_in rows ≡ map service_now list
rows_services [] [] are = refl
rows_services [] (r ∷ list) are = absurd are
rows_services (row ∷ rows) [] are = absurd are
rows_services (row ∷ rows) (r ∷ list) are = λ i. are.0.service i ∷ rows_services rows list are.1 i

-- the row of a service and the service, found by its id
pub data Found : Option LiveService → Option Registered → Type 0 where
  nowhere : Found None None
  there : {row : LiveService} {r : Registered} → IsRowOf row r → Found (Some row) (Some r)

found_by : (p q : Bool) (row : LiveService) (r : Registered) (at : Option LiveService) (of : Option Registered) → p ≡ q → IsRowOf row r → Found at of → Found (cond p (Some row) at) (cond q (Some r) of)
found_by true true row r at of same is found = there is
found_by true false row r at of same is found = absurd (cc same)
found_by false true row r at of same is found = absurd (cc same)
found_by false false row r at of same is found = found

same_service : (service : ServiceId) (row : LiveService) (r : Registered) → IsRowOf row r → is_row_of service row ≡ is_service service r
same_service service row r is = ap (λ (s : Service). service.0 == s.service.0) is.service

pub rows_found : (service : ServiceId) (rows : List LiveService) (list : List Registered) → AreRowsOf rows list → Found (row_at service rows) (find (is_service service) list)
rows_found service [] [] are = nowhere
rows_found service [] (r ∷ list) are = absurd are
rows_found service (row ∷ rows) [] are = absurd are
rows_found service (row ∷ rows) (r ∷ list) are =
    found_by (is_row_of service row) (is_service service r) row r (row_at service rows) (find (is_service service) list) (same_service service row r are.0) are.0 (rows_found service rows list are.1)

-- ---- one row after one more entry

-- an entry that says nothing of services and their uses
pub record IsQuiet (e : Entry) : Type 0 where
  pub registers : (earlier : ℕ) (since : List Entry) → registered_by earlier e.op e.reply since ≡ []
  pub takes : (service : ServiceId) (owner : BundleId) → takes_out service owner e.op e.reply ≡ false
  pub gives : (service : ServiceId) → given_by service e.op e.reply ≡ None
  pub gets : (user : BundleId) (service : ServiceId) → gets_object user service e.op e.reply ≡ false
  pub ungets : (user : BundleId) (service : ServiceId) → is_unget user service e.op e.reply ≡ false
  pub cleans : cleaned_by e.op e.reply ≡ None

-- no bundle is cleaned where none is
none_cleaned : (e : Entry) → cleaned_by e.op e.reply ≡ None → (bundle : BundleId) → cleans bundle e.op e.reply ≡ false
none_cleaned e none bundle = ap (λ (cleaned : Option BundleId). option_map_or (λ (b : BundleId). b.0 == bundle.0) cleaned false) none

service_kept : (row : LiveService) (r : Registered) (e : Entry) → row.service ≡ service_now r → given_by r.service e.op e.reply ≡ None → row.service ≡ service_now (later e r)
service_kept row r e is none = is ∙ sym (service-push r e ∙ ap (λ o. record (service_now r) { properties = with_framework (unwrap_or o (given_last r)) r.classes r.scope r.service r.owner }) none)

-- of a user that is not cleaned
gets_more : (user : BundleId) (r : Registered) (e : Entry) → cleans user e.op e.reply ≡ false → gets user (later e r) ≡ gets user r + one_where (gets_object user r.service e.op e.reply)
gets_more user r e kept = gets-push user r e ∙ ap (λ cleaned. cond cleaned 0 (gets user r + one_where (gets_object user r.service e.op e.reply))) kept

ungets_more : (user : BundleId) (r : Registered) (e : Entry) → cleans user e.op e.reply ≡ false → ungets user (later e r) ≡ ungets user r + one_where (is_unget user r.service e.op e.reply)
ungets_more user r e kept = ungets-push user r e ∙ ap (λ cleaned. cond cleaned 0 (ungets user r + one_where (is_unget user r.service e.op e.reply))) kept

gets_kept : (user : BundleId) (r : Registered) (e : Entry) → cleans user e.op e.reply ≡ false → gets_object user r.service e.op e.reply ≡ false → gets user (later e r) ≡ gets user r
gets_kept user r e kept none = gets_more user r e kept ∙ (rw none (let same : gets user r + 0 ≡ gets user r = omega arith in same))

ungets_kept : (user : BundleId) (r : Registered) (e : Entry) → cleans user e.op e.reply ≡ false → is_unget user r.service e.op e.reply ≡ false → ungets user (later e r) ≡ ungets user r
ungets_kept user r e kept none = ungets_more user r e kept ∙ (rw none (let same : ungets user r + 0 ≡ ungets user r = omega arith in same))

-- an entry that cleans no user, and is no use of the service, leaves what each user holds
uses_kept : (e : Entry) (row : LiveService) (r : Registered) (user : BundleId) → cleans user e.op e.reply ≡ false → gets_object user r.service e.op e.reply ≡ false → is_unget user r.service e.op e.reply ≡ false → IsRowOf row r → count_of user row.uses ≡ uses_without_makes user (later e r)
uses_kept e row r user kept no_get no_unget is = is.uses user ∙ (λ i. sym (gets_kept user r e kept no_get) i - sym (ungets_kept user r e kept no_unget) i)

paid_kept : (e : Entry) (row : LiveService) (r : Registered) (user : BundleId) → cleans user e.op e.reply ≡ false → gets_object user r.service e.op e.reply ≡ false → is_unget user r.service e.op e.reply ≡ false → IsRowOf row r → ungets user (later e r) ≤ gets user (later e r)
paid_kept e row r user kept no_get no_unget is = let p = is.paid user in omega (arith, p, gets_kept user r e kept no_get, ungets_kept user r e kept no_unget)

-- an entry that cleans nobody, and is no use of the service and no change of it
quiet_row : (e : Entry) (row : LiveService) (r : Registered) → ((user : BundleId) → cleans user e.op e.reply ≡ false) → ((user : BundleId) → gets_object user r.service e.op e.reply ≡ false) →
    ((user : BundleId) → is_unget user r.service e.op e.reply ≡ false) → given_by r.service e.op e.reply ≡ None → IsRowOf row r → IsRowOf row (later e r)
quiet_row e row r kept no_get no_unget no_given is = record {
  service = service_kept row r e is.service no_given;
  scope = is.scope;
  uses = λ user. uses_kept e row r user (kept user) (no_get user) (no_unget user) is;
  paid = λ user. paid_kept e row r user (kept user) (no_get user) (no_unget user) is;
}

all_left : (e : Entry) (list : List Registered) → ((service : ServiceId) (owner : BundleId) → takes_out service owner e.op e.reply ≡ false) → left_by e list ≡ list
all_left e [] none = refl
all_left e (r ∷ rest) none = rw (none r.service r.owner) (ap (λ l. r ∷ l) (all_left e rest none))

map_same : {A : Type 0} (list : List A) → map (λ a. a) list ≡ list
map_same [] = refl
map_same (a ∷ rest) = ap (λ l. a ∷ l) (map_same rest)

length_push : (history : List Entry) (e : Entry) → length (registered (history ++ e ∷ [])) ≡ length (registered history) + length (registered_by (length (registered history)) e.op e.reply [])
length_push history e =
    ap length (registered-push history e)
    ∙ length-append (map (later e) (registered history)) (registered_by (length (registered history)) e.op e.reply [])
    ∙ ap (λ n. n + length (registered_by (length (registered history)) e.op e.reply [])) (length-map (registered history) (later e))

-- the rows stand for the history with an entry that leaves and changes services as they do
stands_by : (history : List Entry) (old new : RegistryRows) (e : Entry) → StandsFor history old → AreRowsOf new.rows (map (later e) (left_by e (live_services history)) ++ registered_by (length (registered history)) e.op e.reply []) →
    new.issued ≡ old.issued + length (registered_by (length (registered history)) e.op e.reply []) → StandsFor (history ++ e ∷ []) new
stands_by history old new e stands rows issued = record {
  rows = subst (λ l. AreRowsOf new.rows l) (sym (live-push history e)) rows;
  issued = issued ∙ ap (λ n. n + length (registered_by (length (registered history)) e.op e.reply [])) stands.issued ∙ sym (length_push history e);
}

-- where no service is registered or taken out
changed : (history : List Entry) (old new : RegistryRows) (e : Entry) → StandsFor history old → registered_by (length (registered history)) e.op e.reply [] ≡ [] →
    ((service : ServiceId) (owner : BundleId) → takes_out service owner e.op e.reply ≡ false) → AreRowsOf new.rows (map (later e) (live_services history)) → new.issued ≡ old.issued → StandsFor (history ++ e ∷ []) new
changed history old new e stands registers takes rows issued =
    stands_by history old new e stands
    (subst (λ l. AreRowsOf new.rows (map (later e) (left_by e (live_services history)) ++ l)) (sym registers)
    (subst (λ l. AreRowsOf new.rows l) (sym (append-nil (map (later e) (left_by e (live_services history)))))
    (subst (λ l. AreRowsOf new.rows (map (later e) l)) (sym (all_left e (live_services history) takes)) rows)))
    (issued ∙ let same : old.issued ≡ old.issued + 0 = omega arith in same ∙ ap (λ l. old.issued + length l) (sym registers))

-- an entry that says nothing of services leaves what the rows stand for
pub stands_quiet : (history : List Entry) (registry : RegistryRows) (e : Entry) → StandsFor history registry → IsQuiet e → StandsFor (history ++ e ∷ []) registry
stands_quiet history registry e stands quiet =
    changed history registry registry e stands (quiet.registers (length (registered history)) []) quiet.takes
    (subst (λ rows. AreRowsOf rows (map (later e) (live_services history))) (map_same registry.rows)
    (rows_map (λ row. row) (later e) (λ row r is. quiet_row e row r (none_cleaned e quiet.cleans) (λ user. quiet.gets user r.service) (λ user. quiet.ungets user r.service) (quiet.gives r.service) is) registry.rows (live_services history) stands.rows)) refl

-- ---- a registration

pub stands_registered : (history : List Entry) (old new : RegistryRows) (tag : Tag) (owner : BundleId) (classes : List (List ℕ)) (object : List ℕ) (scope : Scope) (properties : List Attribute) (service : ServiceId) → StandsFor history old →
    service.0 ≡ old.issued + 1 → new.rows ≡ old.rows ++ new_row service owner classes object scope properties ∷ [] → new.issued ≡ old.issued + 1 →
    StandsFor (history ++ record { tag = tag; op = op.Register owner classes object scope properties; reply = answer.Service service } ∷ []) new
stands_registered history old new tag owner classes object scope properties service stands id rows issued =
    let e : Entry = record { tag = tag; op = op.Register owner classes object scope properties; reply = answer.Service service } in
    let r : ServiceId → Registered = λ s. record { service = s; owner = owner; classes = classes; object = object; scope = scope; given = properties; since = [] } in
    let first : IsRowOf (new_row service owner classes object scope properties) (r service) = record { service = refl; scope = refl; uses = λ user. refl; paid = λ user. omega arith } in
    let number : length (registered history) + 1 ≡ service.0 = ap (λ n. n + 1) (sym stands.issued) ∙ sym id in
    let one : r service ∷ [] ≡ registered_by (length (registered history)) e.op e.reply [] = λ i. r (record { 0 = sym number i }) ∷ [] in
    stands_by history old new e stands
    (subst (λ l. AreRowsOf l (map (later e) (left_by e (live_services history)) ++ registered_by (length (registered history)) e.op e.reply [])) (sym rows)
    (subst (λ l. AreRowsOf (old.rows ++ new_row service owner classes object scope properties ∷ []) (map (later e) (left_by e (live_services history)) ++ l)) one
    (rows_append old.rows (new_row service owner classes object scope properties ∷ []) (map (later e) (left_by e (live_services history))) (r service ∷ [])
    (subst (λ l. AreRowsOf old.rows (map (later e) l)) (sym (all_left e (live_services history) (λ s o. refl)))
    (subst (λ l. AreRowsOf l (map (later e) (live_services history))) (map_same old.rows)
    (rows_map (λ row. row) (later e) (λ row x is. quiet_row e row x (λ user. refl) (λ user. refl) (λ user. refl) refl is) old.rows (live_services history) stands.rows)))
    (first, tt))))
    issued

-- ---- a change of properties

modified_by : (e : Entry) (service : ServiceId) (properties : List Attribute) (row : LiveService) (r : Registered) (here : Bool) → is_service service r ≡ here → given_by r.service e.op e.reply ≡ cond here (Some properties) None →
    ((user : BundleId) → cleans user e.op e.reply ≡ false) → ((user : BundleId) → gets_object user r.service e.op e.reply ≡ false) → ((user : BundleId) → is_unget user r.service e.op e.reply ≡ false) → IsRowOf row r →
    IsRowOf (cond here (with_properties properties row) row) (later e r)
modified_by e service properties row r true here gives kept no_get no_unget is = record {
  service =
      (λ i. record (is.service i) { properties = with_framework properties (is.service i).classes (is.scope i) (is.service i).service (is.service i).owner })
      ∙ sym (service-push r e ∙ ap (λ o. record (service_now r) { properties = with_framework (unwrap_or o (given_last r)) r.classes r.scope r.service r.owner }) gives);
  scope = is.scope;
  uses = λ user. uses_kept e row r user (kept user) (no_get user) (no_unget user) is;
  paid = λ user. paid_kept e row r user (kept user) (no_get user) (no_unget user) is;
}
modified_by e service properties row r false here gives kept no_get no_unget is = quiet_row e row r kept no_get no_unget gives is

pub stands_modified : (history : List Entry) (old new : RegistryRows) (tag : Tag) (owner : BundleId) (service : ServiceId) (properties : List Attribute) → StandsFor history old →
    new.rows ≡ change service (with_properties properties) old.rows → new.issued ≡ old.issued → StandsFor (history ++ record { tag = tag; op = op.Modify owner service properties; reply = answer.Done } ∷ []) new
stands_modified history old new tag owner service properties stands rows issued =
    let e : Entry = record { tag = tag; op = op.Modify owner service properties; reply = answer.Done } in
    changed history old new e stands refl (λ s o. refl)
    (subst (λ l. AreRowsOf l (map (later e) (live_services history))) (sym rows)
    (rows_map (λ row. cond (is_row_of service row) (with_properties properties row) row) (later e)
    (λ row r is.
    subst (λ b. IsRowOf (cond b (with_properties properties row) row) (later e r)) (sym (same_service service row r is))
    (modified_by e service properties row r (is_service service r) refl refl (λ user. refl) (λ user. refl) (λ user. refl) is)) old.rows (live_services history) stands.rows)) issued

-- ---- a service taken out

pub stands_taken : (history : List Entry) (old new : RegistryRows) (tag : Tag) (owner : BundleId) (service : ServiceId) → StandsFor history old → new.rows ≡ without service old.rows → new.issued ≡ old.issued →
    StandsFor (history ++ record { tag = tag; op = op.Unregister owner service; reply = answer.Done } ∷ []) new
stands_taken history old new tag owner service stands rows issued =
    let e : Entry = record { tag = tag; op = op.Unregister owner service; reply = answer.Done } in
    stands_by history old new e stands
    (subst (λ l. AreRowsOf new.rows l) (sym (append-nil (map (later e) (left_by e (live_services history)))))
    (subst (λ l. AreRowsOf l (map (later e) (left_by e (live_services history)))) (map_same (without service old.rows) ∙ sym rows)
    (rows_map (λ row. row) (later e) (λ row r is. quiet_row e row r (λ user. refl) (λ user. refl) (λ user. refl) refl is) (without service old.rows) (left_by e (live_services history))
    (rows_filter (λ row. not (is_row_of service row)) (λ r. not (takes_out r.service r.owner e.op e.reply)) (λ row r is. ap not (same_service service row r is)) old.rows (live_services history) stands.rows))))
    (issued ∙ (let same : old.issued ≡ old.issued + 0 = omega arith in same))

-- ---- uses

counted_by : (user other first count held : ℕ) (left more : Option ℕ) (uf of uo : Bool) → (user == first) ≡ uf → (other == first) ≡ of → (user == other) ≡ uo → unwrap_or more 0 ≡ cond uo count (unwrap_or left 0) →
    cond uf (unwrap_or (cond of (Some count) left) 0) (unwrap_or (cond of (Some held) more) 0) ≡ cond uo count (unwrap_or (cond of (Some held) left) 0)
counted_by user other first count held left more true true true a b c is = refl
counted_by user other first count held left more true true false a b c is = absurd (cc (c, eq-eqb user other (eqb-true user first a ∙ sym (eqb-true other first b))))
counted_by user other first count held left more true false true a b c is = absurd (cc (b, eq-eqb other first (sym (eqb-true user other c) ∙ eqb-true user first a)))
counted_by user other first count held left more true false false a b c is = refl
counted_by user other first count held left more false true true a b c is = absurd (cc (a, eq-eqb user first (eqb-true user other c ∙ eqb-true other first b)))
counted_by user other first count held left more false true false a b c is = refl
counted_by user other first count held left more false false uo a b c is = is

count_cond : (other : BundleId) (here : Bool) (a b : List (ℕ × ℕ)) → count_of other (cond here a b) ≡ cond here (count_of other a) (count_of other b)
count_cond other true a b = refl
count_cond other false a b = refl

flip_by : (a b : ℕ) (ab ba : Bool) → (a == b) ≡ ab → (b == a) ≡ ba → ab ≡ ba
flip_by a b true true first second = refl
flip_by a b true false first second = absurd (cc (second, eq-eqb b a (sym (eqb-true a b first))))
flip_by a b false true first second = absurd (cc (first, eq-eqb a b (sym (eqb-true b a second))))
flip_by a b false false first second = refl

flip : (a b : ℕ) → (a == b) ≡ (b == a)
flip a b = flip_by a b (a == b) (b == a) refl refl

-- a user's count is put, and another's stays
pub count-with : (user other : BundleId) (count : ℕ) (uses : List (ℕ × ℕ)) → count_of other (with_count user count uses) ≡ cond (user.0 == other.0) count (count_of other uses)
count-with user other count [] = ap (λ b. unwrap_or (cond b (Some count) None) 0) (flip other.0 user.0) ∙ out (user.0 == other.0)
  where
    out : (b : Bool) → unwrap_or (cond b (Some count) None) 0 ≡ cond b count 0
    out true = refl
    out false = refl
count-with user other count (first ∷ rest) =
    count_cond other (user.0 == first.0) ((first.0, count) ∷ rest) (first ∷ with_count user count rest)
    ∙ counted_by user.0 other.0 first.0 count first.1 (lookup (λ o. other.0 == o) rest) (lookup (λ o. other.0 == o) (with_count user count rest)) (user.0 == first.0) (other.0 == first.0) (user.0 == other.0) refl refl refl
    (count-with user other count rest)

same_count : (user other : BundleId) (uses : List (ℕ × ℕ)) → user.0 ≡ other.0 → count_of user uses ≡ count_of other uses
same_count user other uses is = ap (λ n. unwrap_or (lookup (λ o. n == o) uses) 0) is

and_false : (b : Bool) → (b && false) ≡ false
and_false true = refl
and_false false = refl

and_true : (b : Bool) → (b && true) ≡ b
and_true true = refl
and_true false = refl

-- ---- one use more

more_by : (user other : BundleId) (row : LiveService) (r : Registered) (e : Entry) (own : Bool) → (user.0 == other.0) ≡ own → cleans other e.op e.reply ≡ false → gets_object other r.service e.op e.reply ≡ own → is_unget other r.service e.op e.reply ≡ false → IsRowOf row r →
    cond own (count_of user row.uses + 1) (count_of other row.uses) ≡ uses_without_makes other (later e r)
more_by user other row r e true own kept get no_unget is =
    let held : count_of other row.uses ≡ uses_without_makes other r = is.uses other in
    let same : count_of user row.uses ≡ count_of other row.uses = same_count user other row.uses (eqb-true user.0 other.0 own) in
    let paid = is.paid other in
    let more : gets other (later e r) ≡ gets other r + 1 = gets_more other r e kept ∙ ap (λ b. gets other r + one_where b) get in
    let less : ungets other (later e r) ≡ ungets other r = ungets_kept other r e kept no_unget in
    rw (more, less, same, held) (omega (arith, paid))
more_by user other row r e false own kept get no_unget is = uses_kept e row r other kept get no_unget is

used_by : (tag : Tag) (user : BundleId) (service : ServiceId) (text : List ℕ) (row : LiveService) (r : Registered) (here : Bool) → is_service service r ≡ here → IsRowOf row r →
    IsRowOf (cond here (used_more user row) row) (later (record { tag = tag; op = op.Get user service; reply = answer.Object text }) r)
used_by tag user service text row r true here is =
    let e : Entry = record { tag = tag; op = op.Get user service; reply = answer.Object text } in
    let get : (other : BundleId) → gets_object other r.service e.op e.reply ≡ (user.0 == other.0) = λ other. ap (λ b. (user.0 == other.0) && b) here ∙ and_true (user.0 == other.0) in
    record {
      service = service_kept row r e is.service refl;
      scope = is.scope;
      uses = λ other. count-with user other (count_of user row.uses + 1) row.uses ∙ more_by user other row r e (user.0 == other.0) refl refl (get other) refl is;
      paid = λ other. let p = is.paid other in omega (arith, p, gets_more other r e refl, ungets_kept other r e refl refl);
    }
used_by tag user service text row r false here is =
    let e : Entry = record { tag = tag; op = op.Get user service; reply = answer.Object text } in
    quiet_row e row r (λ other. refl) (λ other. ap (λ b. (user.0 == other.0) && b) here ∙ and_false (user.0 == other.0)) (λ other. refl) refl is

pub stands_used : (history : List Entry) (old new : RegistryRows) (tag : Tag) (user : BundleId) (service : ServiceId) (text : List ℕ) → StandsFor history old → new.rows ≡ change service (used_more user) old.rows → new.issued ≡ old.issued →
    StandsFor (history ++ record { tag = tag; op = op.Get user service; reply = answer.Object text } ∷ []) new
stands_used history old new tag user service text stands rows issued =
    let e : Entry = record { tag = tag; op = op.Get user service; reply = answer.Object text } in
    changed history old new e stands refl (λ s o. refl)
    (subst (λ l. AreRowsOf l (map (later e) (live_services history))) (sym rows)
    (rows_map (λ row. cond (is_row_of service row) (used_more user row) row) (later e)
    (λ row r is. subst (λ b. IsRowOf (cond b (used_more user row) row) (later e r)) (sym (same_service service row r is)) (used_by tag user service text row r (is_service service r) refl is)) old.rows (live_services history) stands.rows))
    issued

-- ---- one use less

less_by : (user other : BundleId) (row : LiveService) (r : Registered) (e : Entry) (own : Bool) → (user.0 == other.0) ≡ own → cleans other e.op e.reply ≡ false → is_unget other r.service e.op e.reply ≡ own → gets_object other r.service e.op e.reply ≡ false → IsRowOf row r →
    cond own (count_of user row.uses - 1) (count_of other row.uses) ≡ uses_without_makes other (later e r)
less_by user other row r e true own kept unget no_get is =
    let held : count_of other row.uses ≡ uses_without_makes other r = is.uses other in
    let same : count_of user row.uses ≡ count_of other row.uses = same_count user other row.uses (eqb-true user.0 other.0 own) in
    let more : ungets other (later e r) ≡ ungets other r + 1 = ungets_more other r e kept ∙ ap (λ b. ungets other r + one_where b) unget in
    let less : gets other (later e r) ≡ gets other r = gets_kept other r e kept no_get in
    rw (more, less, same, held) (omega arith)
less_by user other row r e false own kept unget no_get is = uses_kept e row r other kept no_get unget is

paid_by : (user other : BundleId) (row : LiveService) (r : Registered) (e : Entry) (own : Bool) → (user.0 == other.0) ≡ own → cleans other e.op e.reply ≡ false → is_unget other r.service e.op e.reply ≡ own → gets_object other r.service e.op e.reply ≡ false → IsRowOf row r →
    0 < count_of user row.uses → ungets other (later e r) ≤ gets other (later e r)
paid_by user other row r e true own kept unget no_get is held =
    let uses : count_of other row.uses ≡ uses_without_makes other r = is.uses other in
    let same : count_of user row.uses ≡ count_of other row.uses = same_count user other row.uses (eqb-true user.0 other.0 own) in
    let more : ungets other (later e r) ≡ ungets other r + 1 = ungets_more other r e kept ∙ ap (λ b. ungets other r + one_where b) unget in
    omega (arith, held, uses, same, more, gets_kept other r e kept no_get)
paid_by user other row r e false own kept unget no_get is held = paid_kept e row r other kept no_get unget is

-- the user holds each service of this id
abbrev pub Holds : BundleId → ServiceId → LiveService → Type 0
Holds user service row = is_row_of service row ≡ true → 0 < count_of user row.uses

returned_by : (tag : Tag) (user : BundleId) (service : ServiceId) (row : LiveService) (r : Registered) (here : Bool) → is_service service r ≡ here → (here ≡ true → 0 < count_of user row.uses) → IsRowOf row r →
    IsRowOf (cond here (used_less user row) row) (later (record { tag = tag; op = op.Unget user service; reply = answer.Flag true }) r)
returned_by tag user service row r true here held is =
    let e : Entry = record { tag = tag; op = op.Unget user service; reply = answer.Flag true } in
    let unget : (other : BundleId) → is_unget other r.service e.op e.reply ≡ (user.0 == other.0) = λ other. ap (λ b. (user.0 == other.0) && b) here ∙ and_true (user.0 == other.0) in
    record {
      service = service_kept row r e is.service refl;
      scope = is.scope;
      uses = λ other. count-with user other (count_of user row.uses - 1) row.uses ∙ less_by user other row r e (user.0 == other.0) refl refl (unget other) refl is;
      paid = λ other. paid_by user other row r e (user.0 == other.0) refl refl (unget other) refl is (held refl);
    }
returned_by tag user service row r false here held is =
    let e : Entry = record { tag = tag; op = op.Unget user service; reply = answer.Flag true } in
    quiet_row e row r (λ other. refl) (λ other. refl) (λ other. ap (λ b. (user.0 == other.0) && b) here ∙ and_false (user.0 == other.0)) refl is

rows_returned : (tag : Tag) (user : BundleId) (service : ServiceId) (rows : List LiveService) (list : List Registered) → All (Holds user service) rows → AreRowsOf rows list →
    AreRowsOf (change service (used_less user) rows) (map (later (record { tag = tag; op = op.Unget user service; reply = answer.Flag true })) list)
rows_returned tag user service [] [] held are = tt
rows_returned tag user service [] (r ∷ list) held are = absurd are
rows_returned tag user service (row ∷ rows) [] held are = absurd are
rows_returned tag user service (row ∷ rows) (r ∷ list) held are =
    let e : Entry = record { tag = tag; op = op.Unget user service; reply = answer.Flag true } in
    let same = same_service service row r are.0 in (
      subst (λ b. IsRowOf (cond b (used_less user row) row) (later e r)) (sym same)
          (returned_by tag user service row r (is_service service r) refl (λ here. All-head (Holds user service) row rows held (same ∙ here)) are.0),
      rows_returned tag user service rows list (All-tail (Holds user service) row rows held) are.1,
    )

pub stands_returned : (history : List Entry) (old new : RegistryRows) (tag : Tag) (user : BundleId) (service : ServiceId) → StandsFor history old → All (Holds user service) old.rows → new.rows ≡ change service (used_less user) old.rows →
    new.issued ≡ old.issued → StandsFor (history ++ record { tag = tag; op = op.Unget user service; reply = answer.Flag true } ∷ []) new
stands_returned history old new tag user service stands held rows issued =
    let e : Entry = record { tag = tag; op = op.Unget user service; reply = answer.Flag true } in
    changed history old new e stands refl (λ s o. refl)
    (subst (λ l. AreRowsOf l (map (later e) (live_services history))) (sym rows) (rows_returned tag user service old.rows (live_services history) held stands.rows)) issued

-- an Unget that answers false
pub stands_unreturned : (history : List Entry) (registry : RegistryRows) (tag : Tag) (user : BundleId) (service : ServiceId) → StandsFor history registry →
    StandsFor (history ++ record { tag = tag; op = op.Unget user service; reply = answer.Flag false } ∷ []) registry
stands_unreturned history registry tag user service stands =
    stands_quiet history registry _ stands (record { registers = λ n since. refl; takes = λ s o. refl; gives = λ s. refl; gets = λ u s. refl; ungets = λ u s. refl; cleans = refl })

-- ---- a bundle let go

-- an entry that cleans the bundle, and says nothing else of services and their uses
record IsCleaning (bundle : BundleId) (e : Entry) : Type 0 where
  pub registers : (earlier : ℕ) → registered_by earlier e.op e.reply [] ≡ []
  pub takes : (service : ServiceId) (owner : BundleId) → takes_out service owner e.op e.reply ≡ (bundle.0 == owner.0)
  pub gives : (service : ServiceId) → given_by service e.op e.reply ≡ None
  pub gets : (user : BundleId) (service : ServiceId) → gets_object user service e.op e.reply ≡ false
  pub ungets : (user : BundleId) (service : ServiceId) → is_unget user service e.op e.reply ≡ false
  pub cleans : (user : BundleId) → cleans user e.op e.reply ≡ (bundle.0 == user.0)

cleaning : (bundle : BundleId) (e : Entry) → cleaned_by e.op e.reply ≡ Some bundle → IsCleaning bundle e
cleaning bundle e is = record {
  registers = none_registered e.op e.reply is;
  takes = λ service owner. owners_taken e.op e.reply is service owner ∙ cleaned owner;
  gives = none_given e.op e.reply is;
  gets = none_got e.op e.reply is;
  ungets = none_ungot e.op e.reply is;
  cleans = cleaned;
}
  where
    cleaned : (user : BundleId) → cleans user e.op e.reply ≡ (bundle.0 == user.0)
    cleaned user = ap (λ (o : Option BundleId). option_map_or (λ (b : BundleId). b.0 == user.0) o false) is

    none_registered : (o : Op) (reply : Reply) → cleaned_by o reply ≡ Some bundle → (earlier : ℕ) → registered_by earlier o reply [] ≡ []
    none_registered (op.Register owner classes object scope properties) reply is earlier = absurd (cc is)
    none_registered o reply is earlier = refl

    owners_taken : (o : Op) (reply : Reply) → cleaned_by o reply ≡ Some bundle → (service : ServiceId) (owner : BundleId) → takes_out service owner o reply ≡ cleans owner o reply
    owners_taken (op.Unregister by taken) reply is service owner = absurd (cc is)
    owners_taken o reply is service owner = refl

    none_given : (o : Op) (reply : Reply) → cleaned_by o reply ≡ Some bundle → (service : ServiceId) → given_by service o reply ≡ None
    none_given (op.Modify owner modified properties) reply is service = absurd (cc is)
    none_given o reply is service = refl

    none_got : (o : Op) (reply : Reply) → cleaned_by o reply ≡ Some bundle → (user : BundleId) (service : ServiceId) → gets_object user service o reply ≡ false
    none_got (op.Get by got) reply is user service = absurd (cc is)
    none_got (op.GetOwn by got) reply is user service = absurd (cc is)
    none_got o reply is user service = refl

    none_ungot : (o : Op) (reply : Reply) → cleaned_by o reply ≡ Some bundle → (user : BundleId) (service : ServiceId) → is_unget user service o reply ≡ false
    none_ungot (op.Unget by let_go) reply is user service = absurd (cc is)
    none_ungot o reply is user service = refl

unused_by : (gone user first count : ℕ) (left more : Option ℕ) (gf uf gu : Bool) → (gone == first) ≡ gf → (user == first) ≡ uf → (gone == user) ≡ gu → unwrap_or more 0 ≡ cond gu 0 (unwrap_or left 0) →
    cond (not gf) (unwrap_or (cond uf (Some count) more) 0) (unwrap_or more 0) ≡ cond gu 0 (unwrap_or (cond uf (Some count) left) 0)
unused_by gone user first count left more true true true a b c is = is
unused_by gone user first count left more true true false a b c is = absurd (cc (c, eq-eqb gone user (eqb-true gone first a ∙ sym (eqb-true user first b))))
unused_by gone user first count left more true false true a b c is = absurd (cc (b, eq-eqb user first (sym (eqb-true gone user c) ∙ eqb-true gone first a)))
unused_by gone user first count left more true false false a b c is = is
unused_by gone user first count left more false true true a b c is = absurd (cc (a, eq-eqb gone first (eqb-true gone user c ∙ eqb-true user first b)))
unused_by gone user first count left more false true false a b c is = refl
unused_by gone user first count left more false false gu a b c is = is

-- the count of the bundle that is let go is 0, and another's stays
count-without : (bundle user : BundleId) (uses : List (ℕ × ℕ)) → count_of user (filter (λ other. not (bundle.0 == other.0)) uses) ≡ cond (bundle.0 == user.0) 0 (count_of user uses)
count-without bundle user [] = either (bundle.0 == user.0) 0
  where
    either : (b : Bool) (n : ℕ) → n ≡ cond b n n
    either true n = refl
    either false n = refl
count-without bundle user (first ∷ rest) =
    let left = filter (λ other. not (bundle.0 == other.0)) rest in
    count_cond user (not (bundle.0 == first.0)) (first ∷ left) left
    ∙ unused_by bundle.0 user.0 first.0 first.1 (lookup (λ o. user.0 == o) rest) (lookup (λ o. user.0 == o) left) (bundle.0 == first.0) (user.0 == first.0) (bundle.0 == user.0) refl refl refl
    (count-without bundle user rest)

let_go_by : (bundle user : BundleId) (row : LiveService) (r : Registered) (e : Entry) (own : Bool) → IsCleaning bundle e → (bundle.0 == user.0) ≡ own → IsRowOf row r →
    (cond own 0 (count_of user row.uses) ≡ uses_without_makes user (later e r)) × (ungets user (later e r) ≤ gets user (later e r))
let_go_by bundle user row r e true cleaning own is =
    let got : gets user (later e r) ≡ 0 = gets-push user r e ∙ ap (λ c. cond c 0 (gets user r + one_where (gets_object user r.service e.op e.reply))) (cleaning.cleans user ∙ own) in
    let ungot : ungets user (later e r) ≡ 0 = ungets-push user r e ∙ ap (λ c. cond c 0 (ungets user r + one_where (is_unget user r.service e.op e.reply))) (cleaning.cleans user ∙ own) in
    (rw (got, ungot) refl, rw (got, ungot) (omega arith))
let_go_by bundle user row r e false cleaning own is =
    let kept : cleans user e.op e.reply ≡ false = cleaning.cleans user ∙ own in
    (uses_kept e row r user kept (cleaning.gets user r.service) (cleaning.ungets user r.service) is, paid_kept e row r user kept (cleaning.gets user r.service) (cleaning.ungets user r.service) is)

released_row : (bundle : BundleId) (e : Entry) (row : LiveService) (r : Registered) → IsCleaning bundle e → IsRowOf row r → IsRowOf (without_user bundle row) (later e r)
released_row bundle e row r cleaning is = record {
  service = service_kept row r e is.service (cleaning.gives r.service);
  scope = is.scope;
  uses = λ user. count-without bundle user row.uses ∙ (let_go_by bundle user row r e (bundle.0 == user.0) cleaning refl is).0;
  paid = λ user. (let_go_by bundle user row r e (bundle.0 == user.0) cleaning refl is).1;
}

-- a bundle's services and uses are let go by an entry that cleans it
pub stands_released : (history : List Entry) (old new : RegistryRows) (bundle : BundleId) (e : Entry) → cleaned_by e.op e.reply ≡ Some bundle → StandsFor history old → new.rows ≡ released bundle old.rows → new.issued ≡ old.issued → StandsFor (history ++ e ∷ []) new
stands_released history old new bundle e cleaned stands rows issued =
    let c : IsCleaning bundle e = cleaning bundle e cleaned in
    let none : [] ≡ registered_by (length (registered history)) e.op e.reply [] = sym (c.registers (length (registered history))) in
    stands_by history old new e stands
    (subst (λ l. AreRowsOf new.rows (map (later e) (left_by e (live_services history)) ++ l)) none
    (subst (λ l. AreRowsOf new.rows l) (sym (append-nil (map (later e) (left_by e (live_services history)))))
    (subst (λ l. AreRowsOf l (map (later e) (left_by e (live_services history)))) (sym rows)
    (rows_map (without_user bundle) (later e) (λ row r is. released_row bundle e row r c is) (others bundle old.rows) (left_by e (live_services history))
    (rows_filter (λ row. not (is_owned bundle row)) (λ r. not (takes_out r.service r.owner e.op e.reply))
    (λ row r is. ap not (flip row.service.owner.0 bundle.0 ∙ ap (λ (s : Service). bundle.0 == s.owner.0) is.service ∙ sym (c.takes r.service r.owner))) old.rows (live_services history) stands.rows)))))
    (issued ∙ (let same : old.issued ≡ old.issued + 0 = omega arith in same) ∙ ap (λ (l : List Registered). old.issued + length l) none)

-- ---- nothing of this

-- a refused operation that cleans nobody
pub quiet_refused : (tag : Tag) (o : Op) (refusal : Refusal) → cleaned_by o (answer.Refused refusal) ≡ None → IsQuiet (record { tag = tag; op = o; reply = answer.Refused refusal })
quiet_refused tag o refusal none = record {
  registers = no_service o refusal;
  takes = λ service owner. none_taken o refusal service owner (none_cleaned (record { tag = tag; op = o; reply = answer.Refused refusal }) none owner);
  gives = none_given o refusal;
  gets = none_got o refusal;
  ungets = none_ungot o refusal;
  cleans = none;
}
  where
    no_service : (o : Op) (refusal : Refusal) (earlier : ℕ) (since : List Entry) → registered_by earlier o (answer.Refused refusal) since ≡ []
    no_service (op.Register owner classes object scope properties) refusal earlier since = refl
    no_service o refusal earlier since = refl

    none_taken : (o : Op) (refusal : Refusal) (service : ServiceId) (owner : BundleId) → cleans owner o (answer.Refused refusal) ≡ false → takes_out service owner o (answer.Refused refusal) ≡ false
    none_taken (op.Unregister by taken) refusal service owner kept = refl
    none_taken o refusal service owner kept = kept

    none_given : (o : Op) (refusal : Refusal) (service : ServiceId) → given_by service o (answer.Refused refusal) ≡ None
    none_given (op.Modify owner modified properties) refusal service = refl
    none_given o refusal service = refl

    none_got : (o : Op) (refusal : Refusal) (user : BundleId) (service : ServiceId) → gets_object user service o (answer.Refused refusal) ≡ false
    none_got (op.Get by got) refusal user service = refl
    none_got (op.GetOwn by got) refusal user service = refl
    none_got o refusal user service = refl

    none_ungot : (o : Op) (refusal : Refusal) (user : BundleId) (service : ServiceId) → is_unget user service o (answer.Refused refusal) ≡ false
    none_ungot (op.Unget by let_go) refusal user service = refl
    none_ungot o refusal user service = refl

pub quiet_find : (tag : Tag) (asker : BundleId) (class : List ℕ) (filter : Option Filter) (found : Option ServiceId) → IsQuiet (record { tag = tag; op = op.Find asker class filter; reply = answer.Best found })
quiet_find tag asker class filter found = record { registers = λ n since. refl; takes = λ s o. refl; gives = λ s. refl; gets = λ u s. refl; ungets = λ u s. refl; cleans = refl }

pub quiet_find_all : (tag : Tag) (asker : BundleId) (class : List ℕ) (filter : Option Filter) (found : List ServiceId) → IsQuiet (record { tag = tag; op = op.FindAll asker class filter; reply = answer.Services found })
quiet_find_all tag asker class filter found = record { registers = λ n since. refl; takes = λ s o. refl; gives = λ s. refl; gets = λ u s. refl; ungets = λ u s. refl; cleans = refl }

pub quiet_list : (tag : Tag) (rows : List ServiceRow) → IsQuiet (record { tag = tag; op = op.ListServices; reply = answer.ServiceRows rows })
quiet_list tag rows = record { registers = λ n since. refl; takes = λ s o. refl; gives = λ s. refl; gets = λ u s. refl; ungets = λ u s. refl; cleans = refl }

-- an Unget by what it answers
pub stands_ungot : (history : List Entry) (old new : RegistryRows) (tag : Tag) (user : BundleId) (service : ServiceId) (value : Bool) → StandsFor history old → OnTrue value (new.rows ≡ change service (used_less user) old.rows) →
    OnFalse value (new ≡ old) → new.issued ≡ old.issued → (value ≡ true → All (Holds user service) old.rows) → StandsFor (history ++ record { tag = tag; op = op.Unget user service; reply = answer.Flag value } ∷ []) new
stands_ungot history old new tag user service true stands rows same issued held = stands_returned history old new tag user service stands (held refl) rows issued
stands_ungot history old new tag user service false stands rows same issued held =
    subst (StandsFor (history ++ record { tag = tag; op = op.Unget user service; reply = answer.Flag false } ∷ [])) (sym same) (stands_unreturned history old tag user service stands)

held_by : (user : BundleId) (service : ServiceId) (row r : LiveService) (held : Bool) → held ≡ nat_lt 0 (count_of user row.uses) → held ≡ true → (is_row_of service r ≡ true → r ≡ row) → Holds user service r
held_by user service row r held is held_is only here = rw (only here) (ltb-true _ _ (sym is ∙ held_is))

-- where the one service of the id is held
pub all_held : (user : BundleId) (service : ServiceId) (row : LiveService) (rows : List LiveService) (held : Bool) → held ≡ nat_lt 0 (count_of user row.uses) → held ≡ true → All (λ r. is_row_of service r ≡ true → r ≡ row) rows → All (Holds user service) rows
all_held user service row rows held is held_is only = λ k d within. held_by user service row _ held is held_is (only k d within)
