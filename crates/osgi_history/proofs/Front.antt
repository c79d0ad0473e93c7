-- The services of a history with one more entry at its start.
use Rattle.std.proofs.Common.{◌≡◌, ℕ, ◌+◌, ◌-◌, ◌<◌, List, [], ◌∷◌, ◌++◌, length, length-drop, get_or, drop, take, map, ap, sym, ◌∙◌, refl, arith, eq-eqb}
use Rattle.std.specs.Prelude.{Bool, true, false, cond, nat_eq, not, Option, None, Some, filter, find}
use Rattle.std.specs.Bool.{then_some}
use Rattle.std.specs.List.{list_any}
use Rattle.std.specs.Option.{option_eq, option_map_or, option_to_list}
use Rattle.std.proofs.lemmas.Bool.{cond-false, cond-true, eqb-false, eqb-true, ne_eqb}
use Rattle.std.proofs.lemmas.List.{at_drop_more, take_all}
use Rattle.std.proofs.lemmas.List.Elements.{filter-append}
use Rattle.osgi_base.specs.declared.ids.BundleId.{BundleId}
use Rattle.osgi_base.specs.declared.ids.ServiceId.{ServiceId}
use Rattle.osgi_ops.specs.Replies.{is_accepted, is_refusal}
use Rattle.osgi_ops.specs.Services.{is_live_service, is_service, Registered, registered_after, registered_by, takes_out, uses_without_makes}
use Rattle.osgi_ops.specs.declared.op.Op.{Op}
use Rattle.osgi_ops.specs.declared.op.Op.TheVariants.{Register}
use Rattle.osgi_ops.specs.declared.reply.Reply.{Reply}
use Rattle.osgi_ops.specs.declared.entry.Entry.{Entry}
use Rattle.osgi_history.specs.computed.Scans.{held, is_registration}

abbrev pub ids_of : List Registered → List ServiceId
ids_of list = map (λ r. r.service) list

-- the live services of entries that follow so many registrations
abbrev pub live_after : ℕ → List Entry → List Registered
live_after earlier entries = filter is_live_service (registered_after earlier entries)

-- what the entry registered, where the entries since leave it live
abbrev pub newly : ℕ → Entry → List Entry → List Registered
newly earlier e since = filter is_live_service (registered_by earlier e.op e.reply since)

abbrev pub one_if : Bool → ℕ
one_if holds = cond holds 1 0

length_if : (accepted : Bool) (r : Registered) → length (cond accepted (r ∷ []) []) ≡ one_if accepted
length_if true r = refl
length_if false r = refl

count_by_one : (earlier : ℕ) (op : Op) (reply : Reply) (since : List Entry) → length (registered_by earlier op reply since) ≡ one_if (is_registration op reply)
count_by_one earlier (Register owner classes object scope properties) reply since = length_if (is_accepted reply) _
count_by_one earlier op reply since = refl

kept_if : (r : Registered) (live : Bool) → option_to_list (then_some live r.service) ≡ ids_of (cond live (r ∷ []) [])
kept_if r true = refl
kept_if r false = refl

-- an accepted registration is live where the entries since do not take the service out
pub newly_is : (r : Registered) (reply : Reply) (gone : Bool) → false ≡ is_refusal reply → gone ≡ list_any (λ e. takes_out r.service r.owner e.op e.reply) r.since →
    option_to_list (then_some (not gone) r.service) ≡ ids_of (filter is_live_service (cond (is_accepted reply) (r ∷ []) []))
newly_is r reply gone accepted is =
    ap (λ g. option_to_list (then_some (not g) r.service)) is ∙ kept_if r (is_live_service r) ∙ ap (λ refused. ids_of (filter is_live_service (cond (not refused) (r ∷ []) []))) accepted

pub live-cons : (earlier : ℕ) (e : Entry) (since : List Entry) → live_after earlier (e ∷ since) ≡ newly earlier e since ++ live_after (earlier + one_if (is_registration e.op e.reply)) since
live-cons earlier e since =
    filter-append is_live_service (registered_by earlier e.op e.reply since) (registered_after (earlier + length (registered_by earlier e.op e.reply since)) since)
    ∙ ap (λ n. newly earlier e since ++ live_after (earlier + n) since) (count_by_one earlier e.op e.reply since)

-- the slice from a place on, as the code takes it
pub rest_of : {A : Type 0} (list : List A) (i : ℕ) → take (length list - i) (drop i list) ≡ drop i list
rest_of list i = take_all (length list - i) (drop i list) (omega (arith, length-drop i list))

-- ---- uses

abbrev pub is_that : Option ServiceId → ServiceId → Bool
is_that new service = option_eq (λ a b. nat_eq a.0 b.0) new (Some service)

-- how often the user holds the first of the services that has the id
abbrev pub uses_in : BundleId → ServiceId → List Registered → ℕ
uses_in user service list = option_map_or (uses_without_makes user) (find (is_service service) list) 0

held_of : (user : BundleId) (service : ServiceId) (r : Registered) → r.service.0 ≡ service.0 → uses_without_makes user r ≡ held user service r.since
held_of user service r same = let of : ℕ → ℕ = λ n. held user (record { 0 = n }) r.since in ap of same

first_uses : (user : BundleId) (service : ServiceId) (r : Registered) (rest : List Registered) (same : Bool) → nat_eq r.service.0 service.0 ≡ same →
    uses_in user service (r ∷ rest) ≡ cond same (held user service r.since) (uses_in user service rest)
first_uses user service r rest true is =
    let e : r.service.0 ≡ service.0 = eqb-true r.service.0 service.0 is in
    ap (λ o. option_map_or (uses_without_makes user) o 0) (cond-true (nat_eq service.0 r.service.0) (Some r) (find (is_service service) rest) (eq-eqb service.0 r.service.0 (sym e)))
    ∙ held_of user service r e
first_uses user service r rest false is =
    ap (λ o. option_map_or (uses_without_makes user) o 0) (cond-false (nat_eq service.0 r.service.0) (Some r) (find (is_service service) rest) (ne_eqb service.0 r.service.0 (λ e. eqb-false r.service.0 service.0 is (sym e))))

one_uses : (user : BundleId) (service : ServiceId) (r : Registered) (rest : List Registered) (live : Bool) (new : Option ServiceId) (same : Bool) →
    option_to_list new ≡ ids_of (cond live (r ∷ []) []) → is_that new service ≡ same →
    uses_in user service (cond live (r ∷ []) [] ++ rest) ≡ cond same (held user service r.since) (uses_in user service rest)
one_uses user service r rest false None same ids is = ap (λ b. cond b (held user service r.since) (uses_in user service rest)) is
one_uses user service r rest false (Some new) same ids is = absurd (cc)
one_uses user service r rest true None same ids is = absurd (cc)
one_uses user service r rest true (Some new) same ids is =
    let there : new ≡ r.service = cc in
    first_uses user service r rest same (ap (λ (s : ServiceId). nat_eq s.0 service.0) (sym there) ∙ is)

uses_with : (user : BundleId) (service : ServiceId) (r : Registered) (rest : List Registered) (accepted : Bool) (new : Option ServiceId) (same : Bool) →
    option_to_list new ≡ ids_of (filter is_live_service (cond accepted (r ∷ []) [])) → is_that new service ≡ same →
    uses_in user service (filter is_live_service (cond accepted (r ∷ []) []) ++ rest) ≡ cond same (held user service r.since) (uses_in user service rest)
uses_with user service r rest true new same ids is = one_uses user service r rest (is_live_service r) new same ids is
uses_with user service r rest false None same ids is = ap (λ b. cond b (held user service r.since) (uses_in user service rest)) is
uses_with user service r rest false (Some new) same ids is = absurd (cc)

uses_by : (user : BundleId) (service : ServiceId) (earlier : ℕ) (op : Op) (reply : Reply) (since : List Entry) (rest : List Registered) (new : Option ServiceId) (same : Bool) →
    option_to_list new ≡ ids_of (filter is_live_service (registered_by earlier op reply since)) → is_that new service ≡ same →
    uses_in user service (filter is_live_service (registered_by earlier op reply since) ++ rest) ≡ cond same (held user service since) (uses_in user service rest)
uses_by user service earlier (Register owner classes object scope properties) reply since rest new same ids is =
    uses_with user service (record { service = record { 0 = earlier + 1 }; owner = owner; classes = classes; object = object; scope = scope; given = properties; since = since }) rest (is_accepted reply) new same ids is
uses_by user service earlier op reply since rest None same ids is = ap (λ b. cond b (held user service since) (uses_in user service rest)) is
uses_by user service earlier op reply since rest (Some new) same ids is = absurd (cc)

-- how often the user holds the service by entries that follow so many registrations
abbrev pub uses_after : BundleId → ServiceId → ℕ → List Entry → ℕ
uses_after user service earlier entries = uses_in user service (live_after earlier entries)

-- the uses from the entry at i on, where the entry registered `new` or nothing that stays live
pub uses-left : (user : BundleId) (service : ServiceId) (earlier : ℕ) (entries : List Entry) (i : ℕ) (e : Entry) (new : Option ServiceId) (same : Bool) → i < length entries → e ≡ get_or entries i e →
    option_to_list new ≡ ids_of (newly earlier e (drop (i + 1) entries)) → is_that new service ≡ same →
    uses_after user service earlier (drop i entries)
    ≡ cond same (held user service (drop (i + 1) entries)) (uses_after user service (earlier + one_if (is_registration e.op e.reply)) (drop (i + 1) entries))
uses-left user service earlier entries i e new same within is ids that =
    at_drop_more (uses_after user service earlier) entries i e within
    ∙ ap (λ (x : Entry). uses_after user service earlier (x ∷ drop (i + 1) entries)) (sym is)
    ∙ ap (uses_in user service) (live-cons earlier e (drop (i + 1) entries))
    ∙ uses_by user service earlier e.op e.reply (drop (i + 1) entries) (live_after (earlier + one_if (is_registration e.op e.reply)) (drop (i + 1) entries)) new same ids that
