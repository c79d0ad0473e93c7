-- The services of a history with one more entry at its end.
use Rattle.std.proofs.Common.{◌≡◌, ◌+◌, ◌≤◌, ℕ, suc, List, [], ◌∷◌, ◌++◌, length, length-append, map, append-nil, append_assoc, ap, sym, ◌∙◌, refl, arith}
use Rattle.std.specs.Prelude.{◌==◌, ◌-◌, Bool, true, false, cond, not, Option, None, Some, filter, unwrap_or, find, All, count_by}
use Rattle.std.specs.List.{filter_map, last_or, list_any}
use Rattle.std.specs.Option.{option_map_or}
use Rattle.std.proofs.lemmas.List.{length-map, map-append}
use Rattle.std.proofs.lemmas.List.Elements.{All-append, All-cons, All-filter, All-head, All-nil, All-tail, All-weaker, filter-append, filter_map-append}
use Rattle.std.proofs.lemmas.List.Folds.{list_any-append}
use Rattle.std.proofs.lemmas.List.Sums.{count_by-le-length, length-filter, sum_by-append}
use Rattle.osgi_base.specs.declared.ids.BundleId.{BundleId}
use Rattle.osgi_base.specs.declared.ids.ServiceId.{ServiceId}
use Rattle.osgi_model.specs.declared.value.Attribute.{Attribute}
use Rattle.osgi_ops.specs.Along.{carried, carry}
use Rattle.osgi_base.specs.declared.ids.Tag.{Tag}
use Rattle.osgi_ops.specs.Brackets.{Bracket, brackets, Making}
use Rattle.osgi_ops.specs.Cleaning.{cleaned_by, cleans}
use Rattle.osgi_ops.specs.Properties.{with_framework}
use Rattle.osgi_ops.specs.Replies.{is_accepted}
use Rattle.osgi_ops.specs.Services.{since_cleaning, gets, given_by, given_last, gets_object, is_live_service, is_service, is_unget, is_use_of, live_services, live_service_at, made, made_of, made_uses, makes_own, Registered, registered, registered_after, registered_by, service_now, takes_out, ungets, Use, use_by, uses, uses_without_makes, uses_with, with_made_use, without_user}
use Rattle.osgi_ops.specs.declared.op.Op.{Op}
use Rattle.osgi_ops.specs.declared.scope.Scope.{Scope}
use Rattle.osgi_ops.specs.declared.op.Op.TheVariants.{Register}
use Rattle.osgi_ops.specs.declared.reply.Reply.{Reply}
use Rattle.osgi_ops.specs.declared.entry.Entry.{Entry}
use Rattle.osgi_ops.specs.laws.Along.{carried-last, carried-still, carry-last}

-- a registered service with one more entry since
abbrev pub later : Entry → Registered → Registered
later e r = record r { since = r.since ++ e ∷ [] }

-- ---- what is registered

registered_with : (earlier : ℕ) (owner : BundleId) (classes : List (List ℕ)) (object : List ℕ) (scope : Scope) (properties : List Attribute) (since : List Entry) (e : Entry) (accepted : Bool) →
    let r : List Entry → Registered
    = λ entries. record { service = record { 0 = earlier + 1 }; owner = owner; classes = classes; object = object; scope = scope; given = properties; since = entries } in
    cond accepted (r (since ++ e ∷ []) ∷ []) [] ≡ map (later e) (cond accepted (r since ∷ []) [])
registered_with earlier owner classes object scope properties since e true = refl
registered_with earlier owner classes object scope properties since e false = refl

registered_by-later : (earlier : ℕ) (op : Op) (reply : Reply) (since : List Entry) (e : Entry) → registered_by earlier op reply (since ++ e ∷ []) ≡ map (later e) (registered_by earlier op reply since)
registered_by-later earlier (Register owner classes object scope properties) reply since e = registered_with earlier owner classes object scope properties since e (is_accepted reply)
registered_by-later earlier op reply since e = refl

length_later : (e : Entry) (list : List Registered) → length (map (later e) list) ≡ length list
length_later e list = length-map list (later e)

registered_after-push : (earlier : ℕ) (history : List Entry) (e : Entry) →
    registered_after earlier (history ++ e ∷ []) ≡ map (later e) (registered_after earlier history) ++ registered_by (earlier + length (registered_after earlier history)) e.op e.reply []
registered_after-push earlier [] e =
    append-nil (registered_by earlier e.op e.reply []) ∙ ap (λ n. registered_by n e.op e.reply []) (let same : earlier ≡ earlier + 0 = omega arith in same)
registered_after-push earlier (x ∷ since) e =
    let here = registered_by earlier x.op x.reply since in
    let rest = registered_after (earlier + length here) since in
    let count : earlier + length here + length rest ≡ earlier + length (here ++ rest) = omega (arith, length-append here rest) in
    ap (λ l. l ++ registered_after (earlier + length l) (since ++ e ∷ [])) (registered_by-later earlier x.op x.reply since e)
    ∙ ap (λ n. map (later e) here ++ registered_after (earlier + n) (since ++ e ∷ [])) (length_later e here)
    ∙ ap (λ l. map (later e) here ++ l) (registered_after-push (earlier + length here) since e)
    ∙ sym (append_assoc (map (later e) here) (map (later e) rest) (registered_by (earlier + length here + length rest) e.op e.reply []))
    ∙ (λ i. sym (map-append (later e) here rest) i ++ registered_by (count i) e.op e.reply [])

pub registered-push : (history : List Entry) (e : Entry) → registered (history ++ e ∷ []) ≡ map (later e) (registered history) ++ registered_by (length (registered history)) e.op e.reply []
registered-push history e = registered_after-push 0 history e ∙ ap (λ n. map (later e) (registered history) ++ registered_by n e.op e.reply []) (let same : 0 + length (registered history) ≡ length (registered history) = omega arith in same)

few_if : (accepted : Bool) (r : Registered) → length (cond accepted (r ∷ []) []) ≤ 1
few_if true r = omega arith
few_if false r = omega arith

registered_by-few : (earlier : ℕ) (op : Op) (reply : Reply) (since : List Entry) → length (registered_by earlier op reply since) ≤ 1
registered_by-few earlier (Register owner classes object scope properties) reply since = few_if (is_accepted reply) _
registered_by-few earlier op reply since = omega arith

length-registered_after : (earlier : ℕ) (history : List Entry) → length (registered_after earlier history) ≤ length history
length-registered_after earlier [] = omega arith
length-registered_after earlier (x ∷ since) =
    let here = registered_by earlier x.op x.reply since in
    omega (arith, length-append here (registered_after (earlier + length here) since), registered_by-few earlier x.op x.reply since, length-registered_after (earlier + length here) since)

-- no more than there are entries
pub length-registered : (history : List Entry) → length (registered history) ≤ length history
length-registered history = length-registered_after 0 history

-- ---- what is live

-- the services that an entry leaves live
abbrev pub left_by : Entry → List Registered → List Registered
left_by e list = filter (λ r. not (takes_out r.service r.owner e.op e.reply)) list

live_by : (e : Entry) (r : Registered) (rest more : List Registered) (gone taken : Bool) → list_any (λ x. takes_out r.service r.owner x.op x.reply) r.since ≡ gone → takes_out r.service r.owner e.op e.reply ≡ taken →
    filter is_live_service (map (later e) rest) ≡ map (later e) (left_by e more) → filter is_live_service rest ≡ more →
    cond (not (list_any (λ x. takes_out r.service r.owner x.op x.reply) (r.since ++ e ∷ []))) (later e r ∷ filter is_live_service (map (later e) rest)) (filter is_live_service (map (later e) rest))
    ≡ map (later e) (left_by e (cond (not (list_any (λ x. takes_out r.service r.owner x.op x.reply) r.since)) (r ∷ filter is_live_service rest) (filter is_live_service rest)))
live_by e r rest more true taken first second same is =
    rw (list_any-append (λ x. takes_out r.service r.owner x.op x.reply) r.since (e ∷ []), first, is) same
live_by e r rest more false true first second same is =
    rw (list_any-append (λ x. takes_out r.service r.owner x.op x.reply) r.since (e ∷ []), first, second, is) same
live_by e r rest more false false first second same is =
    rw (list_any-append (λ x. takes_out r.service r.owner x.op x.reply) r.since (e ∷ []), first, second, is) (ap (λ l. later e r ∷ l) same)

live-later : (e : Entry) (list : List Registered) → filter is_live_service (map (later e) list) ≡ map (later e) (left_by e (filter is_live_service list))
live-later e [] = refl
live-later e (r ∷ rest) = live_by e r rest (filter is_live_service rest) _ _ refl refl (live-later e rest) refl

live_if : (earlier : ℕ) (owner : BundleId) (classes : List (List ℕ)) (object : List ℕ) (scope : Scope) (properties : List Attribute) (accepted : Bool) →
    let r : Registered = record { service = record { 0 = earlier + 1 }; owner = owner; classes = classes; object = object; scope = scope; given = properties; since = [] } in
    filter is_live_service (cond accepted (r ∷ []) []) ≡ cond accepted (r ∷ []) []
live_if earlier owner classes object scope properties true = refl
live_if earlier owner classes object scope properties false = refl

new_live : (earlier : ℕ) (op : Op) (reply : Reply) → filter is_live_service (registered_by earlier op reply []) ≡ registered_by earlier op reply []
new_live earlier (Register owner classes object scope properties) reply = live_if earlier owner classes object scope properties (is_accepted reply)
new_live earlier op reply = refl

-- those that the entry leaves, and the one that it registers
pub live-push : (history : List Entry) (e : Entry) → live_services (history ++ e ∷ []) ≡ map (later e) (left_by e (live_services history)) ++ registered_by (length (registered history)) e.op e.reply []
live-push history e =
    let new = registered_by (length (registered history)) e.op e.reply [] in
    ap (filter is_live_service) (registered-push history e)
    ∙ filter-append is_live_service (map (later e) (registered history)) new
    ∙ ap (λ l. filter is_live_service (map (later e) (registered history)) ++ l) (new_live (length (registered history)) e.op e.reply)
    ∙ ap (λ l. l ++ new) (live-later e (registered history))

-- ---- what is known of one

last_or-push : {A : Type 0} (o : Option A) (list : List A) (item : A) → last_or o (list ++ item ∷ []) ≡ Some item
last_or-push o [] item = refl
last_or-push o (x ∷ rest) item = last_or-push (Some x) rest item

given_with : (r : Registered) (e : Entry) (anew : Option (List Attribute)) → given_by r.service e.op e.reply ≡ anew → given_last (later e r) ≡ unwrap_or anew (given_last r)
given_with r e None is =
    rw (filter_map-append (λ (x : Entry). given_by r.service x.op x.reply) r.since (e ∷ []), is, append-nil (filter_map (λ (x : Entry). given_by r.service x.op x.reply) r.since)) refl
given_with r e (Some properties) is =
    rw (filter_map-append (λ (x : Entry). given_by r.service x.op x.reply) r.since (e ∷ []), is, last_or-push None (filter_map (λ (x : Entry). given_by r.service x.op x.reply) r.since) properties) refl

-- the properties given last, after one more entry
pub given-push : (r : Registered) (e : Entry) → given_last (later e r) ≡ unwrap_or (given_by r.service e.op e.reply) (given_last r)
given-push r e = given_with r e (given_by r.service e.op e.reply) refl

pub service-push : (r : Registered) (e : Entry) → service_now (later e r) ≡ record (service_now r) { properties = with_framework (unwrap_or (given_by r.service e.op e.reply) (given_last r)) r.classes r.scope r.service r.owner }
service-push r e = ap (λ p. record (service_now r) { properties = with_framework p r.classes r.scope r.service r.owner }) (given-push r e)

abbrev pub one_where : Bool → ℕ
one_where holds = cond holds 1 0

-- the entries since the bundle's last cleaning, after one more entry
pub since-push : (user : BundleId) (since : List Entry) (e : Entry) → since_cleaning user (since ++ e ∷ []) ≡ cond (cleans user e.op e.reply) [] (since_cleaning user since ++ e ∷ [])
since-push user since e = carry-last (λ kept (x : Entry). cond (cleans user x.op x.reply) [] (kept ++ x ∷ [])) [] since e

-- a cleaning of the user lets go of everything, and any other entry counts
counted-push : (test : Entry → Bool) (kept since : List Entry) (e : Entry) (cleaned : Bool) → since ≡ cond cleaned [] (kept ++ e ∷ []) → count_by test since ≡ cond cleaned 0 (count_by test kept + one_where (test e))
counted-push test kept since e true is = ap (count_by test) is
counted-push test kept since e false is = ap (count_by test) is ∙ grind (arith, sum_by-append (λ (x : Entry). one_where (test x)) kept (e ∷ []))

pub gets-push : (user : BundleId) (r : Registered) (e : Entry) → gets user (later e r) ≡ cond (cleans user e.op e.reply) 0 (gets user r + one_where (gets_object user r.service e.op e.reply))
gets-push user r e = counted-push (λ x. gets_object user r.service x.op x.reply) (since_cleaning user r.since) _ e (cleans user e.op e.reply) (since-push user r.since e)

pub ungets-push : (user : BundleId) (r : Registered) (e : Entry) → ungets user (later e r) ≡ cond (cleans user e.op e.reply) 0 (ungets user r + one_where (is_unget user r.service e.op e.reply))
ungets-push user r e = counted-push (λ x. is_unget user r.service x.op x.reply) (since_cleaning user r.since) _ e (cleans user e.op e.reply) (since-push user r.since e)

kept-short : (user : BundleId) (kept since : List Entry) → length (carry (λ kept (x : Entry). cond (cleans user x.op x.reply) [] (kept ++ x ∷ [])) kept since) ≤ length kept + length since
kept-short user kept [] = omega arith
kept-short user kept (e ∷ rest) = go (cleans user e.op e.reply) (λ k. kept-short user k rest)
  where
    go : (b : Bool) → ((k : List Entry) → length (carry (λ kept (x : Entry). cond (cleans user x.op x.reply) [] (kept ++ x ∷ [])) k rest) ≤ length k + length rest) →
        length (carry (λ kept (x : Entry). cond (cleans user x.op x.reply) [] (kept ++ x ∷ [])) (cond b [] (kept ++ e ∷ [])) rest) ≤ length kept + suc (length rest)
    go true ih = omega (arith, ih [])
    go false ih = omega (arith, ih (kept ++ e ∷ []), length-append kept (e ∷ []))

-- ---- bounds

-- no more entries came since than there are
abbrev pub IsShort : ℕ → Registered → Type 0
IsShort most r = length r.since ≤ most

short_if : (most : ℕ) (accepted : Bool) (r : Registered) → IsShort most r → All (IsShort most) (cond accepted (r ∷ []) [])
short_if most true r short = All-cons (IsShort most) r [] short (All-nil (IsShort most))
short_if most false r short = All-nil (IsShort most)

short_by : (most earlier : ℕ) (op : Op) (reply : Reply) (since : List Entry) → length since ≤ most → All (IsShort most) (registered_by earlier op reply since)
short_by most earlier (Register owner classes object scope properties) reply since short = short_if most (is_accepted reply) _ short
short_by most earlier op reply since short = All-nil (IsShort most)

short_after : (most earlier : ℕ) (history : List Entry) → length history ≤ most → All (IsShort most) (registered_after earlier history)
short_after most earlier [] short = All-nil (IsShort most)
short_after most earlier (x ∷ since) short =
    let here = registered_by earlier x.op x.reply since in
    All-append (IsShort most) here (registered_after (earlier + length here) since) (short_by most earlier x.op x.reply since (omega (arith, short)))
    (short_after most (earlier + length here) since (omega (arith, short)))

found_by : (f : Registered → ℕ) (most : ℕ) (p : Bool) (r : Registered) (rest : Option Registered) → f r ≤ most → option_map_or f rest 0 ≤ most → option_map_or f (cond p (Some r) rest) 0 ≤ most
found_by f most true r rest here more = here
found_by f most false r rest here more = more

found-le : (f : Registered → ℕ) (most : ℕ) (p : Registered → Bool) (list : List Registered) → All (λ r. f r ≤ most) list → option_map_or f (find p list) 0 ≤ most
found-le f most p [] all = omega arith
found-le f most p (r ∷ rest) all =
    found_by f most (p r) r (find p rest) (All-head (λ x. f x ≤ most) r rest all) (found-le f most p rest (All-tail (λ x. f x ≤ most) r rest all))

uses-short : (user : BundleId) (most : ℕ) (r : Registered) → IsShort most r → uses_without_makes user r ≤ most
uses-short user most r short = omega (arith, short, kept-short user [] r.since, count_by-le-length (λ (e : Entry). gets_object user r.service e.op e.reply) (since_cleaning user r.since))

-- by what all share or the user has, nobody uses a service more often than there are entries
pub held-le-length : (user : BundleId) (service : ServiceId) (history : List Entry) → option_map_or (uses_without_makes user) (live_service_at service history) 0 ≤ length history
held-le-length user service history =
    found-le (uses_without_makes user) (length history) (is_service service) (live_services history)
    (All-weaker (IsShort (length history)) (λ r. uses_without_makes user r ≤ length history) (λ r short. uses-short user (length history) r short) (live_services history)
    (All-filter is_live_service (IsShort (length history)) (registered history) (short_after (length history) 0 history (omega arith))))

-- ---- uses that began with a make

pub made_uses-push : (history : List Entry) (e : Entry) → made_uses (history ++ e ∷ []) ≡ with_made_use history (made_uses history) e
made_uses-push history e = carried-last with_made_use [] history e

-- an operation with its reply made nothing
abbrev pub MakesNone : Op → Reply → Type 0
MakesNone op reply = (tag : Tag) (opened : List Bracket) → made_of tag opened op reply ≡ None

no-use : (before : List Entry) (o : Option Making) → o ≡ None → use_by before o ≡ []
no-use before o is = ap (use_by before) is

none-without : (user : Option BundleId) → without_user user [] ≡ []
none-without None = refl
none-without (Some user) = refl

-- where no entry made anything, no use began with a make
pub made_uses-none : (history : List Entry) → All (λ (e : Entry). MakesNone e.op e.reply) history → made_uses history ≡ []
made_uses-none history none =
    carried-still with_made_use [] [] history
    (All-weaker (λ (e : Entry). MakesNone e.op e.reply) (λ e. (before : List Entry) → with_made_use before [] e ≡ [])
    (λ e m before. ap (λ l. l ++ use_by before (made before e)) (none-without (cleaned_by e.op e.reply)) ∙ no-use before (made before e) (m e.tag (brackets before))) history none)

-- then the uses are those by what all share
pub uses-plain : (user : BundleId) (service : ServiceId) (history : List Entry) → made_uses history ≡ [] → uses user service history ≡ option_map_or (uses_without_makes user) (live_service_at service history) 0
uses-plain user service history none =
    let no : count_by (is_use_of user service) (made_uses history) ≡ 0 = ap (count_by (is_use_of user service)) none in
    ap (λ n. option_map_or (uses_with n user) (live_service_at service history) 0) no ∙ at (live_service_at service history)
  where
    at : (o : Option Registered) → option_map_or (uses_with 0 user) o 0 ≡ option_map_or (uses_without_makes user) o 0
    at None = refl
    at (Some r) = let same : gets user r + 0 ≡ gets user r = omega arith in ap (λ n. n - ungets user r) same

-- ---- bounds of these

without-le : (user : Option BundleId) (all : List Use) → length (without_user user all) ≤ length all
without-le None all = omega arith
without-le (Some user) all = omega (arith, length-filter (λ (u : Use). not (user.0 == u.user.0)) all, count_by-le-length (λ (u : Use). not (user.0 == u.user.0)) all)

one-or-none : (before : List Entry) (o : Option Making) → length (use_by before o) ≤ 1
one-or-none before None = omega arith
one-or-none before (Some m) = go (makes_own before m)
  where
    go : (own : Bool) → let u : Use = record { user = m.user; service = m.service } in length (cond own [] (u ∷ [])) ≤ 1
    go true = omega arith
    go false = omega arith

made_uses-le-from : (front : List Entry) (all : List Use) (history : List Entry) → length (carried with_made_use front all history) ≤ length all + length history
made_uses-le-from front all [] = omega arith
made_uses-le-from front all (e ∷ rest) =
    omega (arith, made_uses-le-from (front ++ e ∷ []) (with_made_use front all e) rest, length-append (without_user (cleaned_by e.op e.reply) all) (use_by front (made front e)), without-le (cleaned_by e.op e.reply) all, one-or-none front (made front e))

-- each entry begins one at most
pub made_uses-le-length : (history : List Entry) → length (made_uses history) ≤ length history
made_uses-le-length history = omega (arith, made_uses-le-from [] [] history)

uses-with-le : (user : BundleId) (from_makes : ℕ) (r : Registered) (most : ℕ) → IsShort most r → uses_with from_makes user r ≤ most + from_makes
uses-with-le user from_makes r most short = omega (arith, short, kept-short user [] r.since, count_by-le-length (λ (e : Entry). gets_object user r.service e.op e.reply) (since_cleaning user r.since))

-- nobody uses a service more often than twice for each entry
pub uses-le-length : (user : BundleId) (service : ServiceId) (history : List Entry) → uses user service history ≤ length history + length history
uses-le-length user service history =
    let from_makes = count_by (is_use_of user service) (made_uses history) in
    let few : from_makes ≤ length history = omega (arith, count_by-le-length (is_use_of user service) (made_uses history), made_uses-le-length history) in
    let most : ℕ = length history + from_makes in
    let all : option_map_or (uses_with from_makes user) (live_service_at service history) 0 ≤ most
    = found-le (uses_with from_makes user) most (is_service service) (live_services history)
    (All-weaker (IsShort (length history)) (λ r. uses_with from_makes user r ≤ most) (λ r short. uses-with-le user from_makes r (length history) short) (live_services history)
    (All-filter is_live_service (IsShort (length history)) (registered history) (short_after (length history) 0 history (omega arith)))) in
    omega (arith, all, few)
