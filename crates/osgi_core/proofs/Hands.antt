-- How many hands and jobs are open after an entry.
use Rattle.std.proofs.Common.{◌≡◌, ◌+◌, ◌<◌, ◌≤◌, ◌-◌, ℕ, Bool, true, false, List, [], ◌∷◌, ◌++◌, length, length-append, refl, sym, ap, ◌∙◌, subst, arith}
use Rattle.std.specs.Prelude.{◌==◌, ◌&&◌, cond, filter, Option, None, Some}
use Rattle.std.proofs.lemmas.List.Sums.{count_by-le-length, length-filter}
use Rattle.osgi_base.specs.declared.ids.Tag.{Tag}
use Rattle.osgi_brackets.specs.Open as callers
use Rattle.osgi_brackets.specs.Open.{open_of}
use Rattle.osgi_brackets.specs.declared.brackets.Brackets.{Brackets}
use Rattle.osgi_core.specs.Machine.{IsOwnHandOrJobEnd}
use Rattle.osgi_core.specs.computed.Hands.{HasEnds, ends_in, is_hand_or_job, is_of_hand_or_job, number_if, opens_any, opens_hand_or_job}
use Rattle.osgi_legal.proofs.Owned.{closes-own}
use Rattle.osgi_ops.specs.Along.{carry}
use Rattle.osgi_ops.specs.Brackets as cause
use Rattle.osgi_ops.specs.Brackets.{Bracket, bracket, brackets, Cause, closes, ends, is_ended, opens, with_entry, without_innermost}
use Rattle.osgi_ops.specs.OwnBrackets.{own_closes, turned}
use Rattle.osgi_ops.specs.declared.entry.Entry.{Entry}
use Rattle.osgi_ops.specs.declared.op.Op.{Op}
use Rattle.osgi_ops.specs.declared.op.Op.TheVariants as op
use Rattle.osgi_ops.specs.declared.reply.Reply.{Reply}
use Rattle.osgi_ops.specs.laws.Brackets.{brackets-last}
use Rattle.osgi_tables.specs.Asked.{is_hand_or_job_end}

-- ---- what an end leaves

-- what it ends is a hand or a job, or it is not
ended_so : (o : Op) (c : Cause) → ends o c ≡ true → is_hand_or_job c ≡ is_hand_or_job_end o
ended_so (op.EndHand listener) (cause.handing held) e = refl
ended_so (op.EndHand listener) (cause.starting b) e = absurd (cc e)
ended_so (op.EndHand listener) (cause.stopping b) e = absurd (cc e)
ended_so (op.EndHand listener) cause.job e = absurd (cc e)
ended_so op.EndJob (cause.handing held) e = absurd (cc e)
ended_so op.EndJob (cause.starting b) e = absurd (cc e)
ended_so op.EndJob (cause.stopping b) e = absurd (cc e)
ended_so op.EndJob cause.job e = refl
ended_so (op.EndStart bundle failed) (cause.handing held) e = absurd (cc e)
ended_so (op.EndStart bundle failed) (cause.starting b) e = refl
ended_so (op.EndStart bundle failed) (cause.stopping b) e = absurd (cc e)
ended_so (op.EndStart bundle failed) cause.job e = absurd (cc e)
ended_so (op.EndStop bundle failed) (cause.handing held) e = absurd (cc e)
ended_so (op.EndStop bundle failed) (cause.starting b) e = absurd (cc e)
ended_so (op.EndStop bundle failed) (cause.stopping b) e = refl
ended_so (op.EndStop bundle failed) cause.job e = absurd (cc e)
ended_so (op.EndMake failed) (cause.making m) e = refl
ended_so o c e = absurd (cc e)

one_more : (b : Bracket) (outer : List Bracket) (t : Bool) → is_hand_or_job b.cause ≡ t → ends_in (b ∷ outer) ≡ number_if t + ends_in outer
one_more b outer t is = ap (λ k. length (cond k (b ∷ filter is_of_hand_or_job outer) (filter is_of_hand_or_job outer))) is ∙ counted t
  where
    counted : (k : Bool) → length (cond k (b ∷ filter is_of_hand_or_job outer) (filter is_of_hand_or_job outer)) ≡ number_if k + ends_in outer
    counted true = omega arith
    counted false = omega arith

-- the innermost bracket of the caller goes: one of them less, where the operation is the end of a hand or of a job
without_one : (tag : Tag) (o : Op) (opened : List Bracket) → closes tag o opened ≡ true → ends_in (without_innermost tag.caller opened) + number_if (is_hand_or_job_end o) ≡ ends_in opened
without_one tag o [] e = absurd (cc e)
without_one tag o (b ∷ outer) e = by (b.tag.caller == tag.caller) refl e (λ ended. without_one tag o outer ended)
  where
    by : (k : Bool) → (b.tag.caller == tag.caller) ≡ k → cond k (is_ended tag o b) (closes tag o outer) ≡ true → (closes tag o outer ≡ true → ends_in (without_innermost tag.caller outer) + number_if (is_hand_or_job_end o) ≡ ends_in outer) → ends_in (cond k outer (b ∷ without_innermost tag.caller outer)) + number_if (is_hand_or_job_end o) ≡ ends_in (b ∷ outer)
    by true is ended more_out =
        let own = ended_so o b.cause (and_second (b.tag.command == tag.command) (ends o b.cause) ended) in
        let more = one_more b outer (is_hand_or_job_end o) own in
        omega (arith, more)
      where
        and_second : (s t : Bool) → s && t ≡ true → t ≡ true
        and_second true t f = f
        and_second false t f = absurd (cc f)
    by false is ended more_out =
        let rest = more_out ended in
        let here = one_more b outer (is_hand_or_job b.cause) refl in
        let left = one_more b (without_innermost tag.caller outer) (is_hand_or_job b.cause) refl in
        omega (arith, rest, here, left)

-- ---- an entry

-- what opens a bracket is no end
opens_or_ends : (o : Op) (reply : Reply) (c : Cause) → opens o reply ≡ Some c → is_hand_or_job_end o ≡ false
opens_or_ends (op.EndHand listener) reply c e = absurd (cc e)
opens_or_ends op.EndJob reply c e = absurd (cc e)
opens_or_ends o reply c e = refl

turned_ends : (tag : Tag) (o : Op) (reply : Reply) (opened : List Bracket) (cause : Option Cause) (closed : Bool) → opens o reply ≡ cause → closes tag o opened ≡ closed →
    ends_in (turned tag cause closed opened) + number_if (is_hand_or_job_end o && closed) ≡ ends_in opened + number_if (opens_any cause)
turned_ends tag o reply opened (Some c) closed is says =
    let more = one_more (bracket tag c) opened (is_hand_or_job c) refl in
    let none : number_if (is_hand_or_job_end o && closed) ≡ 0 = ap (λ t. number_if (t && closed)) (opens_or_ends o reply c is) in
    omega (arith, more, none)
turned_ends tag o reply opened None true is says =
    let less = without_one tag o opened says in
    let same : number_if (is_hand_or_job_end o && true) ≡ number_if (is_hand_or_job_end o) = ap number_if (and_true (is_hand_or_job_end o)) in
    omega (arith, less, same)
  where
    and_true : (t : Bool) → t && true ≡ t
    and_true true = refl
    and_true false = refl
turned_ends tag o reply opened None false is says =
    let same : number_if (is_hand_or_job_end o && false) ≡ 0 = ap number_if (and_false (is_hand_or_job_end o)) in
    omega (arith, same)
  where
    and_false : (t : Bool) → t && false ≡ false
    and_false true = refl
    and_false false = refl

pub ends_push : (history : List Entry) (e : Entry) → ends_in (brackets (history ++ e ∷ [])) + number_if (is_hand_or_job_end e.op && closes e.tag e.op (brackets history)) ≡ ends_in (brackets history) + number_if (opens_hand_or_job e.op e.reply)
ends_push history e =
    ap (λ opened. ends_in opened + number_if (is_hand_or_job_end e.op && closes e.tag e.op (brackets history))) (brackets-last history e)
    ∙ turned_ends e.tag e.op e.reply (brackets history) (opens e.op e.reply) (closes e.tag e.op (brackets history)) refl refl

-- what is ended so is open
pub some_open : (tag : Tag) (o : Op) (opened : List Bracket) → is_hand_or_job_end o && closes tag o opened ≡ true → 0 < ends_in opened
some_open tag o opened e =
    let both = split (is_hand_or_job_end o) (closes tag o opened) e in
    let less = without_one tag o opened both.1 in
    let one : number_if (is_hand_or_job_end o) ≡ 1 = ap number_if both.0 in
    omega (arith, less, one)
  where
    split : (s t : Bool) → s && t ≡ true → (s ≡ true) × (t ≡ true)
    split true t f = (refl, f)
    split false t f = absurd (cc f)

-- ---- what the brackets that are kept say

pub kept_ends : (history : List Entry) (kept : Brackets) (tag : Tag) (o : Op) → callers.StandsFor history kept → is_hand_or_job_end o && own_closes tag o (open_of kept tag.caller) ≡ is_hand_or_job_end o && closes tag o (brackets history)
kept_ends history kept tag o stands = ap (λ t. is_hand_or_job_end o && t) (ap (own_closes tag o) (stands tag.caller) ∙ sym (closes-own tag o (brackets history)))

pub own_ends : (history : List Entry) (tag : Tag) (o : Op) → IsOwnHandOrJobEnd tag o history → is_hand_or_job_end o && closes tag o (brackets history) ≡ true
own_ends history tag o own = ap (λ t. t && closes tag o (brackets history)) own.0 ∙ own.1

-- ---- no more are open than there are entries

without_fewer : (caller : ℕ) (opened : List Bracket) → length (without_innermost caller opened) ≤ length opened
without_fewer caller [] = omega arith
without_fewer caller (b ∷ outer) = by (b.tag.caller == caller) (without_fewer caller outer)
  where
    by : (k : Bool) → length (without_innermost caller outer) ≤ length outer → length (cond k outer (b ∷ without_innermost caller outer)) ≤ length (b ∷ outer)
    by true less = omega arith
    by false less = omega (arith, less)

turned_few : (tag : Tag) (cause : Option Cause) (closed : Bool) (opened : List Bracket) → length (turned tag cause closed opened) ≤ length opened + 1
turned_few tag (Some c) closed opened = omega arith
turned_few tag None true opened = omega (arith, without_fewer tag.caller opened)
turned_few tag None false opened = omega arith

carried_few : (opened : List Bracket) (history : List Entry) → length (carry with_entry opened history) ≤ length opened + length history
carried_few opened [] = omega arith
carried_few opened (e ∷ rest) =
    let few : length (with_entry opened e) ≤ length opened + 1 = turned_few e.tag (opens e.op e.reply) (closes e.tag e.op opened) opened in
    omega (arith, few, carried_few (with_entry opened e) rest)

pub ends_few : (history : List Entry) → ends_in (brackets history) ≤ length history
ends_few history =
    omega (arith, length-filter is_of_hand_or_job (brackets history), count_by-le-length is_of_hand_or_job (brackets history), carried_few [] history)

-- ---- the history after an entry

-- such an end opens none
none_opened : (o : Op) (reply : Reply) → is_hand_or_job_end o ≡ true → opens_hand_or_job o reply ≡ false
none_opened (op.EndHand listener) reply e = refl
none_opened op.EndJob reply e = refl
none_opened o reply e = absurd (cc e)

at_most_one : (t : Bool) → number_if t ≤ 1
at_most_one true = omega arith
at_most_one false = omega arith

-- there is room for the ends that are left, where room was made for so many entries
pub ends_then : (history after : List Entry) (tag : Tag) (o : Op) (reply said : Reply) (kept : Brackets) (hands now room capacity : ℕ) (ended : Bool) → callers.StandsFor history kept → hands ≡ ends_in (brackets history) →
    ended ≡ is_hand_or_job_end o && own_closes tag o (open_of kept tag.caller) → said ≡ reply → after ≡ history ++ record { tag = tag; op = o; reply = said } ∷ [] → now ≡ hands + number_if (opens_hand_or_job o reply) - number_if ended → length history + room ≤ capacity →
    (ended ≡ true → room ≡ hands) → (ended ≡ false → room ≡ hands + 2) → HasEnds after capacity now
ends_then history after tag o reply said kept hands now room capacity ended stands counted is same grown next fits own other =
    subst (λ (h : List Entry). HasEnds h capacity now) (sym (grown ∙ ap (λ (y : Reply). history ++ record { tag = tag; op = o; reply = y } ∷ []) same)) (by ended refl)
  where
    here : (t : Bool) → ended ≡ t → is_hand_or_job_end o && closes tag o (brackets history) ≡ t
    here t known = sym (kept_ends history kept tag o stands) ∙ sym is ∙ known

    left : (s t : Bool) → s && t ≡ true → s ≡ true
    left true t f = refl
    left false t f = absurd (cc f)

    by : (t : Bool) → ended ≡ t → HasEnds (history ++ record { tag = tag; op = o; reply = reply } ∷ []) capacity now
    by true known =
        let push = ends_push history (record { tag = tag; op = o; reply = reply }) in
        let one : number_if (is_hand_or_job_end o && closes tag o (brackets history)) ≡ 1 = ap number_if (here true known) in
        let said_one : number_if ended ≡ 1 = ap number_if known in
        let none : number_if (opens_hand_or_job o reply) ≡ 0 = ap number_if (none_opened o reply (left (is_hand_or_job_end o) (closes tag o (brackets history)) (here true known))) in
        let made = own known in
        let long = length-append history (record { tag = tag; op = o; reply = reply } ∷ []) in
        let some = some_open tag o (brackets history) (here true known) in
        record { open_ends = omega (arith, push, one, said_one, none, counted, next, some); room = omega (arith, long, fits, made, next, said_one, none, counted, some) }
    by false known =
        let push = ends_push history (record { tag = tag; op = o; reply = reply }) in
        let zero : number_if (is_hand_or_job_end o && closes tag o (brackets history)) ≡ 0 = ap number_if (here false known) in
        let said_zero : number_if ended ≡ 0 = ap number_if known in
        let made = other known in
        let long = length-append history (record { tag = tag; op = o; reply = reply } ∷ []) in
        record { open_ends = omega (arith, push, zero, said_zero, counted, next); room = omega (arith, long, fits, made, next, said_zero, at_most_one (opens_hand_or_job o reply)) }
