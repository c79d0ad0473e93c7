-- Where each end of the innermost bracket is accepted, a run leaves the brackets that it found.
use Rattle.std.proofs.Common.{◌≡◌, ℕ, List, [], ◌∷◌, Bool, true, false, refl, subst, sym, ◌∙◌}
use Rattle.std.proofs.lemmas.Bool.{and_from, eq-eqb}
use Rattle.std.specs.Prelude.{Option, None, Some, ◌&&◌, ◌==◌}
use Rattle.osgi_base.specs.declared.ids.Tag.{Tag}
use Rattle.osgi_ops.specs.Brackets.{Bracket, bracket, Cause, handing, job, ends, opens}
use Rattle.osgi_ops.specs.OwnBrackets.{is_end, own_closes, own_turned, without_first}
use Rattle.osgi_runs.specs.Bound.{AreBound, ClosesTask, has_closed, push}
use Rattle.osgi_session.specs.Plans.{End}
use Rattle.osgi_session.specs.Runs.{Call, call, command_of, has_failed, Task, ends_drain, ends_jobs, Sections, Reads, at_stop, asked, ran, calm, empty, handed, over, fails, goes, none, took}
use Rattle.osgi_ops.specs.declared.op.Op.{Op}
use Rattle.osgi_ops.specs.declared.op.Op.TheVariants.{Hand, EndHand, TakeJob, EndJob}
use Rattle.osgi_ops.specs.declared.reply.Reply.{Reply}
use Rattle.osgi_ops.specs.declared.reply.Reply.TheVariants.{Refused, Handed, Job}
use Rattle.osgi_runs.proofs.Closing.{closes-plan}
use Rattle.osgi_legal.proofs.Owned.{ends-open-none, no-end}

-- what is an end opens none
pub is-end : (op : Op) (cause : Cause) → ends op cause ≡ true → is_end op ≡ true
is-end op cause e = go (is_end op) refl
  where
    go : (k : Bool) → is_end op ≡ k → is_end op ≡ true
    go true q = q
    go false q = absurd (let c : true ≡ false = sym e ∙ no-end op cause q in cc c)

and_false : (a b : Bool) → b ≡ false → (a && b) ≡ false
and_false true b e = e
and_false false b e = refl

not-closing : (tag : Tag) (op : Op) (own : List Bracket) → is_end op ≡ false → own_closes tag op own ≡ false
not-closing tag op [] e = refl
not-closing tag op (b ∷ outer) e = and_false (b.tag.command == tag.command) _ (no-end op b.cause e)

turn-begin : (tag : Tag) (o : Option Cause) (closed : Bool) (own : List Bracket) → closed ≡ false → own_turned tag o closed own ≡ push tag o own
turn-begin tag (Some cause) closed own e = refl
turn-begin tag None true own e = absurd (cc e)
turn-begin tag None false own e = refl

turn-end : (tag : Tag) (o : Option Cause) (closed : Bool) (own : List Bracket) → o ≡ None → closed ≡ true → own_turned tag o closed own ≡ without_first own
turn-end tag (Some cause) closed own n e = absurd (cc n)
turn-end tag None true own n e = refl
turn-end tag None false own n e = absurd (cc e)

-- the brackets behind a call that is no end
pub behind : (limit : ℕ) (tag : Tag) (after : List Bracket → Type 0) (own : List Bracket) (asks : Op) (reply : Reply) (calls : List Call) → is_end asks ≡ false →
    AreBound limit tag after own (call asks reply ∷ calls) → AreBound limit tag after (push tag (opens asks reply) own) calls
behind limit tag after own asks reply calls n h = subst (λ b. AreBound limit tag after b calls) (turn-begin tag (opens asks reply) (own_closes tag asks own) own (not-closing tag asks own n)) h.1

-- the brackets behind the end of the innermost one
pub behind-end : (limit : ℕ) (tag : Tag) (after : List Bracket → Type 0) (own : List Bracket) (cause : Cause) (asks : Op) (reply : Reply) (calls : List Call) → ends asks cause ≡ true →
    AreBound limit tag after (bracket tag cause ∷ own) (call asks reply ∷ calls) → (has_closed asks reply ≡ true) × AreBound limit tag after own calls
behind-end limit tag after own cause asks reply calls n h =
    let closed : own_closes tag asks (bracket tag cause ∷ own) ≡ true = and_from (tag.command == tag.command) _ (eq-eqb tag.command tag.command refl) n in
    (h.0.ended closed, subst (λ b. AreBound limit tag after b calls) (turn-end tag (opens asks reply) _ (bracket tag cause ∷ own) (ends-open-none asks reply (is-end asks cause n)) closed) h.1)

-- a Hand that ends a drain, and a TakeJob that ends the jobs, open nothing
pub hand-quiet : (reply : Reply) → ends_drain reply ≡ true → opens Hand reply ≡ None
hand-quiet (Handed listener kind owner row name event) e = absurd (cc e)
hand-quiet (Refused refusal) e = refl
hand-quiet reply e = refl

pub take-quiet : (reply : Reply) → ends_jobs reply ≡ true → opens TakeJob reply ≡ None
take-quiet (Job owner row name) e = absurd (cc e)
take-quiet reply e = refl

pub balanced : {script : Sections} (limit : ℕ) (tag : Tag) (after : List Bracket → Type 0) {t : Task} {end : End} {calls left : List Call} → Reads script t end calls left →
    (o : Option Cause) (own : List Bracket) → ClosesTask o t → AreBound limit tag after (push tag o own) calls → AreBound limit tag after own left
balanced limit tag after at_stop None own c h = h
balanced limit tag after at_stop (Some cause) own c h = absurd c
balanced limit tag after (asked {asks = asks} {next = next} {reply = y} {calls = calls} {mid = mid} d x) None own c h =
    let b = push tag (opens asks y) own in
    balanced limit tag after x (opens asks y) own (c.1 y) (balanced limit tag after d None b refl (behind limit tag after own asks y calls c.0 h))
balanced limit tag after (asked {asks = asks} {next = next} {reply = y} {calls = calls} d x) (Some cause) own c h =
    let r = behind-end limit tag after own cause asks y calls c.0 h in
    balanced limit tag after x None own (c.1 y r.0).1 (balanced limit tag after d None own refl r.1)
balanced limit tag after (ran {inner = inner} s x) o own c h = balanced limit tag after x o own (c (has_failed inner)) (balanced limit tag after s None (push tag o own) refl h)
balanced limit tag after (calm {left = left}) o own c h = subst (λ k. AreBound limit tag after (push tag k own) left) c h
balanced limit tag after (empty {reply = y} {left = left} e) o own c h =
    let k : AreBound limit tag after own (call Hand y ∷ left) = subst (λ k. AreBound limit tag after (push tag k own) (call Hand y ∷ left)) c h in
    subst (λ k. AreBound limit tag after (push tag k own) left) (hand-quiet y e) (behind limit tag after own Hand y left refl k)
balanced limit tag after (handed {listener = l} {kind = kd} {owner = w} {row = n} {name = m} {event = v} {reply = y} {calls = calls} {mid = mid} s x) o own c h =
    let k : AreBound limit tag after own (call Hand (Handed l kd w n m v) ∷ calls) = subst (λ k. AreBound limit tag after (push tag k own) (call Hand (Handed l kd w n m v) ∷ calls)) c h in
    balanced limit tag after x None own refl (behind-end limit tag after own (handing l) (EndHand l) y mid (eq-eqb l.0 l.0 refl) (balanced limit tag after s None (bracket tag (handing l) ∷ own) refl k.1)).1
balanced limit tag after (over {left = left}) o own c h = subst (λ k. AreBound limit tag after (push tag k own) left) c h
balanced limit tag after (fails {owner = w} {bindings = g} {s = s} {calls = calls} x f) o own c h =
    balanced limit tag after x None own (closes-plan w (command_of w g s)) (subst (λ k. AreBound limit tag after (push tag k own) calls) c h)
balanced limit tag after (goes {owner = w} {bindings = g} {s = s} {calls = calls} x f y) o own c h =
    balanced limit tag after y None own refl (balanced limit tag after x None own (closes-plan w (command_of w g s)) (subst (λ k. AreBound limit tag after (push tag k own) calls) c h))
balanced limit tag after (none {reply = y} {left = left} e) o own c h =
    let k : AreBound limit tag after own (call TakeJob y ∷ left) = subst (λ k. AreBound limit tag after (push tag k own) (call TakeJob y ∷ left)) c h in
    subst (λ k. AreBound limit tag after (push tag k own) left) (take-quiet y e) (behind limit tag after own TakeJob y left refl k)
balanced limit tag after (took {owner = w} {row = n} {name = m} {reply = y} {calls = calls} {mid = mid} s x) o own c h =
    let k : AreBound limit tag after own (call TakeJob (Job w n m) ∷ calls) = subst (λ k. AreBound limit tag after (push tag k own) (call TakeJob (Job w n m) ∷ calls)) c h in
    balanced limit tag after x None own refl (behind-end limit tag after own job EndJob y mid refl (balanced limit tag after s None (bracket tag job ∷ own) refl k.1)).1
