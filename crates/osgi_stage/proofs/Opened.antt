-- Which brackets are open while factories have not come: each is for a hand, a job, a start or a stop, and none for a make. So no end of a
-- make ends one.
use Rattle.std.proofs.Common.{◌≡◌, ℕ, Bool, true, false, List, [], ◌∷◌, refl, sym, ap, ◌∙◌, subst}
use Rattle.std.specs.Prelude.{◌==◌, ◌&&◌, cond, All, Option, None, Some, IsSomeAnd}
use Rattle.std.proofs.lemmas.List.Elements.{All-cons, All-head, All-nil, All-push, All-tail}
use Rattle.osgi_base.specs.declared.ids.BundleId.{BundleId}
use Rattle.osgi_base.specs.declared.ids.ServiceId.{ServiceId}
use Rattle.osgi_base.specs.declared.ids.Tag.{Tag}
use Rattle.osgi_ops.specs.Brackets as cause
use Rattle.osgi_ops.specs.Brackets.{Bracket, bracket, brackets, Cause, closes, ends, opens, without_innermost}
use Rattle.osgi_ops.specs.OwnBrackets.{turned}
use Rattle.osgi_legal.specs.Legal.{AreAllowed, IsAllowed}
use Rattle.osgi_ops.specs.Moments.{entries_in, Moment, moment, Told}
use Rattle.osgi_legal.specs.Operations.{IsReply}
use Rattle.osgi_ops.specs.Replies.{is_accepted}
use Rattle.osgi_ops.specs.Objects.{bundle_object}
use Rattle.osgi_ops.specs.Services.{live_service_at, made_of, Registered}
use Rattle.osgi_ops.specs.Settings.{Setting}
use Rattle.osgi_ops.specs.declared.entry.Entry.{Entry}
use Rattle.osgi_ops.specs.declared.op.Op.{Op}
use Rattle.osgi_ops.specs.declared.op.Op.TheVariants as op
use Rattle.osgi_ops.specs.declared.refusal.Refusal.{Refusal}
use Rattle.osgi_ops.specs.declared.refusal.Refusal.TheVariants.{InvalidOperation}
use Rattle.osgi_ops.specs.declared.reply.Reply.{Reply}
use Rattle.osgi_ops.specs.declared.reply.Reply.TheVariants as answer
use Rattle.osgi_ops.specs.declared.scope.Scope.{Scope}
use Rattle.osgi_ops.specs.declared.scope.Scope.TheVariants.{Singleton}
use Rattle.osgi_ops.specs.declared.target.Target.{Target}
use Rattle.osgi_ops.specs.laws.Along.{holds}
use Rattle.osgi_ops.specs.laws.Brackets.{brackets-last}
use Rattle.osgi_ops.specs.laws.Services.{MakesNone}
use Rattle.osgi_ops.specs.rows.Services.{got, got_as, got_reply}
use Rattle.osgi_legal.specs.laws.Stages.{late-refused}
use Rattle.osgi_legal.proofs.Accepted.{accepted}
use Rattle.osgi_stage.proofs.Singletons.{all-single, AreSingle, live-single}
use Rattle.osgi_legal.proofs.Owned.{entries-last}
use Rattle.osgi_stage.proofs.Windows.{refused-is}

-- it is for a make
abbrev pub is_late : Cause → Bool
is_late (cause.making m) = true
is_late c = false

abbrev pub AreNotLate : List Bracket → Type 0
AreNotLate opened = All (λ (x : Bracket). is_late x.cause ≡ false) opened

-- ---- what an entry opens

given-cause : (given c : Cause) → is_late given ≡ false → Some given ≡ Some c → is_late c ≡ false
given-cause given c so same = let q : given ≡ c = cc same in subst (λ x. is_late x ≡ false) q so

none-cause : (o : Option Cause) (c : Cause) → o ≡ None → o ≡ Some c → is_late c ≡ false
none-cause o c none same = absurd (let bad : None ≡ Some c = sym none ∙ same in cc bad)

hand-opens : (y : Reply) (c : Cause) → opens op.Hand y ≡ Some c → is_late c ≡ false
hand-opens (answer.Handed listener kind owner row name event) c is = given-cause (cause.handing listener) c refl is
hand-opens y c is = absurd (cc is)

take-opens : (y : Reply) (c : Cause) → opens op.TakeJob y ≡ Some c → is_late c ≡ false
take-opens (answer.Job owner row name) c is = given-cause cause.job c refl is
take-opens y c is = absurd (cc is)

start-opens : (b : BundleId) (transient : Bool) (y : Reply) (c : Cause) → opens (op.BeginStart b transient) y ≡ Some c → is_late c ≡ false
start-opens b transient (answer.Begun begun row) c is = given-cause (cause.starting b) c refl is
start-opens b transient y c is = absurd (cc is)

stop-opens : (target : Target) (transient : Bool) (y : Reply) (c : Cause) → opens (op.BeginStop target transient) y ≡ Some c → is_late c ≡ false
stop-opens target transient (answer.Begun begun row) c is = given-cause (cause.stopping begun) c refl is
stop-opens target transient y c is = absurd (cc is)

-- where every service has one object for all, a Get answers that
shares : (now : Moment) (user : BundleId) (service : ServiceId) (y : Reply) (at : Option Registered) → ((r : Registered) → at ≡ Some r → r.scope ≡ Singleton) →
    IsSomeAnd at (λ r. y ≡ got_reply now r (got now false user r)) → (text : List ℕ) × (y ≡ answer.Object text)
shares now user service y None single a = absurd a
shares now user service y (Some r) single a =
    (r.object, a ∙ ap (λ (s : Scope). got_reply now r (got_as false s (bundle_object user r.service now.before))) (single r refl))

-- so it opens nothing
none-made : (now : Moment) (user : BundleId) (service : ServiceId) (y : Reply) → AreSingle now.before → IsReply now (op.Get user service) y → opens (op.Get user service) y ≡ None
none-made now user service y single r = by (is_accepted y) refl
  where
    by : (k : Bool) → is_accepted y ≡ k → opens (op.Get user service) y ≡ None
    by true e =
        let s = shares now user service y (live_service_at service now.before) (λ r is. live-single now.before service r single is) (accepted now (op.Get user service) y r e).1 in
        ap (opens (op.Get user service)) s.1
    by false e = let f = refused-is y e in ap (opens (op.Get user service)) f.1

-- so what is due opens a bracket for a hand, a job, a start or a stop alone
due-opens : (now : Moment) (o : Op) (y : Reply) → AreSingle now.before → IsReply now o y → (c : Cause) → opens o y ≡ Some c → is_late c ≡ false
due-opens now op.Hand y single r c is = hand-opens y c is
due-opens now op.TakeJob y single r c is = take-opens y c is
due-opens now (op.BeginStart b transient) y single r c is = start-opens b transient y c is
due-opens now (op.BeginStop target transient) y single r c is = stop-opens target transient y c is
due-opens now (op.Get user service) y single r c is = none-cause (opens (op.Get user service) y) c (none-made now user service y single r) is
due-opens now (op.GetOwn user service) y single r c is =
    none-cause (opens (op.GetOwn user service) y) c (ap (opens (op.GetOwn user service)) (late-refused now (op.GetOwn user service) y refl r)) is
due-opens now o y single r c is = absurd (cc is)

-- ---- histories

without-innermost : (caller : ℕ) (opened : List Bracket) → AreNotLate opened → AreNotLate (without_innermost caller opened)
without-innermost caller [] all = all
without-innermost caller (x ∷ outer) all = by (x.tag.caller == caller) (without-innermost caller outer (All-tail (λ (z : Bracket). is_late z.cause ≡ false) x outer all))
  where
    Is : Bracket → Type 0
    Is z = is_late z.cause ≡ false

    by : (k : Bool) → AreNotLate (without_innermost caller outer) → AreNotLate (cond k outer (x ∷ without_innermost caller outer))
    by true left = All-tail Is x outer all
    by false left = All-cons Is x (without_innermost caller outer) (All-head Is x outer all) left

turned-so : (tag : Tag) (o : Option Cause) (closed : Bool) (opened : List Bracket) → ((c : Cause) → o ≡ Some c → is_late c ≡ false) → AreNotLate opened → AreNotLate (turned tag o closed opened)
turned-so tag (Some c) closed opened so all = All-cons (λ (x : Bracket). is_late x.cause ≡ false) (bracket tag c) opened (so c refl) all
turned-so tag None true opened so all = without-innermost tag.caller opened all
turned-so tag None false opened so all = all

-- of every legal history
pub opened-so : (setting : Setting) (told : List Told) → AreAllowed setting told → AreNotLate (brackets (entries_in told))
opened-so setting told legal =
    holds (IsAllowed setting) (λ l. AreNotLate (brackets (entries_in l))) (All-nil (λ (x : Bracket). is_late x.cause ≡ false))
    (λ front x before all a.
    let e = x.entry in
    let opened = brackets (entries_in front) in
    subst AreNotLate (sym (ap brackets (entries-last front x) ∙ brackets-last (entries_in front) e))
    (turned-so e.tag (opens e.op e.reply) (closes e.tag e.op opened) opened (due-opens (moment setting front e.tag) e.op e.reply (all-single setting front before) a.replied) all))
    told legal

-- ---- what ends none of them

ends-none : (tag : Tag) (o : Op) (opened : List Bracket) → ((c : Cause) → is_late c ≡ false → ends o c ≡ false) → AreNotLate opened → closes tag o opened ≡ false
ends-none tag o [] other all = refl
ends-none tag o (x ∷ outer) other all =
    by (x.tag.caller == tag.caller) (x.tag.command == tag.command) (ends-none tag o outer other (All-tail (λ (z : Bracket). is_late z.cause ≡ false) x outer all))
  where
    by : (k l : Bool) → closes tag o outer ≡ false → cond k (l && ends o x.cause) (closes tag o outer) ≡ false
    by true true rest = other x.cause (All-head (λ (z : Bracket). is_late z.cause ≡ false) x outer all)
    by true false rest = refl
    by false l rest = rest

-- no end of a make ends one
pub make-ends-none : (tag : Tag) (failed : Bool) (opened : List Bracket) → AreNotLate opened → closes tag (op.EndMake failed) opened ≡ false
make-ends-none tag failed opened all = ends-none tag (op.EndMake failed) opened other all
  where
    other : (c : Cause) → is_late c ≡ false → ends (op.EndMake failed) c ≡ false
    other (cause.making m) is = absurd (cc is)
    other c is = refl

-- ---- what is made

-- an end of a make that ends no bracket is refused
make-refused : (now : Moment) (failed : Bool) (y : Reply) → AreNotLate (brackets now.before) → IsReply now (op.EndMake failed) y → (f : Refusal) × (y ≡ answer.Refused f)
make-refused now failed y all r = by (is_accepted y) refl
  where
    by : (k : Bool) → is_accepted y ≡ k → (f : Refusal) × (y ≡ answer.Refused f)
    by true e = absurd ((accepted now (op.EndMake failed) y r e).0.0 InvalidOperation (refl, make-ends-none now.tag failed (brackets now.before) all))
    by false e = refused-is y e

-- so nothing that is due makes an object
due-makes : (now : Moment) (o : Op) (y : Reply) → AreNotLate (brackets now.before) → IsReply now o y → MakesNone o y
due-makes now (op.EndMake failed) y all r tag opened = let f = make-refused now failed y all r in ap (made_of tag opened (op.EndMake failed)) f.1
due-makes now o y all r tag opened = refl

-- in no legal history anything was made
pub makes-none : (setting : Setting) (told : List Told) → AreAllowed setting told → All (λ (e : Entry). MakesNone e.op e.reply) (entries_in told)
makes-none setting told legal =
    holds (IsAllowed setting) (λ l. All IsOne (entries_in l)) (All-nil IsOne)
    (λ front x before none a.
    subst (All IsOne) (sym (entries-last front x))
    (All-push IsOne (entries_in front) x.entry none (due-makes (moment setting front x.entry.tag) x.entry.op x.entry.reply (opened-so setting front before) a.replied)))
    told legal
  where
    IsOne : Entry → Type 0
    IsOne e = MakesNone e.op e.reply
