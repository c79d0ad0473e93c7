-- The open brackets of one caller, read off its own entries alone.
use Rattle.std.proofs.Common.{◌≡◌, ◌⊎◌, inl, inr, ℕ, List, [], ◌∷◌, ◌++◌, Bool, true, false, refl, sym, ap, ◌∙◌, subst}
use Rattle.std.specs.Prelude.{◌==◌, ◌&&◌, cond, filter, is_some, Option, None, Some}
use Rattle.std.proofs.lemmas.Bool.{eq-eqb, eqb-true}
use Rattle.std.proofs.lemmas.List.{map-append}
use Rattle.osgi_base.specs.declared.ids.Tag.{Tag}
use Rattle.osgi_ops.specs.Brackets.{Bracket, bracket, brackets, Cause, closes, ends, is_ended, opens, without_innermost}
use Rattle.osgi_ops.specs.OwnBrackets.{is_end, own_closes, own_turned, turned, without_first}
use Rattle.osgi_ops.specs.Conditions.{IsDeep}
use Rattle.osgi_legal.specs.Operations.{Answers, IsReply, IsRow}
use Rattle.osgi_legal.specs.laws.Stages.{ends-here, here-row}
use Rattle.osgi_ops.specs.rows.Events.{IsHanding, IsNothing}
use Rattle.osgi_ops.specs.Replies.{took_effect, verdict}
use Rattle.osgi_ops.specs.Moments.{entries_in, Moment, Told}
use Rattle.osgi_base.specs.Verdict.{Gives, Verdict, refuses, answers}
use Rattle.osgi_ops.specs.declared.op.Op.{Op}
use Rattle.osgi_ops.specs.declared.op.Op.TheVariants.{Hand, EndHand, EndJob, EndMake, EndStart, EndStop}
use Rattle.osgi_ops.specs.declared.refusal.Refusal.{Refusal}
use Rattle.osgi_ops.specs.declared.refusal.Refusal.TheVariants.{ActivatorError, HandingsSpent, InvalidOperation, TooDeep}
use Rattle.osgi_ops.specs.declared.reply.Reply.{Reply}
use Rattle.osgi_ops.specs.declared.reply.Reply.TheVariants.{Refused, Done}

abbrev pub of : ℕ → List Bracket → List Bracket
of caller opened = filter (λ (b : Bracket). b.tag.caller == caller) opened

skip : {X : Type 0} (p : X → Bool) (x : X) (xs : List X) → p x ≡ false → filter p (x ∷ xs) ≡ filter p xs
skip p x xs e = ap (λ k. cond k (x ∷ filter p xs) (filter p xs)) e

keep : {X : Type 0} (p : X → Bool) (x : X) (xs : List X) → p x ≡ true → filter p (x ∷ xs) ≡ x ∷ filter p xs
keep p x xs e = ap (λ k. cond k (x ∷ filter p xs) (filter p xs)) e

-- the innermost bracket of the caller goes
pub of-without : (caller : ℕ) (opened : List Bracket) → of caller (without_innermost caller opened) ≡ without_first (of caller opened)
of-without caller [] = refl
of-without caller (b ∷ outer) = go (b.tag.caller == caller) refl (of-without caller outer)
  where
    go : (k : Bool) → (b.tag.caller == caller) ≡ k → of caller (without_innermost caller outer) ≡ without_first (of caller outer) →
        of caller (cond k outer (b ∷ without_innermost caller outer)) ≡ without_first (cond k (b ∷ of caller outer) (of caller outer))
    go true e ih = refl
    go false e ih = skip (λ (x : Bracket). x.tag.caller == caller) b (without_innermost caller outer) e ∙ ih

-- and no other caller's
pub of-without-other : (caller other : ℕ) (opened : List Bracket) → (other == caller) ≡ false → of caller (without_innermost other opened) ≡ of caller opened
of-without-other caller other [] e = refl
of-without-other caller other (b ∷ outer) e = go (b.tag.caller == other) refl (of-without-other caller other outer e)
  where
    away : (b.tag.caller == other) ≡ true → (b.tag.caller == caller) ≡ false
    away f = subst (λ n. (n == caller) ≡ false) (sym (eqb-true b.tag.caller other f)) e

    go : (k : Bool) → (b.tag.caller == other) ≡ k → of caller (without_innermost other outer) ≡ of caller outer →
        of caller (cond k outer (b ∷ without_innermost other outer)) ≡ cond (b.tag.caller == caller) (b ∷ of caller outer) (of caller outer)
    go true f ih = sym (skip (λ (x : Bracket). x.tag.caller == caller) b outer (away f))
    go false f ih = ap (λ l. cond (b.tag.caller == caller) (b ∷ l) l) ih

pub of-turned : (tag : Tag) (o : Option Cause) (closed : Bool) (opened : List Bracket) → of tag.caller (turned tag o closed opened) ≡ own_turned tag o closed (of tag.caller opened)
of-turned tag (Some cause) closed opened = keep (λ (x : Bracket). x.tag.caller == tag.caller) (bracket tag cause) opened (eq-eqb tag.caller tag.caller refl)
of-turned tag None true opened = of-without tag.caller opened
of-turned tag None false opened = refl

pub of-turned-other : (caller : ℕ) (tag : Tag) (o : Option Cause) (closed : Bool) (opened : List Bracket) → (tag.caller == caller) ≡ false → of caller (turned tag o closed opened) ≡ of caller opened
of-turned-other caller tag (Some cause) closed opened e = skip (λ (x : Bracket). x.tag.caller == caller) (bracket tag cause) opened e
of-turned-other caller tag None true opened e = of-without-other caller tag.caller opened e
of-turned-other caller tag None false opened e = refl

pub entries-last : (told : List Told) (x : Told) → entries_in (told ++ x ∷ []) ≡ entries_in told ++ x.entry ∷ []
entries-last told x = map-append (λ (y : Told). y.entry) told (x ∷ [])

-- ---- what a legal reply is bound to

-- where nothing is refused, the answer is given
pub answer-of : {F Y : Type 0} (answer : Y → Type 0) (v : Verdict F Y) → Gives [] answer v → (y : Y) × (v ≡ answers y) × answer y
answer-of answer (refuses f) g = absurd g
answer-of answer (answers y) g = (y, refl, g)

pub refused-of : (reply : Reply) (f : Refusal) → verdict reply ≡ refuses f → reply ≡ Refused f
refused-of (Refused g) f e = let same : g ≡ f = cc e in ap Refused same
refused-of reply f e = absurd (cc e)

pub answered-of : (reply y : Reply) → verdict reply ≡ answers y → reply ≡ y
answered-of (Refused g) y e = absurd (cc e)
answered-of reply y e = cc e

-- an end of the innermost bracket did its work
one-row : (reply : Reply) (closed : Bool) → closed ≡ true → Gives ((λ f. (f ≡ InvalidOperation) × (closed ≡ false)) ∷ []) (λ y. y ≡ Done) (verdict reply) → took_effect reply ≡ true
one-row reply closed p (inl r) = absurd (let c : true ≡ false = sym p ∙ r.1.1 in cc c)
one-row reply closed p (inr r) =
    let a = answer-of (λ y. y ≡ Done) (verdict reply) r.1 in
    ap took_effect (answered-of reply a.0 a.1 ∙ a.2)

two-rows : (reply : Reply) (closed : Bool) (Q : Type 0) → closed ≡ true →
    Gives ((λ f. (f ≡ InvalidOperation) × (closed ≡ false)) ∷ (λ f. (f ≡ ActivatorError) × Q) ∷ []) (λ y. y ≡ Done) (verdict reply) → took_effect reply ≡ true
two-rows reply closed Q p (inl r) = absurd (let c : true ≡ false = sym p ∙ r.1.1 in cc c)
two-rows reply closed Q p (inr (n, inl r)) = ap took_effect (refused-of reply r.0 r.2 ∙ ap Refused r.1.0)
two-rows reply closed Q p (inr (n, inr r)) =
    let a = answer-of (λ y. y ≡ Done) (verdict reply) r.1 in
    ap took_effect (answered-of reply a.0 a.1 ∙ a.2)

-- what is no end closes nothing
pub no-end : (op : Op) (cause : Cause) → is_end op ≡ false → ends op cause ≡ false
no-end (EndHand listener) cause e = absurd (cc e)
no-end EndJob cause e = absurd (cc e)
no-end (EndStart bundle bad) cause e = absurd (cc e)
no-end (EndStop bundle bad) cause e = absurd (cc e)
no-end (EndMake bad) cause e = absurd (cc e)
no-end op cause e = refl

pub closes-not : (tag : Tag) (op : Op) (opened : List Bracket) → is_end op ≡ false → closes tag op opened ≡ false
closes-not tag op [] e = refl
closes-not tag op (b ∷ outer) e = go (b.tag.caller == tag.caller) (b.tag.command == tag.command) (closes-not tag op outer e)
  where
    go : (k l : Bool) → closes tag op outer ≡ false → cond k (l && ends op b.cause) (closes tag op outer) ≡ false
    go true true ih = no-end op b.cause e
    go true false ih = refl
    go false l ih = ih

-- the caller's own brackets say the same
pub closes-own : (tag : Tag) (op : Op) (opened : List Bracket) → closes tag op opened ≡ own_closes tag op (of tag.caller opened)
closes-own tag op [] = refl
closes-own tag op (b ∷ outer) = go (b.tag.caller == tag.caller) (closes-own tag op outer)
  where
    go : (k : Bool) → closes tag op outer ≡ own_closes tag op (of tag.caller outer) → cond k (is_ended tag op b) (closes tag op outer) ≡ own_closes tag op (cond k (b ∷ of tag.caller outer) (of tag.caller outer))
    go true ih = refl
    go false ih = ih

-- the end of a make alone ends its bracket where it is refused, too
abbrev pub is_make_end : Op → Bool
is_make_end (EndMake bad) = true
is_make_end op = false

pub ended-by : (m : Moment) (op : Op) (reply : Reply) → IsReply m op reply → is_make_end op ≡ false → closes m.tag op (brackets m.before) ≡ true → took_effect reply ≡ true
ended-by m (EndHand listener) reply r n f = one-row reply _ f (here-row m (EndHand listener) reply (ends-here (EndHand listener) refl) r)
ended-by m EndJob reply r n f = one-row reply _ f (here-row m EndJob reply (ends-here EndJob refl) r)
ended-by m (EndStart bundle bad) reply r n f = two-rows reply _ (bad ≡ true) f (here-row m (EndStart bundle bad) reply (ends-here (EndStart bundle bad) refl) r)
ended-by m (EndStop bundle bad) reply r n f = two-rows reply _ (bad ≡ true) f (here-row m (EndStop bundle bad) reply (ends-here (EndStop bundle bad) refl) r)
ended-by m (EndMake bad) reply r n f = absurd (cc n)
ended-by m op reply r n f = absurd (let c : true ≡ false = sym f ∙ closes-not m.tag op (brackets m.before) refl in cc c)

-- the row of Hand
pub hand-row : (m : Moment) (reply : Reply) → IsRow m Hand reply → (IsDeep m × (reply ≡ Refused TooDeep)) ⊎ (reply ≡ Refused HandingsSpent) ⊎ IsHanding m reply ⊎ IsNothing m reply
hand-row m reply (inl r) = inl (r.1.1.1, refused-of reply r.0 r.2 ∙ ap Refused r.1.0)
hand-row m reply (inr (n, inl r)) = inr (inl (refused-of reply r.0 r.2 ∙ ap Refused r.1.0))
hand-row m reply (inr (n, inr r)) =
    let a = answer-of (Answers m Hand) (verdict reply) r.1 in
    let e : reply ≡ a.0 = answered-of reply a.0 a.1 in
    inr (inr (subst (λ y. IsHanding m y ⊎ IsNothing m y) (sym e) a.2))

-- an end opens nothing
pub ends-open-none : (op : Op) (reply : Reply) → is_end op ≡ true → opens op reply ≡ None
ends-open-none (EndHand listener) reply e = refl
ends-open-none EndJob reply e = refl
ends-open-none (EndStart bundle bad) reply e = refl
ends-open-none (EndStop bundle bad) reply e = refl
ends-open-none (EndMake bad) reply e = refl
ends-open-none op reply e = absurd (cc e)

pub some-of : {X : Type 0} (o : Option X) → is_some o ≡ true → (x : X) × (o ≡ Some x)
some-of None e = absurd (cc e)
some-of (Some x) e = (x, refl)
