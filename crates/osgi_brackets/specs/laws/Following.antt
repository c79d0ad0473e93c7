-- The brackets of each caller after one more entry.
use Rattle.std.proofs.Common.{◌≡◌, ℕ, List, [], ◌∷◌, ◌++◌, Bool, true, false, refl, sym, ap, ◌∙◌, subst}
use Rattle.std.specs.Prelude.{◌==◌, cond, filter, Option, None, Some}
use Rattle.std.proofs.lemmas.Bool.{eq-eqb, eqb-true}
use Rattle.osgi_base.specs.declared.ids.Tag.{Tag}
use Rattle.osgi_ops.specs.Brackets.{Bracket, bracket, brackets, brackets_of, Cause, closes, is_ended, opens, with_entry, without_innermost}
use Rattle.osgi_ops.specs.OwnBrackets.{own_closes, own_turned, turned, without_first}
use Rattle.osgi_ops.specs.declared.entry.Entry.{Entry}
use Rattle.osgi_ops.specs.declared.op.Op.{Op}
use Rattle.osgi_ops.specs.laws.Along.{carry-last}
use Rattle.osgi_brackets.specs.declared.brackets.Brackets.{Brackets}
use Rattle.osgi_brackets.specs.Open.{Closes, open_of, Opens, StandsFor}

of : ℕ → List Bracket → List Bracket
of caller opened = filter (λ (b : Bracket). b.tag.caller == caller) opened

skip : {X : Type 0} (p : X → Bool) (x : X) (xs : List X) → p x ≡ false → filter p (x ∷ xs) ≡ filter p xs
skip p x xs e = ap (λ k. cond k (x ∷ filter p xs) (filter p xs)) e

keep : {X : Type 0} (p : X → Bool) (x : X) (xs : List X) → p x ≡ true → filter p (x ∷ xs) ≡ x ∷ filter p xs
keep p x xs e = ap (λ k. cond k (x ∷ filter p xs) (filter p xs)) e

-- the innermost bracket of the caller goes
of-without : (caller : ℕ) (opened : List Bracket) → of caller (without_innermost caller opened) ≡ without_first (of caller opened)
unfolding of
of-without caller [] = refl
of-without caller (b ∷ outer) = go (b.tag.caller == caller) refl (of-without caller outer)
  where
    go : (k : Bool) → (b.tag.caller == caller) ≡ k → of caller (without_innermost caller outer) ≡ without_first (of caller outer) →
        of caller (cond k outer (b ∷ without_innermost caller outer)) ≡ without_first (cond k (b ∷ of caller outer) (of caller outer))
    go true e ih = refl
    go false e ih = skip (λ (x : Bracket). x.tag.caller == caller) b (without_innermost caller outer) e ∙ ih

-- and no other caller's
of-without-other : (caller other : ℕ) (opened : List Bracket) → (other == caller) ≡ false → of caller (without_innermost other opened) ≡ of caller opened
unfolding of
of-without-other caller other [] e = refl
of-without-other caller other (b ∷ outer) e = go (b.tag.caller == other) refl (of-without-other caller other outer e)
  where
    away : (b.tag.caller == other) ≡ true → (b.tag.caller == caller) ≡ false
    away f = subst (λ n. (n == caller) ≡ false) (sym (eqb-true b.tag.caller other f)) e

    go : (k : Bool) → (b.tag.caller == other) ≡ k → of caller (without_innermost other outer) ≡ of caller outer →
        of caller (cond k outer (b ∷ without_innermost other outer)) ≡ cond (b.tag.caller == caller) (b ∷ of caller outer) (of caller outer)
    go true f ih = sym (skip (λ (x : Bracket). x.tag.caller == caller) b outer (away f))
    go false f ih = ap (λ l. cond (b.tag.caller == caller) (b ∷ l) l) ih

of-turned : (tag : Tag) (o : Option Cause) (closed : Bool) (opened : List Bracket) → of tag.caller (turned tag o closed opened) ≡ own_turned tag o closed (of tag.caller opened)
unfolding of
of-turned tag (Some cause) closed opened = keep (λ (x : Bracket). x.tag.caller == tag.caller) (bracket tag cause) opened (eq-eqb tag.caller tag.caller refl)
of-turned tag None true opened = of-without tag.caller opened
of-turned tag None false opened = refl

of-turned-other : (caller : ℕ) (tag : Tag) (o : Option Cause) (closed : Bool) (opened : List Bracket) → (tag.caller == caller) ≡ false → of caller (turned tag o closed opened) ≡ of caller opened
unfolding of
of-turned-other caller tag (Some cause) closed opened e = skip (λ (x : Bracket). x.tag.caller == caller) (bracket tag cause) opened e
of-turned-other caller tag None true opened e = of-without-other caller tag.caller opened e
of-turned-other caller tag None false opened e = refl

-- the caller's own brackets say which operation is an end
closes-own : (tag : Tag) (op : Op) (opened : List Bracket) → closes tag op opened ≡ own_closes tag op (of tag.caller opened)
unfolding of
closes-own tag op [] = refl
closes-own tag op (b ∷ outer) = go (b.tag.caller == tag.caller) (closes-own tag op outer)
  where
    go : (k : Bool) → closes tag op outer ≡ own_closes tag op (of tag.caller outer) → cond k (is_ended tag op b) (closes tag op outer) ≡ own_closes tag op (cond k (b ∷ of tag.caller outer) (of tag.caller outer))
    go true ih = refl
    go false ih = ih

brackets-last : (history : List Entry) (e : Entry) → brackets (history ++ e ∷ []) ≡ with_entry (brackets history) e
brackets-last history e = carry-last with_entry [] history e

-- the caller of an entry has its brackets with what the entry opens, or without what it ends
pub own-after : (history : List Entry) (e : Entry) →
    brackets_of e.tag.caller (history ++ e ∷ []) ≡ own_turned e.tag (opens e.op e.reply) (own_closes e.tag e.op (brackets_of e.tag.caller history)) (brackets_of e.tag.caller history)
unfolding of
own-after history e =
    ap (of e.tag.caller) (brackets-last history e)
    ∙ of-turned e.tag (opens e.op e.reply) (closes e.tag e.op (brackets history)) (brackets history)
    ∙ ap (λ closed. own_turned e.tag (opens e.op e.reply) closed (brackets_of e.tag.caller history)) (closes-own e.tag e.op (brackets history))

-- and each other caller those that it had
pub others-after : (caller : ℕ) (history : List Entry) (e : Entry) → (e.tag.caller == caller) ≡ false → brackets_of caller (history ++ e ∷ []) ≡ brackets_of caller history
unfolding of
others-after caller history e other =
    ap (of caller) (brackets-last history e) ∙ of-turned-other caller e.tag (opens e.op e.reply) (closes e.tag e.op (brackets history)) (brackets history) other

-- ---- brackets that stand for a history stand for it with one more entry

by-caller : (history : List Entry) (e : Entry) (own other : ℕ → List Bracket) (caller : ℕ) (same : Bool) → (e.tag.caller == caller) ≡ same →
    own e.tag.caller ≡ brackets_of e.tag.caller (history ++ e ∷ []) → other caller ≡ brackets_of caller history → cond same (own caller) (other caller) ≡ brackets_of caller (history ++ e ∷ [])
by-caller history e own other caller true same is others = subst (λ n. own n ≡ brackets_of n (history ++ e ∷ [])) (eqb-true e.tag.caller caller same) is
by-caller history e own other caller false same is others = others ∙ sym (others-after caller history e same)

-- where it opens a bracket
pub opened-after : (history : List Entry) (e : Entry) (cause : Cause) (old new : Brackets) → StandsFor history old → opens e.op e.reply ≡ Some cause → Opens old new e.tag cause → StandsFor (history ++ e ∷ []) new
opened-after history e cause old new stands says opened = λ caller.
    opened caller
    ∙ by-caller history e (λ n. bracket e.tag cause ∷ open_of old n) (open_of old) caller (e.tag.caller == caller) refl
    (ap (λ l. bracket e.tag cause ∷ l) (stands e.tag.caller)
    ∙ sym (own-after history e ∙ ap (λ o. own_turned e.tag o (own_closes e.tag e.op (brackets_of e.tag.caller history)) (brackets_of e.tag.caller history)) says))
    (stands caller)

-- where it ends the innermost of its caller
pub closed-after : (history : List Entry) (e : Entry) (old new : Brackets) → StandsFor history old → opens e.op e.reply ≡ None → own_closes e.tag e.op (open_of old e.tag.caller) ≡ true →
    Closes old new e.tag.caller → StandsFor (history ++ e ∷ []) new
closed-after history e old new stands says ended closed = λ caller.
    closed caller
    ∙ by-caller history e (λ n. without_first (open_of old n)) (open_of old) caller (e.tag.caller == caller) refl
    (ap without_first (stands e.tag.caller) ∙ sym (own-after history e ∙ turned-so))
    (stands caller)
  where
    turned-so : own_turned e.tag (opens e.op e.reply) (own_closes e.tag e.op (brackets_of e.tag.caller history)) (brackets_of e.tag.caller history) ≡ without_first (brackets_of e.tag.caller history)
    turned-so =
        ap (λ o. own_turned e.tag o (own_closes e.tag e.op (brackets_of e.tag.caller history)) (brackets_of e.tag.caller history)) says
        ∙ ap (λ k. own_turned e.tag None k (brackets_of e.tag.caller history)) (ap (own_closes e.tag e.op) (sym (stands e.tag.caller)) ∙ ended)

-- where it does neither
pub quiet-after : (history : List Entry) (e : Entry) (old : Brackets) → StandsFor history old → opens e.op e.reply ≡ None → own_closes e.tag e.op (open_of old e.tag.caller) ≡ false →
    StandsFor (history ++ e ∷ []) old
quiet-after history e old stands says stays = λ caller.
    sym (cond-same (e.tag.caller == caller) (open_of old caller))
    ∙ by-caller history e (open_of old) (open_of old) caller (e.tag.caller == caller) refl
    (stands e.tag.caller ∙ sym (own-after history e ∙ turned-so))
    (stands caller)
  where
    cond-same : {Y : Type 0} (b : Bool) (y : Y) → cond b y y ≡ y
    cond-same true y = refl
    cond-same false y = refl

    turned-so : own_turned e.tag (opens e.op e.reply) (own_closes e.tag e.op (brackets_of e.tag.caller history)) (brackets_of e.tag.caller history) ≡ brackets_of e.tag.caller history
    turned-so =
        ap (λ o. own_turned e.tag o (own_closes e.tag e.op (brackets_of e.tag.caller history)) (brackets_of e.tag.caller history)) says
        ∙ ap (λ k. own_turned e.tag None k (brackets_of e.tag.caller history)) (ap (own_closes e.tag e.op) (sym (stands e.tag.caller)) ∙ stays)
