-- A legal history hands no more events than the session's limit.
use Rattle.std.proofs.Common.{◌≡◌, ◌⊎◌, inl, inr, ◌+◌, ◌<◌, ◌≤◌, ℕ, Bool, true, false, List, [], ◌∷◌, ◌++◌, length, length-append, refl, sym, ap, ◌∙◌, subst, arith}
use Rattle.std.specs.Prelude.{cond, filter}
use Rattle.std.proofs.lemmas.Bool.{cases_lt}
use Rattle.std.proofs.lemmas.List.Elements.{filter-append}
use Rattle.osgi_legal.specs.Legal.{AreAllowed, IsAllowed}
use Rattle.osgi_ops.specs.Listening.{handings, is_handed}
use Rattle.osgi_ops.specs.Moments.{entries_in, Moment, moment, Told}
use Rattle.osgi_legal.specs.Operations.{conditions, IsReply}
use Rattle.osgi_ops.specs.Replies.{is_accepted}
use Rattle.osgi_ops.specs.Settings.{Setting}
use Rattle.osgi_ops.specs.declared.entry.Entry.{Entry}
use Rattle.osgi_ops.specs.declared.op.Op.{Op}
use Rattle.osgi_ops.specs.declared.op.Op.TheVariants as op
use Rattle.osgi_ops.specs.declared.refusal.Refusal.TheVariants.{HandingsSpent}
use Rattle.osgi_ops.specs.declared.reply.Reply.{Reply}
use Rattle.osgi_ops.specs.declared.reply.Reply.TheVariants as answer
use Rattle.osgi_ops.specs.laws.Along.{holds}
use Rattle.osgi_ops.specs.rows.Events.{IsHanding, IsNothing}
use Rattle.osgi_legal.proofs.Accepted.{accepted, NoneHolds}
use Rattle.osgi_legal.proofs.Owned.{entries-last}

handed-is : (o : Op) (y : Reply) → is_handed o y ≡ true → (o ≡ op.Hand) × (is_accepted y ≡ true)
handed-is op.Hand (answer.Handed listener kind owner row name event) e = (refl, refl)
handed-is op.Hand y e = absurd (cc e)
handed-is o y e = absurd (cc e)

-- an event is handed only while fewer were than may be
pub hand-within : (now : Moment) (y : Reply) → IsReply now op.Hand y → is_handed op.Hand y ≡ true → handings now.before < now.setting.bounds.handings
hand-within now y r e = by (accepted now op.Hand y r (handed-is op.Hand y e).1)
  where
    by : NoneHolds (conditions now op.Hand) × (IsHanding now y ⊎ IsNothing now y) → handings now.before < now.setting.bounds.handings
    by (none, inl handing) = elim (cases_lt (handings now.before) now.setting.bounds.handings) [
      | inl below ↦ below
      | inr spent ↦ absurd (none.1.0 HandingsSpent (refl, ((handing.listener, handing.spot, handing.earliest.ready), spent)))
    ]
    by (none, inr nothing) = absurd (let bad : true ≡ false = sym e ∙ ap (is_handed op.Hand) nothing.is in cc bad)

-- one more entry hands one at most
abbrev one_where : Bool → ℕ
one_where k = cond k 1 0

handings-push : (h : List Entry) (e : Entry) → handings (h ++ e ∷ []) ≡ handings h + one_where (is_handed e.op e.reply)
handings-push h e =
    ap (λ (l : List Entry). length l) (filter-append hands h (e ∷ [])) ∙ length-append (filter hands h) (filter hands (e ∷ []))
    ∙ ap (λ n. handings h + n) (one (is_handed e.op e.reply))
  where
    hands : Entry → Bool
    hands x = is_handed x.op x.reply

    one : (k : Bool) → length (cond k (e ∷ []) []) ≡ one_where k
    one true = refl
    one false = refl

-- of every legal history: no more events are handed than may be
pub handings-within : (setting : Setting) (told : List Told) → AreAllowed setting told → handings (entries_in told) ≤ setting.bounds.handings
handings-within setting told legal =
    holds (IsAllowed setting) (λ l. handings (entries_in l) ≤ setting.bounds.handings) (omega arith)
    (λ front x before within a. more front x within a (is_handed x.entry.op x.entry.reply) refl)
    told legal
  where
    more : (front : List Told) (x : Told) → handings (entries_in front) ≤ setting.bounds.handings → IsAllowed setting front x → (k : Bool) → is_handed x.entry.op x.entry.reply ≡ k → handings (entries_in (front ++ x ∷ [])) ≤ setting.bounds.handings
    more front x within a k e =
        let is : handings (entries_in (front ++ x ∷ [])) ≡ handings (entries_in front) + one_where k =
        ap handings (entries-last front x) ∙ handings-push (entries_in front) x.entry ∙ ap (λ c. handings (entries_in front) + one_where c) e in
        subst (λ n. n ≤ setting.bounds.handings) (sym is) (by k e)
      where
        m : Moment
        m = moment setting front x.entry.tag

        by : (k : Bool) → is_handed x.entry.op x.entry.reply ≡ k → handings (entries_in front) + one_where k ≤ setting.bounds.handings
        by true e =
            let hand : x.entry.op ≡ op.Hand = (handed-is x.entry.op x.entry.reply e).0 in
            let below = hand-within m x.entry.reply (subst (λ o. IsReply m o x.entry.reply) hand a.replied) (subst (λ o. is_handed o x.entry.reply ≡ true) hand e) in
            omega (arith, below)
        by false e = omega (arith, within)
