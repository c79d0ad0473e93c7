-- What the replies of one caller's entries are bound to, by the brackets that it has open.
use Rattle.std.proofs.Common.{◌≡◌, ◌⊎◌, inl, inr, ◌≤◌, ℕ, List, [], ◌∷◌, ◌++◌, length, append_assoc, append-nil, Bool, true, false, refl, sym, ap, ◌∙◌, subst}
use Rattle.std.specs.Prelude.{cond}
use Rattle.std.proofs.lemmas.Bool.{eqb-true}
use Rattle.osgi_ops.specs.Along.{AllAlong}
use Rattle.osgi_ops.specs.Brackets.{Bracket, brackets, brackets_of, closes, opens, with_entry}
use Rattle.osgi_ops.specs.OwnBrackets.{own_closes, own_turned}
use Rattle.osgi_ops.specs.Conditions.{IsDeep}
use Rattle.osgi_ops.specs.declared.limits.TheConstants.{MAX_BRACKETS}
use Rattle.osgi_runs.specs.Bound.{finds_nothing, has_closed, is_hand, is_take, IsBound}
use Rattle.osgi_legal.specs.Legal.{IsAllowed}
use Rattle.osgi_legal.specs.Operations.{Answers, IsReply, IsRow}
use Rattle.osgi_ops.specs.Jobs.{jobs, Queued}
use Rattle.osgi_ops.specs.rows.Events.{IsHanding, IsNothing}
use Rattle.osgi_ops.specs.rows.Jobs.{taken}
use Rattle.osgi_session.specs.Rendering.{takes_no_job}
use Rattle.osgi_ops.specs.Replies.{verdict}
use Rattle.osgi_session.specs.Runs.{call, ends_drain, ends_jobs}
use Rattle.osgi_ops.specs.Callers.{by, is_by}
use Rattle.osgi_session.specs.Sessions.{call_of}
use Rattle.osgi_ops.specs.Settings.{Setting}
use Rattle.osgi_legal.specs.laws.Stages.{hand-here, here-row, take-here}
use Rattle.osgi_ops.specs.Moments.{moment, entries_in, Moment, Told}
use Rattle.osgi_ops.specs.declared.entry.Entry.{Entry}
use Rattle.osgi_ops.specs.declared.op.Op.{Op}
use Rattle.osgi_ops.specs.declared.op.Op.TheVariants.{EndMake, Hand, TakeJob}
use Rattle.osgi_ops.specs.declared.refusal.Refusal.TheVariants.{HandingsSpent, TooDeep}
use Rattle.osgi_ops.specs.declared.reply.Reply.{Reply}
use Rattle.osgi_ops.specs.declared.reply.Reply.TheVariants.{Refused}
use Rattle.osgi_ops.specs.laws.Brackets.{brackets-last}
use Rattle.osgi_legal.proofs.Owned.{answer-of, answered-of, closes-own, ended-by, entries-last, hand-row, of, of-turned, of-turned-other}

-- a TakeJob that takes no job found none, or its caller is as deep as it may be
taken-by : (m : Moment) (op : Op) (reply : Reply) → IsReply m op reply → is_take op ≡ true → ends_jobs reply ≡ true → (takes_no_job op reply ≡ true) ⊎ (MAX_BRACKETS ≤ length (brackets_of m.tag.caller m.before))
taken-by m TakeJob reply r h e = by (here-row m TakeJob reply take-here r)
  where
    found : (list : List Queued) → reply ≡ taken m list → (takes_no_job TakeJob reply ≡ true) ⊎ (MAX_BRACKETS ≤ length (brackets_of m.tag.caller m.before))
    found [] q = inl (ap (takes_no_job TakeJob) q)
    found (oldest ∷ rest) q = absurd (let c : true ≡ false = sym e ∙ ap ends_jobs q in cc c)

    by : IsRow m TakeJob reply → (takes_no_job TakeJob reply ≡ true) ⊎ (MAX_BRACKETS ≤ length (brackets_of m.tag.caller m.before))
    by (inl p) = inr p.1.1.1
    by (inr (n, p)) = let a = answer-of (Answers m TakeJob) (verdict reply) p in found (jobs m.before) (answered-of reply a.0 a.1 ∙ a.2)
taken-by m op reply r h e = absurd (cc h)

-- a Hand that ends its drain found nothing to hand, or its caller is as deep as it may be
found-by : (m : Moment) (op : Op) (reply : Reply) → IsReply m op reply → is_hand op ≡ true → ends_drain reply ≡ true → (finds_nothing op reply ≡ true) ⊎ (MAX_BRACKETS ≤ length (brackets_of m.tag.caller m.before))
found-by m Hand reply r h e = by (hand-row m reply (here-row m Hand reply hand-here r))
  where
    by : (IsDeep m × (reply ≡ Refused TooDeep)) ⊎ (reply ≡ Refused HandingsSpent) ⊎ IsHanding m reply ⊎ IsNothing m reply →
        (finds_nothing Hand reply ≡ true) ⊎ (MAX_BRACKETS ≤ length (brackets_of m.tag.caller m.before))
    by (inl deep) = inr deep.0
    by (inr (inl spent)) = absurd (let c : true ≡ false = sym e ∙ ap ends_drain spent in cc c)
    by (inr (inr (inl handing))) = absurd (let c : true ≡ false = sym e ∙ ap ends_drain handing.is in cc c)
    by (inr (inr (inr nothing))) = inl (ap (finds_nothing Hand) nothing.is)
found-by m op reply r h e = absurd (cc h)

closed-by : (m : Moment) (op : Op) (reply : Reply) → IsReply m op reply → closes m.tag op (brackets m.before) ≡ true → has_closed op reply ≡ true
closed-by m (EndMake failed) reply r f = refl
closed-by m op reply r f = ended-by m op reply r refl f

pub due-reply : (m : Moment) (op : Op) (reply : Reply) → IsReply m op reply → IsBound MAX_BRACKETS m.tag (brackets_of m.tag.caller m.before) (call op reply)
due-reply m op reply r =
    record { ended = λ f. closed-by m op reply r (closes-own m.tag op (brackets m.before) ∙ f); found = found-by m op reply r; taken = taken-by m op reply r }

-- ---- a caller's own entries

-- each of the caller's entries has a reply that it is bound to, and this holds of its brackets after them
abbrev pub AreDue : (List Bracket → Type 0) → List Bracket → List Entry → Type 0
AreDue after own [] = after own
AreDue after own (e ∷ rest) = IsBound MAX_BRACKETS e.tag own (call_of e) × AreDue after (own_turned e.tag (opens e.op e.reply) (own_closes e.tag e.op own) own) rest

-- of a legal history each caller's own entries are so
pub owned : (setting : Setting) (caller : ℕ) (front rest : List Told) → AllAlong (IsAllowed setting) front rest →
    AreDue (λ own. own ≡ brackets_of caller (entries_in (front ++ rest))) (brackets_of caller (entries_in front)) (by caller (entries_in rest))
owned setting caller front [] legal = ap (λ l. brackets_of caller (entries_in l)) (sym (append-nil front))
owned setting caller front (x ∷ rest) legal = go (is_by caller x.entry) refl (more (owned setting caller (front ++ x ∷ []) rest legal.1))
  where
    e : Entry
    e = x.entry

    told : List Told
    told = front ++ x ∷ []

    more : AreDue (λ own. own ≡ brackets_of caller (entries_in (told ++ rest))) (brackets_of caller (entries_in told)) (by caller (entries_in rest)) →
        AreDue (λ own. own ≡ brackets_of caller (entries_in (front ++ x ∷ rest))) (brackets_of caller (entries_in told)) (by caller (entries_in rest))
    more ih = subst (λ l. AreDue (λ own. own ≡ brackets_of caller (entries_in l)) (brackets_of caller (entries_in told)) (by caller (entries_in rest)))
        (append_assoc front (x ∷ []) rest) ih

    after : brackets_of caller (entries_in told) ≡ of caller (with_entry (brackets (entries_in front)) e)
    after = ap (λ h. brackets_of caller h) (entries-last front x) ∙ ap (of caller) (brackets-last (entries_in front) e)

    go : (k : Bool) → is_by caller e ≡ k → AreDue (λ own. own ≡ brackets_of caller (entries_in (front ++ x ∷ rest))) (brackets_of caller (entries_in told)) (by caller (entries_in rest)) →
        AreDue (λ own. own ≡ brackets_of caller (entries_in (front ++ x ∷ rest))) (brackets_of caller (entries_in front)) (cond k (e ∷ by caller (entries_in rest)) (by caller (entries_in rest)))
    go true q ih =
        let same : e.tag.caller ≡ caller = eqb-true e.tag.caller caller q in
        let turn : brackets_of caller (entries_in told) ≡ own_turned e.tag (opens e.op e.reply) (own_closes e.tag e.op (brackets_of caller (entries_in front))) (brackets_of caller (entries_in front)) =
        after ∙ subst (λ c. of c (with_entry (brackets (entries_in front)) e) ≡ own_turned e.tag (opens e.op e.reply) (own_closes e.tag e.op (of c (brackets (entries_in front)))) (of c (brackets (entries_in front)))) same
        (of-turned e.tag (opens e.op e.reply) (closes e.tag e.op (brackets (entries_in front))) (brackets (entries_in front))
        ∙ ap (λ k. own_turned e.tag (opens e.op e.reply) k (of e.tag.caller (brackets (entries_in front)))) (closes-own e.tag e.op (brackets (entries_in front)))) in (
          subst (λ c. IsBound MAX_BRACKETS e.tag (brackets_of c (entries_in front)) (call_of e)) same (due-reply (moment setting front e.tag) e.op e.reply legal.0.replied),
          subst (λ own. AreDue (λ end. end ≡ brackets_of caller (entries_in (front ++ x ∷ rest))) own (by caller (entries_in rest))) turn ih,
        )
    go false q ih =
        let turn : brackets_of caller (entries_in told) ≡ brackets_of caller (entries_in front) =
        after ∙ of-turned-other caller e.tag (opens e.op e.reply) (closes e.tag e.op (brackets (entries_in front))) (brackets (entries_in front)) q in
        subst (λ own. AreDue (λ end. end ≡ brackets_of caller (entries_in (front ++ x ∷ rest))) own (by caller (entries_in rest))) turn ih
