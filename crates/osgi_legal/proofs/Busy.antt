-- A bundle whose start or stop has begun and not ended is live; and one that is up after an entry was so before, or the entry began its start.
use Rattle.std.proofs.Common.{◌≡◌, ◌⊎◌, inl, inr, ℕ, Bool, true, false, List, [], ◌∷◌, ◌++◌, refl, sym, ap, ◌∙◌, subst}
use Rattle.std.specs.Prelude.{◌==◌, ◌||◌, ◌&&◌, not, Option}
use Rattle.std.proofs.lemmas.Bool.{and_from, and_parts, not-true, or_left, or_right}
use Rattle.osgi_base.specs.declared.ids.BundleId.{BundleId}
use Rattle.osgi_base.specs.declared.ids.Tag.{Tag}
use Rattle.osgi_ops.specs.Brackets.{Bracket, brackets}
use Rattle.osgi_ops.specs.OwnBrackets.{is_end}
use Rattle.osgi_ops.specs.Bundles as bundles
use Rattle.osgi_ops.specs.Bundles.{active, idle, is_live, is_uninstall, phase, Phase}
use Rattle.osgi_legal.specs.Legal.{AreAllowed, IsAllowed}
use Rattle.osgi_ops.specs.Moments.{entries_in, Moment, moment, Told}
use Rattle.osgi_legal.specs.Operations.{IsReply}
use Rattle.osgi_ops.specs.Replies.{took_effect}
use Rattle.osgi_ops.specs.Settings.{Setting}
use Rattle.osgi_ops.specs.declared.entry.Entry.{Entry}
use Rattle.osgi_ops.specs.declared.op.Op.{Op}
use Rattle.osgi_ops.specs.declared.op.Op.TheVariants as op
use Rattle.osgi_ops.specs.declared.reply.Reply.{Reply}
use Rattle.osgi_ops.specs.declared.reply.Reply.TheVariants as answer
use Rattle.osgi_ops.specs.declared.target.Target.{Target}
use Rattle.osgi_ops.specs.laws.Along.{holds}
use Rattle.osgi_ops.specs.laws.Bundles.{live-stays}
use Rattle.osgi_legal.proofs.Listening.{effective-closes}
use Rattle.osgi_legal.proofs.Owned.{entries-last}
use Rattle.osgi_legal.proofs.Innermost.{has-one}
use Rattle.osgi_legal.proofs.Phases.{brackets_for, ends_for, ends_it, Fits, innermost-for, is_bracket_for, leaves, phase-quiet, phases-fit, start-row, starts, stop-row, stops, Turn, turn-of}
use Rattle.osgi_legal.proofs.Up.{is_idle, is_up_at, not-uninstalled, up-is}

-- ---- what has begun and not come to rest is live

pub live-by : (b : BundleId) (h : List Entry) → is_up_at h b ≡ true → is_live b h ≡ true
live-by b h up = go (b.0 == 0) refl up
  where
    go : (k : Bool) → (b.0 == 0) ≡ k → (k || (is_live b h && not (is_idle (phase b h)))) ≡ true → is_live b h ≡ true
    go true e u = or_left _ _ e
    go false e u = (and_parts (is_live b h) _ u).0

open-busy : (b : BundleId) (p : Phase) (last : Option Tag) (opened : List Bracket) → Fits b p last opened → (opened ≡ [] → ⊥) → is_idle p ≡ false
open-busy b idle last opened f n = absurd (n f)
open-busy b active last opened f n = refl
open-busy b bundles.starting last opened f n = refl
open-busy b bundles.stopping last opened f n = refl

end-stays : (b : BundleId) (o : Op) (y : Reply) → is_end o ≡ true → is_uninstall b o y ≡ false
end-stays b (op.Uninstall u) y e = absurd (cc e)
end-stays b o y e = refl

pub busy-up : (b : BundleId) (h : List Entry) → is_live b h ≡ true → is_idle (phase b h) ≡ false → is_up_at h b ≡ true
busy-up b h live busy = or_right _ _ (and_from _ _ live (ap not busy))

pub stop-up : (m : Moment) (x : Entry) (b : BundleId) (target : Target) (transient : Bool) (row : ℕ) → IsReply m x.op x.reply → x.op ≡ op.BeginStop target transient → x.reply ≡ answer.Begun b row →
    is_up_at m.before b ≡ true
stop-up m x b target transient row r so sr =
    let s = stop-row m target transient b row (subst (λ y. IsReply m (op.BeginStop target transient) y) sr (subst (λ o. IsReply m o x.reply) so r)) in
    sym (up-is m.world m.before b) ∙ or_left _ _ s.0

-- an end of the bundle's own bracket finds it begun
pub end-busy : (setting : Setting) (front : List Told) (x : Told) → AreAllowed setting front → IsAllowed setting front x → (b : BundleId) → is_end x.entry.op ≡ true →
    ends_for b x.entry.op ≡ true → took_effect x.entry.reply ≡ true → is_idle (phase b (entries_in front)) ≡ false
end-busy setting front x legal a b e f g =
    let m = moment setting front x.entry.tag in
    let closed = effective-closes m x.entry.op x.entry.reply a.replied e g in
    let i = innermost-for b x.entry.tag x.entry.op (brackets (entries_in front)) closed in
    open-busy b _ _ (brackets_for b (brackets (entries_in front))) (phases-fit setting front legal b) (λ none. has-one (is_bracket_for b) x.entry.tag.caller (brackets (entries_in front)) i.0 i.1 i.2 (i.3 ∙ f) none)

abbrev IsBusyLive : BundleId → List Entry → Type 0
IsBusyLive b h = is_idle (phase b h) ≡ false → is_live b h ≡ true

busy-step : (setting : Setting) (b : BundleId) (front : List Told) (x : Told) → AreAllowed setting front → IsAllowed setting front x → IsBusyLive b (entries_in front) → IsBusyLive b (entries_in front ++ x.entry ∷ [])
busy-step setting b front x legal a has busy = go (turn-of b x.entry.op x.entry.reply)
  where
    h : List Entry
    h = entries_in front

    m : Moment
    m = moment setting front x.entry.tag

    go : Turn b x.entry.op x.entry.reply → is_live b (h ++ x.entry ∷ []) ≡ true
    go (starts o p transient row begun so sr) =
        let s = start-row m b begun transient row (subst (λ y. IsReply m (op.BeginStart b transient) y) sr (subst (λ o. IsReply m o x.entry.reply) so a.replied)) in
        live-stays b h x.entry s.0 (ap (λ o. is_uninstall b o x.entry.reply) so)
    go (stops o p target transient row so sr) = live-stays b h x.entry (live-by b h (stop-up m x.entry b target transient row a.replied so sr)) (ap (λ o. is_uninstall b o x.entry.reply) so)
    go (ends_it e f g p q r) = live-stays b h x.entry (has (end-busy setting front x legal a b e f g)) (end-stays b x.entry.op x.entry.reply e)
    go (leaves q f g) =
        let was : is_idle (phase b h) ≡ false = sym (ap is_idle (phase-quiet b h x.entry q)) ∙ busy in
        kept (b.0 == 0) refl (has was) was
      where
        kept : (k : Bool) → (b.0 == 0) ≡ k → is_live b h ≡ true → is_idle (phase b h) ≡ false → is_live b (h ++ x.entry ∷ []) ≡ true
        kept true e l i = or_left _ _ e
        kept false e l i = live-stays b h x.entry l (not-uninstalled setting front x legal a b e (busy-up b h l i))

pub busy-live : (setting : Setting) (told : List Told) → AreAllowed setting told → (b : BundleId) → IsBusyLive b (entries_in told)
busy-live setting told legal b =
    holds (IsAllowed setting) (λ l. IsBusyLive b (entries_in l)) (λ e. absurd (cc e)) (λ front x before has a. subst (IsBusyLive b) (sym (entries-last front x)) (busy-step setting b front x before a has)) told legal

-- ---- a bundle that is up after an entry was so before, or the entry began its start

pub up-before : (setting : Setting) (front : List Told) (x : Told) → AreAllowed setting front → IsAllowed setting front x → (b : BundleId) → is_up_at (entries_in front ++ x.entry ∷ []) b ≡ true →
    (is_up_at (entries_in front) b ≡ true) ⊎ ((transient : Bool) × (row : ℕ) × (begun : BundleId) × (x.entry.op ≡ op.BeginStart b transient) × (x.entry.reply ≡ answer.Begun begun row))
up-before setting front x legal a b up = go (turn-of b x.entry.op x.entry.reply)
  where
    h : List Entry
    h = entries_in front

    m : Moment
    m = moment setting front x.entry.tag

    go : Turn b x.entry.op x.entry.reply → (is_up_at h b ≡ true) ⊎ ((transient : Bool) × (row : ℕ) × (begun : BundleId) × (x.entry.op ≡ op.BeginStart b transient) × (x.entry.reply ≡ answer.Begun begun row))
    go (starts o p transient row begun so sr) = inr (transient, row, begun, so, sr)
    go (stops o p target transient row so sr) = inl (stop-up m x.entry b target transient row a.replied so sr)
    go (ends_it e f g p q r) = let busy = end-busy setting front x legal a b e f g in inl (busy-up b h (busy-live setting front legal b busy) busy)
    go (leaves q f g) = inl (was (b.0 == 0) refl up)
      where
        was : (k : Bool) → (b.0 == 0) ≡ k → (k || (is_live b (h ++ x.entry ∷ []) && not (is_idle (phase b (h ++ x.entry ∷ []))))) ≡ true → is_up_at h b ≡ true
        was true e u = or_left _ _ e
        was false e u =
            let busy : is_idle (phase b h) ≡ false = sym (ap is_idle (phase-quiet b h x.entry q)) ∙ not-true _ (and_parts _ _ u).1 in
            busy-up b h (busy-live setting front legal b busy) busy
