-- Which bundles are up: one that is up had a begin, and stays up until it is cleaned.
use Rattle.std.proofs.Common.{◌≡◌, ◌⊎◌, inl, inr, List, [], ◌∷◌, ◌++◌, Bool, true, false, refl, sym, ap, ◌∙◌, subst}
use Rattle.std.specs.Prelude.{◌==◌, ◌||◌, ◌&&◌, not, cond, is_some, Option, None, Some, IsSomeAnd}
use Rattle.std.proofs.lemmas.Bool.{and_parts, and_from, not-true, or_left, or_right}
use Rattle.std.specs.Option.{option_map_or}
use Rattle.osgi_base.specs.declared.ids.BundleId.{BundleId}
use Rattle.osgi_base.specs.declared.ids.Tag.{Tag}
use Rattle.osgi_ops.specs.Brackets.{Bracket, brackets}
use Rattle.osgi_ops.specs.Bundles as bundles
use Rattle.osgi_ops.specs.Bundles.{active, begun_by, idle, is_live, is_uninstall, is_up, last_begin, phase, Phase, put_into, running, state}
use Rattle.osgi_ops.specs.Cleaning.{cleans}
use Rattle.osgi_ops.specs.Conditions.{state_change, state_of}
use Rattle.osgi_legal.specs.Legal.{AreAllowed, IsAllowed}
use Rattle.osgi_ops.specs.Moments.{entries_in, Moment, moment, Told, world_after}
use Rattle.osgi_legal.specs.Operations.{IsReply}
use Rattle.osgi_ops.specs.Replies.{is_accepted, took_effect}
use Rattle.osgi_ops.specs.Resolved.{is_resolved}
use Rattle.osgi_ops.specs.Settings.{Setting}
use Rattle.osgi_ops.specs.declared.entry.Entry.{Entry}
use Rattle.osgi_ops.specs.declared.op.Op.{Op}
use Rattle.osgi_ops.specs.declared.op.Op.TheVariants as op
use Rattle.osgi_ops.specs.declared.refusal.Refusal.{Refusal}
use Rattle.osgi_ops.specs.declared.refusal.Refusal.TheVariants as no
use Rattle.osgi_ops.specs.declared.reply.Reply.{Reply}
use Rattle.osgi_ops.specs.declared.reply.Reply.TheVariants as answer
use Rattle.osgi_world.specs.declared.world.World.{World}
use Rattle.osgi_ops.specs.laws.Along.{holds, latest-quiet}
use Rattle.osgi_legal.proofs.Accepted.{accepted, effective-refused}
use Rattle.osgi_ops.specs.laws.Bundles.{live-stays}
use Rattle.osgi_legal.proofs.Listening.{effective-closes}
use Rattle.osgi_legal.proofs.Owned.{entries-last, some-of}
use Rattle.osgi_legal.proofs.Innermost.{has-one}
use Rattle.osgi_legal.proofs.Phases.{begun-set, brackets_for, ends_it, Fits, innermost-for, is_bracket_for, leaves, phase-quiet, phase-set, phases-fit, puts, same-id, starts, stops, Turn, turn-of}

-- ---- up, read off the history alone

abbrev pub is_idle : Phase → Bool
is_idle idle = true
is_idle p = false

pub idle-is : (p : Phase) → is_idle p ≡ true → p ≡ idle
idle-is idle e = refl
idle-is active e = absurd (cc e)
idle-is bundles.starting e = absurd (cc e)
idle-is bundles.stopping e = absurd (cc e)

-- the system bundle, or a live one that is starting, active or stopping
abbrev pub is_up_at : List Entry → BundleId → Bool
is_up_at history b = (b.0 == 0) || (is_live b history && not (is_idle (phase b history)))

resting-down : (r : Bool) → is_up (bundles.resting r) ≡ false
resting-down true = refl
resting-down false = refl

up-running : (p : Phase) (r : Bool) → is_up (running p r) ≡ not (is_idle p)
up-running idle r = resting-down r
up-running active r = refl
up-running bundles.starting r = refl
up-running bundles.stopping r = refl

pub up-is : (world : World) (history : List Entry) (b : BundleId) → is_up (state world history b) ≡ is_up_at history b
up-is world history b = go (b.0 == 0) (is_live b history)
  where
    go : (k l : Bool) → is_up (cond k bundles.Active (cond l (running (phase b history) (is_resolved world b)) bundles.Uninstalled)) ≡ (k || (l && not (is_idle (phase b history))))
    go true l = refl
    go false true = up-running (phase b history) (is_resolved world b)
    go false false = refl

-- ---- a bundle that is up had a begin

abbrev HasBegun : BundleId → List Entry → Type 0
HasBegun b history = is_idle (phase b history) ≡ false → is_some (last_begin b history) ≡ true

abbrev begin_of : Tag → Option Phase → Option Tag
begin_of tag u = elim u [ Some bundles.starting ↦ Some tag | Some bundles.stopping ↦ Some tag | _ ↦ None ]

pub begun-quiet : (b : BundleId) (h : List Entry) (e : Entry) (p : Phase) → puts b e ≡ Some p → (p ≡ idle) ⊎ (p ≡ active) → last_begin b (h ++ e ∷ []) ≡ last_begin b h
begun-quiet b h e p q r = latest-quiet (begun_by b) h e (ap (begin_of e.tag) q ∙ rests p r)
  where
    rests : (p : Phase) → (p ≡ idle) ⊎ (p ≡ active) → begin_of e.tag (Some p) ≡ None
    rests p (inl s) = ap (λ (x : Phase). begin_of e.tag (Some x)) s
    rests p (inr s) = ap (λ (x : Phase). begin_of e.tag (Some x)) s

-- where a bracket for the bundle is open, there was a begin
open-begun : (b : BundleId) (p : Phase) (last : Option Tag) (opened : List Bracket) → Fits b p last opened → (opened ≡ [] → ⊥) → is_some last ≡ true
open-begun b idle last opened f n = absurd (n f)
open-begun b active last opened f n = absurd (n f)
open-begun b bundles.starting last opened f n = ap (λ (o : Option Tag). is_some o) f.1
open-begun b bundles.stopping last opened f n = ap (λ (o : Option Tag). is_some o) f.1

begun-step : (setting : Setting) (b : BundleId) (front : List Told) (x : Told) → AreAllowed setting front → IsAllowed setting front x → HasBegun b (entries_in front) → HasBegun b (entries_in front ++ x.entry ∷ [])
begun-step setting b front x legal a has = go (turn-of b x.entry.op x.entry.reply)
  where
    h : List Entry
    h = entries_in front

    m : Moment
    m = moment setting front x.entry.tag

    go : Turn b x.entry.op x.entry.reply → HasBegun b (h ++ x.entry ∷ [])
    go (starts o p transient row begun so sr) = λ n. ap (λ (o : Option Tag). is_some o) (begun-set b h x.entry (Some bundles.starting) p refl)
    go (stops o p target transient row so sr) = λ n. ap (λ (o : Option Tag). is_some o) (begun-set b h x.entry (Some bundles.stopping) p refl)
    go (ends_it e f g p q r) = λ n.
        let closed = effective-closes m x.entry.op x.entry.reply a.replied e g in
        let i = innermost-for b x.entry.tag x.entry.op (brackets h) closed in
        ap (λ (o : Option Tag). is_some o) (begun-quiet b h x.entry p q r)
        ∙ open-begun b (phase b h) (last_begin b h) (brackets_for b (brackets h)) (phases-fit setting front legal b) (λ none. has-one (is_bracket_for b) x.entry.tag.caller (brackets h) i.0 i.1 i.2 (i.3 ∙ f) none)
    go (leaves q f g) = λ n.
        ap (λ (o : Option Tag). is_some o) (latest-quiet (begun_by b) h x.entry (ap (begin_of x.entry.tag) q))
        ∙ has (sym (ap is_idle (phase-quiet b h x.entry q)) ∙ n)

-- a bundle whose last begin has not come to its end of rest had one
pub begun : (setting : Setting) (told : List Told) → AreAllowed setting told → (b : BundleId) → is_idle (phase b (entries_in told)) ≡ false → is_some (last_begin b (entries_in told)) ≡ true
begun setting told legal b =
    holds (IsAllowed setting) (λ l. HasBegun b (entries_in l)) (λ e. absurd (cc e)) (λ front x before has a. subst (HasBegun b) (sym (entries-last front x)) (begun-step setting b front x before a has)) told legal

-- so a state change of a bundle that is up is refused
pub up-refused : (setting : Setting) (told : List Told) → AreAllowed setting told → (tag : Tag) (b : BundleId) → (b.0 == 0) ≡ false → is_up (state_of (moment setting told tag) b) ≡ true →
    (f : Refusal) × state_change is_up (moment setting told tag) b f
up-refused setting told legal tag b apart up =
    let there : (is_live b (entries_in told) && not (is_idle (phase b (entries_in told)))) ≡ true =
    sym (ap (λ k. k || (is_live b (entries_in told) && not (is_idle (phase b (entries_in told))))) apart) ∙ sym (up-is (world_after told) (entries_in told) b) ∙ up in
    let busy : is_idle (phase b (entries_in told)) ≡ false = not-true _ (and_parts _ _ there).1 in
    let last = some-of (last_begin b (entries_in told)) (begun setting told legal b busy) in
    (no.StateChange last.0, (up, subst (λ o. IsSomeAnd o (λ by. no.StateChange last.0 ≡ no.StateChange by)) (sym last.1) refl))

-- ---- it stays up

pub idle-cleans : (b : BundleId) (o : Op) (reply : Reply) → put_into b o reply ≡ Some idle → cleans b o reply ≡ true
idle-cleans b (op.EndStart n bad) reply e = go (took_effect reply) (is_accepted reply) (n.0 == b.0) refl refl refl e
  where
    go : (eff acc same : Bool) → took_effect reply ≡ eff → is_accepted reply ≡ acc → (n.0 == b.0) ≡ same → cond (eff && same) (Some (cond acc active idle)) None ≡ Some idle → cleans b (op.EndStart n bad) reply ≡ true
    go true false true f g s q = subst (λ y. cleans b (op.EndStart n bad) y ≡ true) (sym (effective-refused reply f g)) s
    go true true true f g s q = absurd (cc q)
    go true acc false f g s q = absurd (cc q)
    go false acc same f g s q = absurd (cc q)
idle-cleans b (op.EndStop n bad) reply e = go (took_effect reply) (n.0 == b.0) refl refl e
  where
    go : (eff same : Bool) → took_effect reply ≡ eff → (n.0 == b.0) ≡ same → cond (eff && same) (Some idle) None ≡ Some idle → cleans b (op.EndStop n bad) reply ≡ true
    go true true f s q = ap (λ k. option_map_or (λ (x : BundleId). x.0 == b.0) (cond k (Some n) None) false) f ∙ s
    go true false f s q = absurd (cc q)
    go false same f s q = absurd (cc q)
idle-cleans b (op.BeginStart n transient) (answer.Begun begun row) e = go (n.0 == b.0) e
  where
    go : (k : Bool) → cond k (Some bundles.starting) None ≡ Some idle → cleans b (op.BeginStart n transient) (answer.Begun begun row) ≡ true
    go true q = absurd (cc q)
    go false q = absurd (cc q)
idle-cleans b (op.BeginStop target transient) (answer.Begun n row) e = go (n.0 == b.0) e
  where
    go : (k : Bool) → cond k (Some bundles.stopping) None ≡ Some idle → cleans b (op.BeginStop target transient) (answer.Begun n row) ≡ true
    go true q = absurd (cc q)
    go false q = absurd (cc q)
idle-cleans b o reply e = absurd (cc e)

-- a bundle that is up is not uninstalled
pub not-uninstalled : (setting : Setting) (front : List Told) (x : Told) → AreAllowed setting front → IsAllowed setting front x → (b : BundleId) → (b.0 == 0) ≡ false → is_up_at (entries_in front) b ≡ true →
    is_uninstall b x.entry.op x.entry.reply ≡ false
not-uninstalled setting front x legal a b apart up = go x.entry.op x.entry.reply a.replied
  where
    m : Moment
    m = moment setting front x.entry.tag

    refused : (n : BundleId) (reply : Reply) → IsReply m (op.Uninstall n) reply → (acc same : Bool) → is_accepted reply ≡ acc → (n.0 == b.0) ≡ same → (acc && same) ≡ false
    refused n reply r true true e s =
        let none = (accepted m (op.Uninstall n) reply r e).0 in
        let change = up-refused setting front legal x.entry.tag b apart (up-is m.world m.before b ∙ up) in
        absurd (none.1.1.1.0 change.0 (subst (λ k. state_change is_up m k change.0) (sym (same-id n b s)) change.1))
    refused n reply r true false e s = refl
    refused n reply r false same e s = refl

    go : (o : Op) (reply : Reply) → IsReply m o reply → is_uninstall b o reply ≡ false
    go (op.Uninstall n) reply r = refused n reply r (is_accepted reply) (n.0 == b.0) refl refl
    go o reply r = refl

-- it stays up, or is cleaned
pub stays-up : (setting : Setting) (front : List Told) (x : Told) → AreAllowed setting front → IsAllowed setting front x → (b : BundleId) → is_up_at (entries_in front) b ≡ true →
    (cleans b x.entry.op x.entry.reply ≡ true) ⊎ (is_up_at (entries_in front ++ x.entry ∷ []) b ≡ true)
stays-up setting front x legal a b up = go (b.0 == 0) refl (puts b x.entry) refl
  where
    h : List Entry
    h = entries_in front

    both : (b.0 == 0) ≡ false → (is_live b h ≡ true) × (not (is_idle (phase b h)) ≡ true)
    both e = and_parts (is_live b h) _ (sym (ap (λ k. k || (is_live b h && not (is_idle (phase b h)))) e) ∙ up)

    there : (b.0 == 0) ≡ false → is_live b (h ++ x.entry ∷ []) ≡ true
    there e = live-stays b h x.entry (both e).0 (not-uninstalled setting front x legal a b e up)

    made : (b.0 == 0) ≡ false → not (is_idle (phase b (h ++ x.entry ∷ []))) ≡ true → is_up_at (h ++ x.entry ∷ []) b ≡ true
    made e n = or_right (b.0 == 0) _ (and_from _ _ (there e) n)

    after : (b.0 == 0) ≡ false → (p : Phase) → puts b x.entry ≡ Some p → (cleans b x.entry.op x.entry.reply ≡ true) ⊎ (is_up_at (h ++ x.entry ∷ []) b ≡ true)
    after e idle q = inl (idle-cleans b x.entry.op x.entry.reply q)
    after e active q = inr (made e (ap (λ p. not (is_idle p)) (phase-set b h x.entry active q)))
    after e bundles.starting q = inr (made e (ap (λ p. not (is_idle p)) (phase-set b h x.entry bundles.starting q)))
    after e bundles.stopping q = inr (made e (ap (λ p. not (is_idle p)) (phase-set b h x.entry bundles.stopping q)))

    go : (k : Bool) → (b.0 == 0) ≡ k → (u : Option Phase) → puts b x.entry ≡ u → (cleans b x.entry.op x.entry.reply ≡ true) ⊎ (is_up_at (h ++ x.entry ∷ []) b ≡ true)
    go true e u q = inr (or_left _ _ e)
    go false e None q = inr (made e (ap (λ p. not (is_idle p)) (phase-quiet b h x.entry q) ∙ (both e).1))
    go false e (Some p) q = after e p q
