-- The premises of the laws of listeners hold at each moment of a legal history.
--
--   handed-first   AreHandedFirst: what a listener was handed are the first of the events that it saw
--   of-added       AreOfAdded: who saw something was added
--   past-at        ArePast: what was seen is of entries of the history
--   turns-apart    AreTurnsApart: one bracket at most hands to a listener
-- AreSmall is no fact of histories: `small-more` of osgi_listeners carries it along.
use Rattle.std.proofs.Common.{◌≡◌, ◌⊎◌, inl, inr, ◌+◌, ◌<◌, ◌≤◌, List, [], ◌∷◌, ◌++◌, length, map, true, false, refl, sym, ap, ◌∙◌, subst, arith}
use Rattle.std.specs.Prelude.{All, Option, None, Some}
use Rattle.std.proofs.lemmas.Bool.{eqb-true}
use Rattle.std.proofs.lemmas.List.{length-append}
use Rattle.std.proofs.lemmas.List.Elements.{All-append, All-nil}
use Rattle.osgi_base.specs.declared.ids.ListenerId.{ListenerId}
use Rattle.osgi_ops.specs.Brackets.{brackets, Cause, closes, handing, job, opens, starting, stopping}
use Rattle.osgi_ops.specs.Conditions.{IsDeep}
use Rattle.osgi_legal.specs.Legal.{AreAllowed, IsAllowed, IsTold}
use Rattle.osgi_ops.specs.Listening.{adds, clears, event_at, heard_by, Hearing, hearing, HearingChange, is_in_turn, is_turn_of, IsSight, lets_go, spot_of, with_heard}
use Rattle.osgi_ops.specs.Moments.{entries_in, Moment, moment, Seen, seen_after, Sight, sights_in, Told}
use Rattle.osgi_legal.specs.Operations.{IsReply}
use Rattle.osgi_ops.specs.Settings.{Setting}
use Rattle.osgi_legal.specs.laws.Stages.{row-or}
use Rattle.osgi_ops.specs.rows.Events.{IsHanding, IsNothing}
use Rattle.osgi_ops.specs.declared.op.Op.{Op}
use Rattle.osgi_ops.specs.declared.refusal.Refusal.TheVariants.{HandingsSpent, TooDeep}
use Rattle.osgi_ops.specs.declared.reply.Reply.{Reply}
use Rattle.osgi_ops.specs.laws.Along.{holds}
use Rattle.osgi_ops.specs.laws.Brackets.{brackets-last}
use Rattle.osgi_ops.specs.laws.Items.{In-map}
use Rattle.osgi_world.specs.Lists.{In}
use Rattle.osgi_legal.proofs.Legal.{at-told, due-spots, handed-flat, handed-is-prefix, length-told, sights-last, spots-flat}
use Rattle.osgi_legal.proofs.Listening.{counted}
use Rattle.osgi_legal.proofs.Owned.{entries-last, hand-row}
use Rattle.osgi_listeners.specs.Stands.{AreHandedFirst, AreOfAdded, ArePast, AreTurnsApart, event_in, seen_by}
use Rattle.osgi_listeners.specs.laws.Items.{all-in, in-all}
use Rattle.osgi_listeners.specs.laws.Premises.{apart-turned}
use Rattle.osgi_listeners.specs.laws.Waiting.{hearing-last}
use Rattle.osgi_ops.specs.declared.op.Op.TheVariants as op
use Rattle.osgi_ops.specs.declared.reply.Reply.TheVariants as answer

-- ---- what was handed are the first of what was seen

events-read : (xs : List Seen) → map event_in xs ≡ map event_at (map spot_of xs)
events-read [] = refl
events-read (x ∷ xs) = ap (λ l. x.event ∷ l) (events-read xs)

handed-first-told : (setting : Setting) (told : List Told) → AreAllowed setting told → AreHandedFirst (sights_in told) (entries_in told)
handed-first-told setting told legal listener =
    let p = handed-is-prefix setting told legal listener in (
      p.0,
      events-read (seen_by listener (sights_in told)) ∙ ap (map event_at) (spots-flat listener told) ∙ sym (due-spots listener told) ∙ sym p.1 ∙ ap (λ l. l ++ p.0) (sym (handed-flat listener told)),
    )

pub handed-first : (now : Moment) → IsTold now → AreHandedFirst now.sights now.before
handed-first now t = at-told (λ m. AreHandedFirst m.sights m.before) (λ setting told tag legal. handed-first-told setting told legal) now t

-- ---- who saw something was added, and each entry of what was seen is one of the history

more-counted : (s : Hearing) (change : Option HearingChange) → s.count ≤ (with_heard change s).count
more-counted s None = omega arith
more-counted s (Some (adds owner name kind given)) = omega arith
more-counted s (Some (lets_go by removed)) = omega arith
more-counted s (Some (clears bundle)) = omega arith

-- an induction over what listeners see: of each sight something is said that stays said
seen-so : (setting : Setting) (Said : List Told → Seen → Type 0) → ((told : List Told) (t : Told) (s : Seen) → Said told s → Said (told ++ t ∷ []) s) →
    ((told : List Told) (t : Told) (s : Sight) → IsAllowed setting told t → In s t.sights → Said (told ++ t ∷ []) (record { listener = s.listener; entry = length told; place = s.place; event = s.event })) →
    (told : List Told) → AreAllowed setting told → All (Said told) (sights_in told)
seen-so setting Said stays new told legal = holds (IsAllowed setting) (λ l. All (Said l) (sights_in l)) (All-nil (Said [])) step told legal
  where
    step : (l : List Told) (t : Told) → AreAllowed setting l → All (Said l) (sights_in l) → IsAllowed setting l t → All (Said (l ++ t ∷ [])) (sights_in (l ++ t ∷ []))
    step l t before i allowed =
        subst (λ sights. All (Said (l ++ t ∷ [])) sights) (sym (sights-last l t))
        (All-append (Said (l ++ t ∷ [])) (sights_in l) (seen_after (length l) t.sights)
        (all-in (Said (l ++ t ∷ [])) (sights_in l) (λ s there. stays l t s (in-all (Said l) (sights_in l) s i there)))
        (all-in (Said (l ++ t ∷ [])) (seen_after (length l) t.sights) (λ s there. (let r = In-map (λ (x : Sight). record { listener = x.listener; entry = length l; place = x.place; event = x.event }) t.sights s there in
        subst (Said (l ++ t ∷ [])) (sym r.2) (new l t r.0 allowed r.1)))))

abbrev IsOfAdded : List Told → Seen → Type 0
IsOfAdded told s = s.listener.0 ≤ (hearing (entries_in told)).count

counted-more : (told : List Told) (t : Told) → (hearing (entries_in told)).count ≤ (hearing (entries_in (told ++ t ∷ []))).count
counted-more told t =
    let is : hearing (entries_in (told ++ t ∷ [])) ≡ with_heard (heard_by t.entry.op t.entry.reply) (hearing (entries_in told)) = ap hearing (entries-last told t) ∙ hearing-last (entries_in told) t.entry in
    subst (λ (s : Hearing). (hearing (entries_in told)).count ≤ s.count) (sym is) (more-counted (hearing (entries_in told)) (heard_by t.entry.op t.entry.reply))

of-added-told : (setting : Setting) (told : List Told) → AreAllowed setting told → AreOfAdded (sights_in told) (entries_in told)
of-added-told setting told legal =
    seen-so setting IsOfAdded (λ l t s low. (let more = counted-more l t in omega (arith, low, more)))
    (λ l t s allowed there. (let sight = in-all (IsSight (entries_in l) (moment setting l t.entry.tag).world t.world t.entry) t.sights s allowed.seen.only there in
    let low = counted (entries_in l) s.listener sight.listener sight.is in let more = counted-more l t in omega (arith, low, more)))
    told legal

pub of-added : (now : Moment) → IsTold now → AreOfAdded now.sights now.before
of-added now t = at-told (λ m. AreOfAdded m.sights m.before) (λ setting told tag legal. of-added-told setting told legal) now t

abbrev IsPast : List Told → Seen → Type 0
IsPast told s = s.entry < length (entries_in told)

longer : (told : List Told) (t : Told) → length (entries_in (told ++ t ∷ [])) ≡ length told + 1
longer told t = length-told (told ++ t ∷ []) ∙ length-append told (t ∷ [])

past-told : (setting : Setting) (told : List Told) → AreAllowed setting told → ArePast (sights_in told) (entries_in told)
past-told setting told legal =
    seen-so setting IsPast (λ l t s low. (let a = longer l t in let b = length-told l in omega (arith, low, a, b)))
    (λ l t s allowed there. (let a = longer l t in omega (arith, a))) told legal

pub past-at : (now : Moment) → IsTold now → ArePast now.sights now.before
past-at now t = at-told (λ m. ArePast m.sights m.before) (λ setting told tag legal. past-told setting told legal) now t

-- ---- one bracket at most hands to a listener

-- what is opened for no listener
no-hand : (cause is : Cause) (listener : ListenerId) {G : Type 0} → is_turn_of listener is ≡ false → Some is ≡ Some cause → is_turn_of listener cause ≡ true → G
no-hand cause is listener f e t = let same : is ≡ cause = cc e in let bad : true ≡ false = sym t ∙ ap (is_turn_of listener) (sym same) ∙ f in absurd (cc bad)

opened-none : (o : Option Cause) (cause : Cause) {G : Type 0} → o ≡ None → o ≡ Some cause → G
opened-none o cause n e = let bad : None ≡ Some cause = sym n ∙ e in absurd (cc bad)

-- a hand is to a listener that is in no turn
fresh-turn : (m : Moment) (o : Op) (reply : Reply) → IsReply m o reply → (cause : Cause) → opens o reply ≡ Some cause → (listener : ListenerId) → is_turn_of listener cause ≡ true → is_in_turn listener m.before ≡ false
fresh-turn m op.Hand reply r cause e listener t = elim (row-or m op.Hand reply r) [
  | inl row ↦ go (hand-row m reply row)
  | inr late ↦ opened-none (opens op.Hand reply) cause (ap (opens op.Hand) late.1) e
]
  where
    go : (IsDeep m × (reply ≡ answer.Refused TooDeep)) ⊎ (reply ≡ answer.Refused HandingsSpent) ⊎ IsHanding m reply ⊎ IsNothing m reply → is_in_turn listener m.before ≡ false
    go (inl d) = opened-none (opens op.Hand reply) cause (ap (opens op.Hand) d.1) e
    go (inr (inl s)) = opened-none (opens op.Hand reply) cause (ap (opens op.Hand) s) e
    go (inr (inr (inl h))) =
        let one : Some (handing h.listener) ≡ Some cause = sym (ap (opens op.Hand) h.is) ∙ e in
        let is : handing h.listener ≡ cause = cc one in
        let same : h.listener.0 ≡ listener.0 = eqb-true h.listener.0 listener.0 (ap (is_turn_of listener) is ∙ t) in
        subst (λ k. is_in_turn k m.before ≡ false) (λ i. record { 0 = same i }) h.earliest.ready.free
    go (inr (inr (inr n))) = opened-none (opens op.Hand reply) cause (ap (opens op.Hand) n.is) e
fresh-turn m op.TakeJob (answer.Job owner row name) r cause e listener t = no-hand cause job listener refl e t
fresh-turn m (op.BeginStart b transient) (answer.Begun begun row) r cause e listener t = no-hand cause (starting b) listener refl e t
fresh-turn m (op.BeginStop target transient) (answer.Begun begun row) r cause e listener t = no-hand cause (stopping begun) listener refl e t
fresh-turn m (op.Get user service) (answer.Make owner row name) r cause e listener t = no-hand cause _ listener refl e t
fresh-turn m (op.GetOwn user service) (answer.Make owner row name) r cause e listener t = no-hand cause _ listener refl e t
fresh-turn m o reply r cause e listener t = absurd (cc e)

turns-apart-told : (setting : Setting) (told : List Told) → AreAllowed setting told → AreTurnsApart (brackets (entries_in told))
turns-apart-told setting told legal =
    holds (IsAllowed setting) (λ l. AreTurnsApart (brackets (entries_in l))) tt
    (λ l t before i allowed. subst AreTurnsApart (sym (ap brackets (entries-last l t) ∙ brackets-last (entries_in l) t.entry))
    (apart-turned t.entry.tag (opens t.entry.op t.entry.reply) (closes t.entry.tag t.entry.op (brackets (entries_in l))) (brackets (entries_in l))
    (fresh-turn (moment setting l t.entry.tag) t.entry.op t.entry.reply allowed.replied) i))
    told legal

pub turns-apart : (now : Moment) → IsTold now → AreTurnsApart (brackets now.before)
turns-apart now t = at-told (λ m. AreTurnsApart (brackets m.before)) (λ setting told tag legal. turns-apart-told setting told legal) now t
