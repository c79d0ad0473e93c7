-- Legal histories: their beginnings, one more entry, and what holds of every world. What each listener was handed is a
-- beginning of what is due to it.
use Rattle.std.proofs.Common.{◌≡◌, ◌⊎◌, inl, inr, ℕ, append-nil, List, [], ◌∷◌, ◌++◌, length, map, Bool, true, false, refl, sym, ap, ◌∙◌, subst}
use Rattle.std.specs.Prelude.{nat_lt, ◌==◌, cond, filter, Option, None, Some, unwrap_or}
use Rattle.std.specs.List.{last_or}
use Rattle.std.proofs.lemmas.Bool.{eqb-true, ltb-true, ltb-false}
use Rattle.std.proofs.lemmas.List.Elements.{filter-append}
use Rattle.std.proofs.lemmas.List.{length-map, map-append}
use mathlib.Core.List.{IsPrefix}
use Rattle.osgi_base.specs.declared.ids.ListenerId.{ListenerId}
use Rattle.osgi_base.specs.declared.ids.Tag.{Tag}
use Rattle.osgi_ops.specs.Along.{along}
use Rattle.osgi_legal.specs.Legal.{AreAllowed, entry_of, IsAllowed, IsAllowedNow, IsStep, IsTold, Legal}
use Rattle.osgi_ops.specs.Worlds.{Leaves}
use Rattle.osgi_ops.specs.Listening.{due, event_at, handed, handed_by, handed_in, hands, IsNext, is_seen_by, is_sight_of, seen, Spot, spot_of, spots, spots_of, spotted}
use Rattle.osgi_ops.specs.Conditions.{IsDeep}
use Rattle.osgi_legal.specs.Operations.{IsReply}
use Rattle.osgi_ops.specs.rows.Events.{IsHanding, IsNothing}
use Rattle.osgi_ops.specs.Callers.{by, is_by}
use Rattle.osgi_ops.specs.Settings.{Setting}
use Rattle.osgi_legal.specs.laws.Stages.{row-or}
use Rattle.osgi_ops.specs.Moments.{entries_in, first_world, later, Moment, moment, Seen, seen_after, seen_at, Sight, sights_in, Told, world_after}
use Rattle.osgi_ops.specs.declared.entry.Entry.{Entry}
use Rattle.osgi_ops.specs.declared.event.Event.{Event}
use Rattle.osgi_ops.specs.declared.op.Op.{Op}
use Rattle.osgi_ops.specs.declared.op.Op.TheVariants.{Hand}
use Rattle.osgi_ops.specs.declared.refusal.Refusal.TheVariants.{HandingsSpent, TooDeep}
use Rattle.osgi_ops.specs.declared.reply.Reply.{Reply}
use Rattle.osgi_ops.specs.declared.reply.Reply.TheVariants.{Refused}
use Rattle.osgi_world.specs.declared.world.World.{World}
use Rattle.osgi_ops.specs.laws.Along.{along-last, AllAlong-join, AllAlong-split, holds}
use Rattle.osgi_legal.proofs.Handing.{handed-prefix, HandsNext}
use Rattle.osgi_legal.proofs.Owned.{entries-last, hand-row}

-- ---- one legal list

last-shown : {A : Type 0} (o : Option A) (list : List A) (item : A) → last_or o (list ++ item ∷ []) ≡ Some item
last-shown o [] item = refl
last-shown o (x ∷ rest) item = last-shown (Some x) rest item

pub world-last : (told : List Told) (t : Told) → world_after (told ++ t ∷ []) ≡ t.world
world-last told t =
    ap (λ l. unwrap_or (last_or None l) first_world) (map-append (λ (x : Told). x.world) told (t ∷ []))
    ∙ ap (λ o. unwrap_or o first_world) (last-shown None (map (λ (x : Told). x.world) told) t.world)

pub sights-last : (told : List Told) (t : Told) → sights_in (told ++ t ∷ []) ≡ sights_in told ++ seen_after (length told) t.sights
sights-last told t = along-last seen_at told t

pub length-told : (told : List Told) → length (entries_in told) ≡ length told
length-told told = length-map told (λ (t : Told). t.entry)

pub moment-is : (now : Moment) (t : IsTold now) → moment now.setting t.told now.tag ≡ now
moment-is now t = λ i. record { setting = now.setting; before = t.tells i; world = t.ends i; sights = t.seen i; tag = now.tag }

-- the entry that a call adds at a moment of a legal history leaves it legal, and so is the moment after it
pub Told-push : (now : Moment) (op : Op) (reply : Reply) (world : World) (sights : List Sight) → IsTold now → IsAllowedNow now op reply world sights → IsTold (later now op reply world sights)
Told-push now op reply world sights told a =
    let t : Told = record { entry = entry_of now op reply; world = world; sights = sights } in
    let count : length told.told ≡ length now.before = sym (length-told told.told) ∙ ap (λ (l : List Entry). length l) told.tells in
    record {
      told = told.told ++ t ∷ [];
      tells = entries-last told.told t ∙ ap (λ l. l ++ t.entry ∷ []) told.tells;
      ends = world-last told.told t;
      seen = sights-last told.told t ∙ (λ i. told.seen i ++ seen_after (count i) sights);
      allowed = AllAlong-join (IsAllowed now.setting) [] told.told (t ∷ []) told.allowed
          (subst (λ m. IsAllowedNow m op reply world sights) (sym (moment-is now told)) a, tt);
    }

-- what a history with an allowed entry at its end replays to
pub Told-of : (setting : Setting) (told : List Told) (tag : Tag) → AreAllowed setting told → IsTold (moment setting told tag)
Told-of setting told tag allowed = record { told = told; tells = refl; ends = refl; seen = refl; allowed = allowed }

-- after one call, whether or not there was room for its entry, what it left is again a moment of a legal history
pub Step-told : (now : Moment) (after : List Entry) (world : World) (op : Op) (reply : Reply) → IsTold now → IsStep now after world op reply →
    (seen : List Seen) × IsTold (record now { before = after; world = world; sights = seen })
Step-told now after world op reply told step = go (nat_lt (length now.before) now.setting.bounds.entries) refl
  where
    go : (k : Bool) → nat_lt (length now.before) now.setting.bounds.entries ≡ k → (seen : List Seen) × IsTold (record now { before = after; world = world; sights = seen })
    go true e =
        let r = step.room (ltb-true (length now.before) now.setting.bounds.entries e) in
        let p = Told-push now op reply world r.0 told r.1 in
        ((later now op reply world r.0).sights, record { told = p.told; tells = p.tells ∙ sym r.2; ends = p.ends; seen = p.seen; allowed = p.allowed })
    go false e =
        let f = step.full (ltb-false (length now.before) now.setting.bounds.entries e) in
        (now.sights, record { told = told.told; tells = told.tells ∙ sym f.1; ends = told.ends ∙ sym f.2; seen = told.seen; allowed = told.allowed })

pub split-map : {A B : Type 0} (f : A → B) (xs : List A) (ys zs : List B) → map f xs ≡ ys ++ zs → (us : List A) × (ws : List A) × (xs ≡ us ++ ws) × (map f us ≡ ys) × (map f ws ≡ zs)
split-map f xs [] zs e = ([], xs, refl, refl, e)
split-map f [] (y ∷ ys) zs e = absurd (cc e)
split-map f (x ∷ xs) (y ∷ ys) zs e =
    let r = split-map f xs ys zs (cc e) in
    let h : f x ≡ y = cc e in
    (x ∷ r.0, r.1, ap (λ l. x ∷ l) r.2, (λ i. h i ∷ r.3 i), r.4)

-- each beginning of a legal history is legal
pub Legal-prefix : (setting : Setting) (front rest : List Entry) → Legal setting (front ++ rest) → Legal setting front
Legal-prefix setting front rest l =
    let s = split-map (λ (x : Told). x.entry) l.1.told front rest l.1.tells in (
      world_after s.0,
      record { told = s.0; tells = s.3; ends = refl; allowed = (AllAlong-split (IsAllowed setting) [] s.0 s.1 (subst (AreAllowed setting) s.2 l.1.allowed)).0 },
    )

-- ---- every world

-- what holds of the first world and is kept by each operation at a moment of a legal history holds of the world after it
pub always : (setting : Setting) (Holds : World → Type 0) → Holds first_world →
    ((now : Moment) (op : Op) (reply : Reply) (after : World) → IsTold now → Holds now.world → IsReply now op reply → Leaves now op reply after → Holds after) →
    (told : List Told) → AreAllowed setting told → Holds (world_after told)
always setting Holds first kept told legal =
    holds (IsAllowed setting) (λ l. Holds (world_after l)) first
    (λ l x before h a.
    subst Holds (sym (world-last l x))
    (kept (moment setting l x.entry.tag) x.entry.op x.entry.reply x.world (Told-of setting l x.entry.tag before) h a.replied a.left))
    told legal

-- ---- handed is a beginning of due

events-of : (listener : ListenerId) (before : List Told) (sights : List Sight) →
    map (λ (s : Sight). s.event) sights ≡ map event_at (map (λ (s : Sight). record { entry = length before; place = s.place; event = s.event }) sights)
events-of listener before [] = refl
events-of listener before (s ∷ rest) = ap (λ l. s.event ∷ l) (events-of listener before rest)

due-spots-from : (listener : ListenerId) (front told : List Told) → along (seen listener) front told ≡ map event_at (along (spotted listener) front told)
due-spots-from listener front [] = refl
due-spots-from listener front (x ∷ rest) =
    (λ i. events-of listener front (filter (is_sight_of listener) x.sights) i ++ due-spots-from listener (front ++ x ∷ []) rest i)
    ∙ sym (map-append event_at (spotted listener front x) (along (spotted listener) (front ++ x ∷ []) rest))

pub due-spots : (listener : ListenerId) (told : List Told) → due listener told ≡ map event_at (spots listener told)
due-spots listener told = due-spots-from listener [] told

-- what listeners saw, of one of them
flat-one : (listener : ListenerId) (front : List Told) (sights : List Sight) →
    map spot_of (filter (is_seen_by listener) (map (λ (s : Sight). record { listener = s.listener; entry = length front; place = s.place; event = s.event }) sights))
    ≡ map (λ (s : Sight). record { entry = length front; place = s.place; event = s.event }) (filter (is_sight_of listener) sights)
flat-one listener front [] = refl
flat-one listener front (s ∷ rest) = by-case (s.listener.0 == listener.0) _ _ (flat-one listener front rest)
  where
    put : List Seen → List Seen
    put l = record { listener = s.listener; entry = length front; place = s.place; event = s.event } ∷ l

    spots-put : List Sight → List Sight
    spots-put l = s ∷ l

    f : Sight → Spot
    f x = record { entry = length front; place = x.place; event = x.event }

    by-case : (k : Bool) (a : List Seen) (b : List Sight) → map spot_of a ≡ map f b → map spot_of (cond k (put a) a) ≡ map f (cond k (spots-put b) b)
    by-case true a b e = ap (λ l. record { entry = length front; place = s.place; event = s.event } ∷ l) e
    by-case false a b e = e

flat-from : (listener : ListenerId) (front told : List Told) → spots_of listener (along seen_at front told) ≡ along (spotted listener) front told
flat-from listener front [] = refl
flat-from listener front (x ∷ rest) =
    ap (map spot_of) (filter-append (is_seen_by listener) (seen_at front x) (along seen_at (front ++ x ∷ []) rest))
    ∙ map-append spot_of (filter (is_seen_by listener) (seen_at front x)) (filter (is_seen_by listener) (along seen_at (front ++ x ∷ []) rest))
    ∙ (λ i. flat-one listener front x.sights i ++ flat-from listener (front ++ x ∷ []) rest i)

pub spots-flat : (listener : ListenerId) (told : List Told) → spots_of listener (sights_in told) ≡ spots listener told
spots-flat listener told = flat-from listener [] told

handed-from : (listener : ListenerId) (front told : List Told) (before : List Entry) → along (λ b (e : Entry). handed_by listener e.op e.reply) before (entries_in told) ≡ along (hands listener) front told
handed-from listener front [] before = refl
handed-from listener front (x ∷ rest) before = ap (λ l. handed_by listener x.entry.op x.entry.reply ++ l) (handed-from listener (front ++ x ∷ []) rest (before ++ x.entry ∷ []))

pub handed-flat : (listener : ListenerId) (told : List Told) → handed_in listener (entries_in told) ≡ handed listener told
handed-flat listener told = handed-from listener [] told []

-- the next spot is the first event that waits
pub next-due : (told : List Told) (listener : ListenerId) (spot : Spot) (n : IsNext (sights_in told) (entries_in told) listener spot) →
    due listener told ≡ handed listener told ++ spot.event ∷ map event_at n.rest
next-due told listener spot n =
    due-spots listener told ∙ ap (map event_at) (sym (spots-flat listener told)) ∙ ap (map event_at) n.due ∙ map-append event_at n.past (spot ∷ n.rest) ∙ ap (λ l. l ++ spot.event ∷ map event_at n.rest) (n.handed ∙ handed-flat listener told)

only-hand : (listener : ListenerId) (op : Op) (reply : Reply) → (handed_by listener op reply ≡ []) ⊎ (op ≡ Hand)
only-hand listener Hand reply = inr refl
only-hand listener op reply = inl refl

hand-next : (setting : Setting) (listener : ListenerId) (told : List Told) (tag : Tag) (reply : Reply) → IsReply (moment setting told tag) Hand reply →
    (handed_by listener Hand reply ≡ []) ⊎ ((e : Event) × (rest : List Event) × (handed_by listener Hand reply ≡ e ∷ []) × (due listener told ≡ handed listener told ++ e ∷ rest))
hand-next setting listener told tag reply r = elim (row-or m Hand reply r) [
  | inl row ↦ go (hand-row m reply row)
  | inr late ↦ inl (ap (handed_by listener Hand) late.1)
]
  where
    m : Moment
    m = moment setting told tag

    Goal : Reply → Type 0
    Goal y = (handed_by listener Hand y ≡ []) ⊎ ((e : Event) × (rest : List Event) × (handed_by listener Hand y ≡ e ∷ []) × (due listener told ≡ handed listener told ++ e ∷ rest))

    given : (to : ListenerId) (spot : Spot) → IsNext (sights_in told) (entries_in told) to spot → (k : Bool) → (to.0 == listener.0) ≡ k →
        (cond k (spot.event ∷ []) [] ≡ []) ⊎ ((e : Event) × (rest : List Event) × (cond k (spot.event ∷ []) [] ≡ e ∷ []) × (due listener told ≡ handed listener told ++ e ∷ rest))
    given to spot n true q =
        let same : to ≡ listener = (let e : to.0 ≡ listener.0 = eqb-true to.0 listener.0 q in λ i. record { 0 = e i }) in
        inr (spot.event, map event_at n.rest, refl, subst (λ l. due l told ≡ handed l told ++ spot.event ∷ map event_at n.rest) same (next-due told to spot n))
    given to spot n false q = inl refl

    go : (IsDeep m × (reply ≡ Refused TooDeep)) ⊎ (reply ≡ Refused HandingsSpent) ⊎ IsHanding m reply ⊎ IsNothing m reply → Goal reply
    go (inl d) = inl (ap (handed_by listener Hand) d.1)
    go (inr (inl s)) = inl (ap (handed_by listener Hand) s)
    go (inr (inr (inl h))) = subst Goal (sym h.is) (given h.listener h.spot h.earliest.ready.next (h.listener.0 == listener.0) refl)
    go (inr (inr (inr n))) = inl (ap (handed_by listener Hand) n.is)

hands-next : (setting : Setting) (listener : ListenerId) (told : List Told) (x : Told) → IsAllowed setting told x → HandsNext (seen listener) (hands listener) told x
hands-next setting listener told x a = go (only-hand listener x.entry.op x.entry.reply)
  where
    go : (handed_by listener x.entry.op x.entry.reply ≡ []) ⊎ (x.entry.op ≡ Hand) → HandsNext (seen listener) (hands listener) told x
    go (inl none) = inl none
    go (inr e) = subst (λ op. (handed_by listener op x.entry.reply ≡ []) ⊎ ((v : Event) × (rest : List Event) × (handed_by listener op x.entry.reply ≡ v ∷ []) × (due listener told ≡ handed listener told ++ v ∷ rest)))
        (sym e) (hand-next setting listener told x.entry.tag x.entry.reply (subst (λ op. IsReply (moment setting told x.entry.tag) op x.entry.reply) e a.replied))

-- of every legal history, whatever callers made it
pub handed-is-prefix : (setting : Setting) (told : List Told) → AreAllowed setting told → (listener : ListenerId) → IsPrefix (handed listener told) (due listener told)
handed-is-prefix setting told legal listener =
    handed-prefix (IsAllowed setting) (seen listener) (hands listener) (λ h x before p a. hands-next setting listener h x a) told legal

-- ---- calls of any callers, one after another

-- a list of calls with their tags, made one after another from the empty framework
pub data Made (setting : Setting) : List Told → Type 0 where
  at_first : Made setting []
  called : {before : List Told} {t : Told} → Made setting before → IsAllowed setting before t → Made setting (before ++ t ∷ [])

-- whatever callers made it, and in whatever order their calls came: it is one legal list
pub made-allowed : {setting : Setting} {told : List Told} → Made setting told → AreAllowed setting told
made-allowed at_first = tt
made-allowed {setting} (called {before = b} {t = t} m a) = AllAlong-join (IsAllowed setting) [] b (t ∷ []) (made-allowed m) (a, tt)

-- so it can be made, and each beginning of it could
pub made-legal : {setting : Setting} {told : List Told} → Made setting told → Legal setting (entries_in told)
made-legal {told = told} m = (world_after told, record { told = told; tells = refl; ends = refl; allowed = made-allowed m })

-- a call adds its own entry behind the caller's earlier ones, and leaves every other caller's as they were
pub own-call : (caller : ℕ) (history : List Entry) (e : Entry) → (e.tag.caller == caller) ≡ true → by caller (history ++ e ∷ []) ≡ by caller history ++ e ∷ []
own-call caller history e q = filter-append (is_by caller) history (e ∷ []) ∙ ap (λ k. by caller history ++ cond k (e ∷ []) []) q

pub other-call : (caller : ℕ) (history : List Entry) (e : Entry) → (e.tag.caller == caller) ≡ false → by caller (history ++ e ∷ []) ≡ by caller history
other-call caller history e q = filter-append (is_by caller) history (e ∷ []) ∙ ap (λ k. by caller history ++ cond k (e ∷ []) []) q ∙ append-nil (by caller history)

-- for any interleaving, at every beginning what each listener was handed is a beginning of what was due to it
pub made-handed : {setting : Setting} (front rest : List Told) → Made setting (front ++ rest) → (listener : ListenerId) → IsPrefix (handed listener front) (due listener front)
made-handed {setting} front rest m listener =
    handed-is-prefix setting front (AllAlong-split (IsAllowed setting) [] front rest (made-allowed m)).0 listener

-- what holds at the moment behind each legal telling holds at each moment of a legal history
pub at-told : (Holds : Moment → Type 0) → ((setting : Setting) (told : List Told) (tag : Tag) → AreAllowed setting told → Holds (moment setting told tag)) → (now : Moment) → IsTold now → Holds now
at-told Holds each now t = subst Holds (moment-is now t) (each now.setting t.told now.tag t.allowed)
