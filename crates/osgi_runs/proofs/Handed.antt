-- Where who leaves something to be handed hands again, each listener that is live in the end was handed all that is due to it; so where no run
-- was cut.
use Rattle.std.proofs.Common.{◌≡◌, ◌⊎◌, inl, inr, ℕ, List, [], ◌∷◌, ◌++◌, map, append_assoc, append-nil, Bool, true, false, refl, sym, ap, ◌∙◌, subst, arith}
use Rattle.std.specs.Prelude.{◌||◌, ◌&&◌, cond, filter, is_some, All, Some}
use Rattle.std.specs.List.{list_any}
use Rattle.std.proofs.lemmas.Bool.{eq-eqb, eqb-true, or_left, or_right, and_from, and_parts}
use Rattle.std.proofs.lemmas.List.{map-append}
use Rattle.std.proofs.lemmas.List.Elements.{All-head, All-tail}
use mathlib.Core.List.{IsPrefix}
use Rattle.osgi_base.specs.declared.ids.ListenerId.{ListenerId}
use Rattle.osgi_ops.specs.Along.{AllAlong}
use Rattle.osgi_ops.specs.Brackets.{Bracket, brackets, brackets_of}
use Rattle.osgi_ops.specs.Callers.{by, is_by}
use Rattle.osgi_ops.specs.Conditions.{IsDeep}
use Rattle.osgi_legal.specs.Legal.{AreAllowed, IsAllowed}
use Rattle.osgi_ops.specs.Listening.{Added, due, event_at, hands, handed, happenings, Happening, IsAt, IsReady, IsSight, is_in_turn, is_sight_of, is_turn_of, listener_at, seen, Spot, spots}
use Rattle.osgi_ops.specs.Moments.{entries_in, Moment, moment, Sight, sights_in, Told, world_after}
use Rattle.osgi_legal.specs.Operations.{IsReply}
use Rattle.osgi_ops.specs.Replies.{is_accepted, took_effect}
use Rattle.osgi_ops.specs.Settings.{Setting}
use Rattle.osgi_ops.specs.declared.entry.Entry.{Entry}
use Rattle.osgi_ops.specs.declared.event.Event.{Event}
use Rattle.osgi_ops.specs.declared.op.Op.{Op}
use Rattle.osgi_ops.specs.declared.op.Op.TheVariants as op
use Rattle.osgi_ops.specs.declared.refusal.Refusal.TheVariants.{HandingsSpent, TooDeep}
use Rattle.osgi_ops.specs.declared.reply.Reply.{Reply}
use Rattle.osgi_ops.specs.declared.reply.Reply.TheVariants as answer
use Rattle.osgi_ops.specs.laws.Along.{AllAlong-split}
use Rattle.osgi_ops.specs.laws.Brackets.{ends_turn}
use Rattle.osgi_legal.specs.laws.Stages.{hand-here, here-row}
use Rattle.osgi_ops.specs.rows.Events.{IsAnyReady, IsHanding, IsNothing}
use Rattle.osgi_runs.specs.Bound.{finds_nothing}
use Rattle.osgi_runs.specs.Handed.{AllHanded, AllHandedIn}
use Rattle.osgi_runs.specs.Plain.{AreNumberedFrom, commands_in, IsPlain}
use Rattle.osgi_runs.specs.Turns.{HandsAgain, HandsToNothing, HandsAgainAndCloses, is_end_of_hand, leaves_some}
use Rattle.osgi_session.specs.Plans.{stirs}
use Rattle.osgi_session.specs.Runs.{Sections}
use Rattle.osgi_session.specs.Rendering.{is_full}
use Rattle.osgi_session.specs.Sessions.{IsWhole, Lane, MayBeCut, Never, Uncut}
use Rattle.osgi_session.specs.declared.line.Line.{Line}
use Rattle.osgi_world.specs.declared.world.World.{World}
use Rattle.osgi_ops.specs.Waiting.{is_waiting, waiting}
use Rattle.osgi_ops.specs.laws.Waiting.{not-waiting}
use Rattle.osgi_stage.proofs.Early.{nobody-waits}
use Rattle.osgi_legal.proofs.Hands.{all-handed}
use Rattle.osgi_legal.proofs.Legal.{due-spots, handed-flat, handed-is-prefix, split-map, spots-flat}
use Rattle.osgi_legal.proofs.Listening.{live-between, turn-lasts}
use Rattle.osgi_legal.proofs.Owned.{entries-last, hand-row, of, some-of}
use Rattle.osgi_runs.proofs.Calm.{runs-settled}
use Rattle.osgi_runs.proofs.Due.{owned}
use Rattle.osgi_runs.proofs.Full.{some-full}
use Rattle.osgi_runs.proofs.Plain.{blocks-plain, makes-lane}
use Rattle.osgi_runs.proofs.Sessions.{AreRuns, calls_of, lane-callers, makes-runs}
use Rattle.osgi_runs.proofs.Settled.{AreSettled, Settles}
use Rattle.osgi_runs.proofs.Wholes.{uncut-lane}

-- ---- a drain follows where something happens

none-at : {A : Type 0} {place : ℕ} {item : A} → IsAt place [] item → ⊥
none-at x = elim x [ ]

in-cond : {A : Type 0} {place : ℕ} {item : A} (k : Bool) (list : List A) → IsAt place (cond k list []) item → k ≡ true
in-cond true list x = refl
in-cond false list x = absurd (none-at x)

-- of each entry behind which nobody waits, since then an Idle ends no waiting
pub happening-stirs : (past : List Entry) → waiting past ≡ [] → (before after : World) (e : Entry) (o : Op) (reply : Reply) {place : ℕ} {h : Happening} → IsAt place (happenings past before after e o reply) h → stirs o reply ≡ true
happening-stirs past none before after e (op.Register owner classes object scope properties) (answer.Service id) x = refl
happening-stirs past none before after e (op.Modify owner id properties) reply x = in-cond (is_accepted reply) _ x
happening-stirs past none before after e (op.Unregister owner id) reply x = in-cond (is_accepted reply) _ x
happening-stirs past none before after e (op.Install location) (answer.Bundle b false) x = refl
happening-stirs past none before after e (op.Resolve b) (answer.Resolved all) x = refl
happening-stirs past none before after e (op.BeginStart b transient) (answer.Begun begun row) x = refl
happening-stirs past none before after e (op.EndStart b bad) answer.Done x = refl
happening-stirs past none before after e (op.EndStart b bad) reply x = in-cond (took_effect reply) _ x
happening-stirs past none before after e (op.BeginStop target transient) (answer.Begun b row) x = refl
happening-stirs past none before after e (op.BeginStop target transient) (answer.Idle b) x =
    absurd (let bad : true ≡ false = sym (in-cond (is_waiting b past) _ x) ∙ not-waiting b past none in cc bad)
happening-stirs past none before after e (op.Await asked) (answer.Waiting b) x = refl
happening-stirs past none before after e (op.EndStop b bad) reply x = in-cond (took_effect reply) _ x
happening-stirs past none before after e (op.Update b location) reply x = in-cond (is_accepted reply) _ x
happening-stirs past none before after e (op.Uninstall b) reply x = in-cond (is_accepted reply) _ x
happening-stirs past none before after e op.DropWirings (answer.Ids ids) x = refl
happening-stirs past none before after e op.EndRefresh reply x = in-cond (is_accepted reply) _ x
happening-stirs past none before after e op.EndLevel reply x = in-cond (is_accepted reply) _ x
happening-stirs past none before after e o reply x = absurd (none-at x)

-- ---- the entries that concern a listener

abbrev is_some_there : {A : Type 0} → List A → Bool
is_some_there [] = false
is_some_there (x ∷ rest) = true

none-there : {A : Type 0} (list : List A) → is_some_there list ≡ false → list ≡ []
none-there [] e = refl
none-there (x ∷ rest) e = absurd (cc e)

-- it sees something of the entry, or it is live and the entry ends a hand of it
abbrev concerns : ListenerId → List Told → Told → Bool
concerns listener front x = is_some_there (seen listener front x) || (ends_turn listener x.entry.op && is_some (listener_at listener (entries_in front)))

abbrev Concerns : ListenerId → List Told → Told → Type 0
Concerns listener front x = concerns listener front x ≡ true

known : (b : Bool) → (b ≡ true) ⊎ (b ≡ true → ⊥)
known true = inl refl
known false = inr (λ e. cc e)

is-false : (b : Bool) → (b ≡ true → ⊥) → b ≡ false
is-false true n = absurd (n refl)
is-false false n = refl

or-cases : (a b : Bool) → (a || b) ≡ true → (a ≡ true) ⊎ (b ≡ true)
or-cases true b e = inl refl
or-cases false b e = inr e

a-sight : (P : Sight → Type 0) (listener : ListenerId) (sights : List Sight) → All P sights → is_some_there (map (λ (s : Sight). s.event) (filter (is_sight_of listener) sights)) ≡ true →
    (s : Sight) × P s × (s.listener.0 ≡ listener.0)
a-sight P listener [] a e = absurd (cc e)
a-sight P listener (s ∷ rest) a e = go (is_sight_of listener s) refl e (a-sight P listener rest (All-tail P s rest a))
  where
    go : (k : Bool) → is_sight_of listener s ≡ k → is_some_there (map (λ (s : Sight). s.event) (cond k (s ∷ filter (is_sight_of listener) rest) (filter (is_sight_of listener) rest))) ≡ true →
        (is_some_there (map (λ (s : Sight). s.event) (filter (is_sight_of listener) rest)) ≡ true → (s : Sight) × P s × (s.listener.0 ≡ listener.0)) → (s : Sight) × P s × (s.listener.0 ≡ listener.0)
    go true q f ih = (s, All-head P s rest a, eqb-true s.listener.0 listener.0 q)
    go false q f ih = ih f

ends-hand : (listener : ListenerId) (o : Op) → ends_turn listener o ≡ true → is_end_of_hand o ≡ true
ends-hand listener (op.EndHand held) e = refl
ends-hand listener o e = absurd (cc e)

-- such an entry may leave something to be handed, and the listener is live before it
concerned : (setting : Setting) (listener : ListenerId) (front : List Told) (x : Told) → AreAllowed setting front → IsAllowed setting front x → Concerns listener front x →
    (leaves_some x.entry.op x.entry.reply ≡ true) × ((a : Added) × (listener_at listener (entries_in front) ≡ Some a))
concerned setting listener front x before a c = go (or-cases (is_some_there (seen listener front x)) _ c)
  where
    go : (is_some_there (seen listener front x) ≡ true) ⊎ ((ends_turn listener x.entry.op && is_some (listener_at listener (entries_in front))) ≡ true) →
        (leaves_some x.entry.op x.entry.reply ≡ true) × ((a : Added) × (listener_at listener (entries_in front) ≡ Some a))
    go (inl s) =
        let r = a-sight (IsSight (entries_in front) (world_after front) x.world x.entry) listener x.sights a.seen.only s in
        let d : stirs x.entry.op x.entry.reply ≡ true = happening-stirs (entries_in front) (nobody-waits setting front before) (world_after front) x.world x.entry x.entry.op x.entry.reply r.1.at in
        let same : r.0.listener ≡ listener = (let q : r.0.listener.0 ≡ listener.0 = r.2 in λ i. record { 0 = q i }) in
        (or_left _ _ d, (r.1.listener, subst (λ l. listener_at l (entries_in front) ≡ Some r.1.listener) same r.1.is))
    go (inr h) =
        let p = and_parts (ends_turn listener x.entry.op) (is_some (listener_at listener (entries_in front))) h in
        (or_right (stirs x.entry.op x.entry.reply) _ (ends-hand listener x.entry.op p.0), some-of _ p.1)

-- ---- a Hand that finds nothing comes behind it

again-at : (u : List Told) (e : Told) (v : List Told) → HandsAgain (entries_in (u ++ e ∷ v)) → leaves_some e.entry.op e.entry.reply ≡ true → HandsToNothing e.entry.tag.caller (entries_in v)
again-at [] e v c s = c.0 s
again-at (x ∷ u) e v c s = again-at u e v c.1 s

abbrev Found : List Told → Type 0
Found l = (a : List Told) × (n : Told) × (b : List Told) × (l ≡ a ++ n ∷ b) × (finds_nothing n.entry.op n.entry.reply ≡ true)

later : (x : Told) (v : List Told) → Found v → Found (x ∷ v)
later x v r = (x ∷ r.0, r.1, r.2, ap (λ l. x ∷ l) r.3, r.4)

found-at : (caller : ℕ) (v : List Told) → HandsToNothing caller (entries_in v) → Found v
found-at caller [] s = absurd s
found-at caller (x ∷ v) (inl n) = ([], x, v, refl, n.1)
found-at caller (x ∷ v) (inr r) = later x v (found-at caller v r)

not-nothing : (reply other : Reply) → reply ≡ other → finds_nothing op.Hand other ≡ false → finds_nothing op.Hand reply ≡ true → ⊥
not-nothing reply other e n y = let c : true ≡ false = sym y ∙ ap (finds_nothing op.Hand) e ∙ n in cc c

-- where a Hand finds nothing, no event may be handed
none-ready : (m : Moment) (o : Op) (reply : Reply) → IsReply m o reply → finds_nothing o reply ≡ true → IsAnyReady m → ⊥
none-ready m op.Hand reply r s = go (hand-row m reply (here-row m op.Hand reply hand-here r))
  where
    go : (IsDeep m × (reply ≡ answer.Refused TooDeep)) ⊎ (reply ≡ answer.Refused HandingsSpent) ⊎ IsHanding m reply ⊎ IsNothing m reply → IsAnyReady m → ⊥
    go (inl deep) = absurd (not-nothing reply _ deep.1 refl s)
    go (inr (inl spent)) = absurd (not-nothing reply _ spent refl s)
    go (inr (inr (inl handing))) = absurd (not-nothing reply _ handing.is refl s)
    go (inr (inr (inr nothing))) = nothing.none
none-ready m o reply r s = absurd (cc s)

-- a live listener that is in no turn was then handed all that is due to it
all-there : (told : List Told) (listener : ListenerId) (a : Added) → IsPrefix (handed listener told) (due listener told) → listener_at listener (entries_in told) ≡ Some a →
    is_in_turn listener (entries_in told) ≡ false → ((l : ListenerId) × (spot : Spot) × IsReady (sights_in told) (entries_in told) l spot → ⊥) → due listener told ≡ handed listener told
all-there told listener a p live free none = go p.0 p.1
  where
    go : (waiting : List Event) → handed listener told ++ waiting ≡ due listener told → due listener told ≡ handed listener told
    go [] e = sym e ∙ append-nil (handed listener told)
    go (v ∷ rest) e =
        let s = split-map event_at (spots listener told) (handed listener told) (v ∷ rest) (sym (due-spots listener told) ∙ sym e) in
        absurd (ready s.0 s.1 s.2 s.3 s.4)
      where
        ready : (us ws : List Spot) → spots listener told ≡ us ++ ws → map event_at us ≡ handed listener told → map event_at ws ≡ v ∷ rest → ⊥
        ready us [] e f g = cc g
        ready us (spot ∷ ws) e f g =
            none (listener, spot, record { added = a; live = live; free = free; next = record { past = us; rest = ws; due = spots-flat listener told ∙ e; handed = f ∙ sym (handed-flat listener told) } })

-- ---- in the end

-- no entry behind the last one that concerns a listener ends a turn of it
no-ends : (listener : ListenerId) (front rest : List Told) (a b : Added) → listener_at listener (entries_in front) ≡ Some a → listener_at listener (entries_in (front ++ rest)) ≡ Some b →
    AllAlong (λ f x. Concerns listener f x → ⊥) front rest → AllAlong (λ f (x : Told). ends_turn listener x.entry.op ≡ false) front rest
no-ends listener front [] a b live last none = tt
no-ends listener front (x ∷ rest) a b live last none = (here-not, more (no-ends listener (front ++ x ∷ []) rest))
  where
    here-not : ends_turn listener x.entry.op ≡ false
    here-not = is-false _ (λ e. none.0 (or_right (is_some_there (seen listener front x)) _ (and_from (ends_turn listener x.entry.op) _ e (ap is_some live))))

    more : ((a b : Added) → listener_at listener (entries_in (front ++ x ∷ [])) ≡ Some a → listener_at listener (entries_in ((front ++ x ∷ []) ++ rest)) ≡ Some b →
        AllAlong (λ f x. Concerns listener f x → ⊥) (front ++ x ∷ []) rest → AllAlong (λ f (x : Told). ends_turn listener x.entry.op ≡ false) (front ++ x ∷ []) rest) →
        AllAlong (λ f (x : Told). ends_turn listener x.entry.op ≡ false) (front ++ x ∷ []) rest
    more ih =
        let end : listener_at listener ((entries_in front ++ x.entry ∷ []) ++ entries_in rest) ≡ Some b =
        ap (listener_at listener) (append_assoc (entries_in front) (x.entry ∷ []) (entries_in rest) ∙ sym (map-append (λ (y : Told). y.entry) front (x ∷ rest))) ∙ last in
        let c = live-between listener (entries_in front) (x.entry ∷ []) (entries_in rest) a b live end in
        ih c.0 b (ap (listener_at listener) (entries-last front x) ∙ c.1) (subst (λ l. listener_at listener (entries_in l) ≡ Some b) (sym (append_assoc front (x ∷ []) rest)) last) none.1

all-closed : (opened : List Bracket) → ((caller : ℕ) → [] ≡ of caller opened) → opened ≡ []
all-closed [] e = refl
all-closed (b ∷ rest) e =
    let own : of b.tag.caller (b ∷ rest) ≡ b ∷ of b.tag.caller rest = ap (λ k. cond k (b ∷ of b.tag.caller rest) (of b.tag.caller rest)) (eq-eqb b.tag.caller b.tag.caller refl) in
    let none : [] ≡ b ∷ of b.tag.caller rest = e b.tag.caller ∙ own in absurd (cc none)

-- Of a legal history in which who leaves something to be handed hands again, and nothing is open in the end: each listener that is live in the
-- end was handed all that is due to it. Callers may take turns in any order.
pub out-handed : (setting : Setting) (told : List Told) → AreAllowed setting told → HandsAgainAndCloses (entries_in told) → AllHanded told
out-handed setting told legal out listener a live =
    sym (all-handed (seen listener) (hands listener) (Concerns listener) (λ f x. known (concerns listener f x))
    (λ f x n. quiet f x n) told (handed-is-prefix setting told legal listener) after)
  where
    quiet : (f : List Told) (x : Told) → (Concerns listener f x → ⊥) → seen listener f x ≡ []
    quiet f x n = none-there (seen listener f x) (is-false _ (λ e. n (or_left _ _ e)))

    after : (u : List Told) (e : Told) (v : List Told) → told ≡ u ++ e ∷ v → Concerns listener u e → AllAlong (λ f x. Concerns listener f x → ⊥) (u ++ e ∷ []) v →
        (w : List Told) × (z : List Told) × (v ≡ w ++ z) × (due listener ((u ++ e ∷ []) ++ w) ≡ handed listener ((u ++ e ∷ []) ++ w))
    after u e v is c none =
        let ok = IsAllowed setting in
        let parts = AllAlong-split ok [] u (e ∷ v) (subst (AreAllowed setting) is legal) in
        let here = concerned setting listener u e parts.0 parts.1.0 c in
        let found = found-at e.entry.tag.caller v (again-at u e v (subst (λ l. HandsAgain (entries_in l)) is out.again) here.0) in
        let w : List Told = found.0 in
        let n : Told = found.1 in
        let z : List Told = found.2 in
        let first : List Told = u ++ e ∷ [] in
        let front : List Told = first ++ w in
        let split : first ++ v ≡ front ++ n ∷ z = ap (λ l. first ++ l) found.3 ∙ sym (append_assoc first w (n ∷ z)) in
        let whole : told ≡ front ++ n ∷ z = is ∙ sym (append_assoc u (e ∷ []) v) ∙ split in
        let legal_parts = AllAlong-split ok [] front (n ∷ z) (subst (AreAllowed setting) whole legal) in
        let quiet_parts = AllAlong-split (λ f x. Concerns listener f x → ⊥) first w (n ∷ z) (subst (AllAlong (λ f x. Concerns listener f x → ⊥) first) found.3 none) in
        let end : listener_at listener (entries_in (front ++ n ∷ z)) ≡ Some a = subst (λ l. listener_at listener (entries_in l) ≡ Some a) whole live in
        let shape : entries_in front ≡ entries_in u ++ entries_in (e ∷ w) = ap entries_in (append_assoc u (e ∷ []) w) ∙ map-append (λ (x : Told). x.entry) u (e ∷ w) in
        let between : (b : Added) × (listener_at listener (entries_in u ++ entries_in (e ∷ w)) ≡ Some b) =
        live-between listener (entries_in u) (entries_in (e ∷ w)) (entries_in (n ∷ z)) here.1.0 a here.1.1
        (subst (λ l. listener_at listener l ≡ Some a) (map-append (λ (x : Told). x.entry) front (n ∷ z) ∙ ap (λ l. l ++ entries_in (n ∷ z)) shape) end) in
        let there : listener_at listener (entries_in front) ≡ Some between.0 = ap (listener_at listener) shape ∙ between.1 in
        let free : is_in_turn listener (entries_in front) ≡ false = is-false _ (λ t.
        (let lasts = turn-lasts setting listener front (n ∷ z) legal_parts.1 (no-ends listener front (n ∷ z) between.0 a there end quiet_parts.1) t in
        let in_end : is_in_turn listener (entries_in told) ≡ true = subst (λ l. is_in_turn listener (entries_in l) ≡ true) (sym whole) lasts in
        let bad : true ≡ false = sym in_end ∙ ap (λ l. list_any (λ (b : Bracket). is_turn_of listener b.cause) l) out.closed in cc bad)) in (
          w,
          n ∷ z,
          found.3,
          all-there front listener between.0 (handed-is-prefix setting front legal_parts.0 listener) there free
              (none-ready (moment setting front n.entry.tag) n.entry.op n.entry.reply legal_parts.1.0.replied found.4),
        )

-- ---- whole runs

-- each caller's entries are whole runs
abbrev pub AllRuns : Sections → List Entry → Type 0
AllRuns script history = (caller : ℕ) → AreRuns script caller (by caller history)

hands-all : (caller : ℕ) (entries : List Entry) → Settles (calls_of (by caller entries)) → HandsToNothing caller entries
hands-all caller [] s = absurd s
hands-all caller (e ∷ rest) s = go (is_by caller e) refl s (hands-all caller rest)
  where
    go : (k : Bool) → is_by caller e ≡ k → Settles (calls_of (cond k (e ∷ by caller rest) (by caller rest))) → (Settles (calls_of (by caller rest)) → HandsToNothing caller rest) → HandsToNothing caller (e ∷ rest)
    go true same (inl n) ih = inl (eqb-true e.tag.caller caller same, n)
    go true same (inr r) ih = inr (ih r)
    go false same r ih = inr (ih r)

abbrev Settled : List Entry → Type 0
Settled history = (caller : ℕ) → AreSettled (calls_of (by caller history))

settled-rest : (e : Entry) (rest : List Entry) → Settled (e ∷ rest) → Settled rest
settled-rest e rest all caller = go (is_by caller e) (all caller)
  where
    go : (k : Bool) → AreSettled (calls_of (cond k (e ∷ by caller rest) (by caller rest))) → AreSettled (calls_of (by caller rest))
    go true s = s.1
    go false s = s

-- where the calls of each caller are settled, who leaves something to be handed hands again
hands-again : (history : List Entry) → Settled history → HandsAgain history
hands-again [] all = tt
hands-again (e ∷ rest) all = (hands-here, hands-again rest (settled-rest e rest all))
  where
    hands-here : leaves_some e.op e.reply ≡ true → HandsToNothing e.tag.caller rest
    hands-here some =
        let own = subst (λ k. AreSettled (calls_of (cond k (e ∷ by e.tag.caller rest) (by e.tag.caller rest)))) (eq-eqb e.tag.caller e.tag.caller refl) (all e.tag.caller) in
        hands-all e.tag.caller rest (own.0 some)

-- of a legal history in which each caller's entries are whole runs
pub runs-out : (setting : Setting) (script : Sections) (told : List Told) → AreAllowed setting told → AllRuns script (entries_in told) → HandsAgainAndCloses (entries_in told)
runs-out setting script told legal runs = record {
  again = hands-again (entries_in told) (λ caller. (calm caller).0);
  closed = all-closed (brackets (entries_in told)) (λ caller. (calm caller).1);
}
  where
    calm : (caller : ℕ) → AreSettled (calls_of (by caller (entries_in told))) × ([] ≡ brackets_of caller (entries_in told))
    calm caller = runs-settled (λ own. own ≡ brackets_of caller (entries_in told)) (runs caller) (owned setting caller [] told legal)

pub runs-handed : (setting : Setting) (script : Sections) (told : List Told) → AreAllowed setting told → AllRuns script (entries_in told) → AllHanded told
runs-handed setting script told legal runs = out-handed setting told legal (runs-out setting script told legal runs)

-- so in a session without a cut, lanes and all
pub uncut-handed : (setting : Setting) (script : Sections) (lines : List Line) (told : List Told) → AreAllowed setting told → Uncut script lines (entries_in told) → AllHanded told
uncut-handed setting script lines told legal uncut = runs-handed setting script told legal (λ caller. makes-runs uncut (omega arith) caller)

-- and where one caller's lines each ran whole, and made the history
pub lane-handed : (setting : Setting) (script : Sections) (caller : ℕ) (was_cut : Bool) (lines : List Line) (told : List Told) → AreAllowed setting told →
    Lane script Never caller was_cut lines (entries_in told) → AllHanded told
lane-handed setting script caller was_cut lines told legal lane = runs-handed setting script told legal (lane-callers caller lane)

-- so it is in a telling of what lines made, all of lane 0 and numbered from 1, where none of them is full
told-handed : (setting : Setting) (script : Sections) (limit status : ℕ) (lines : List Line) (told : List Told) → AreAllowed setting told → AreNumberedFrom 1 lines → All IsPlain lines →
    IsWhole script limit status lines (entries_in told) → list_any (is_full (entries_in told)) lines ≡ false → AllHanded told
told-handed setting script limit status lines told legal numbered flat whole none = let lane = makes-lane whole (commands_in lines) (blocks-plain lines flat) in by lane.0 lane.1
  where
    lawful : Bool → Type 0
    lawful = MayBeCut limit status (entries_in told)

    by : (was_cut : Bool) → Lane script lawful 0 was_cut (commands_in lines) (entries_in told) → AllHanded told
    by true lane = absurd (let bad : true ≡ false = sym (some-full script lawful lines (entries_in told) numbered lane) ∙ none in cc bad)
    by false lane = lane-handed setting script 0 false (commands_in lines) told legal (uncut-lane lane refl)

-- and in each telling of it
pub whole-handed : (setting : Setting) (script : Sections) (limit status : ℕ) (lines : List Line) (history : List Entry) → AreNumberedFrom 1 lines → All IsPlain lines →
    IsWhole script limit status lines history → list_any (is_full history) lines ≡ false → AllHandedIn setting history
whole-handed setting script limit status lines history numbered flat whole none told tells legal =
    told-handed setting script limit status lines told legal numbered flat (subst (λ (h : List Entry). IsWhole script limit status lines h) (sym tells) whole)
    (subst (λ (h : List Entry). list_any (is_full h) lines ≡ false) (sym tells) none)
