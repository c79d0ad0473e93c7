-- What a hand answers is determined: the earliest event that may be handed with its listener, or which listeners are busy.
use Rattle.std.proofs.Common.{◌≡◌, ◌⊎◌, inl, inr, ◌≤◌, ◌<◌, List, [], ◌∷◌, ◌++◌, length, sym, ap, ◌∙◌, subst, arith}
use Rattle.std.specs.Prelude.{Some}
use Rattle.std.proofs.lemmas.List.{length-map}
use Rattle.std.proofs.lemmas.List.Elements.{All-contains}
use Rattle.osgi_base.specs.declared.ids.ListenerId.{ListenerId}
use Rattle.osgi_legal.proofs.Verdicts.{IsOne}
use Rattle.osgi_ops.specs.Bundles.{row_of}
use Rattle.osgi_ops.specs.Listening.{Added, event_at, IsEarlier, IsEarliest, IsNext, Spot}
use Rattle.osgi_ops.specs.Moments.{Moment, Seen}
use Rattle.osgi_ops.specs.declared.entry.Entry.{Entry}
use Rattle.osgi_ops.specs.declared.event.Busy.{Busy}
use Rattle.osgi_ops.specs.declared.event.Event.{Event}
use Rattle.osgi_ops.specs.declared.reply.Reply.{Reply}
use Rattle.osgi_ops.specs.declared.reply.Reply.TheVariants as answer
use Rattle.osgi_ops.specs.laws.Members.{AreAmong, ordered-once}
use Rattle.osgi_ops.specs.rows.Events.{HandAnswers, IsBusy, IsHanding, IsNothing}

-- ---- a listener's next event

-- behind as many items stands one item
same-place : {X : Type 0} (xs ys rest more : List X) (x y : X) → length xs ≡ length ys → xs ++ x ∷ rest ≡ ys ++ y ∷ more → x ≡ y
same-place [] [] rest more x y long e = cc e
same-place [] (v ∷ ys) rest more x y long e = absurd (omega (arith, long))
same-place (u ∷ xs) [] rest more x y long e = absurd (omega (arith, long))
same-place (u ∷ xs) (v ∷ ys) rest more x y long e = same-place xs ys rest more x y (omega (arith, long)) (cc e)

pub next-one : (sights : List Seen) (history : List Entry) (listener : ListenerId) → IsOne (IsNext sights history listener)
next-one sights history listener s t a b =
    let long : length a.past ≡ length b.past =
    sym (length-map a.past event_at) ∙ ap (λ (l : List Event). length l) (a.handed ∙ sym b.handed) ∙ length-map b.past event_at in
    same-place a.past b.past a.rest b.rest s t long (sym a.due ∙ b.due)

-- ---- the earliest of all

abbrev ComesFirst : ListenerId → Spot → ListenerId → Spot → Type 0
ComesFirst one s other t = IsEarlier s t ⊎ ((s.entry ≡ t.entry) × (s.place ≡ t.place) × (one.0 ≤ other.0))

both-first : (one other : ListenerId) (s t : Spot) → ComesFirst one s other t → ComesFirst other t one s → one.0 ≡ other.0
both-first one other s t (inl (inl a)) (inl (inl b)) = absurd (omega (arith, a, b))
both-first one other s t (inl (inl a)) (inl (inr b)) = absurd (let e = b.0 in omega (arith, a, e))
both-first one other s t (inl (inl a)) (inr b) = absurd (let e = b.0 in omega (arith, a, e))
both-first one other s t (inl (inr a)) (inl (inl b)) = absurd (let e = a.0 in omega (arith, b, e))
both-first one other s t (inl (inr a)) (inl (inr b)) = absurd (let c = a.1 in let d = b.1 in omega (arith, c, d))
both-first one other s t (inl (inr a)) (inr b) = absurd (let c = a.1 in let d = b.1 in omega (arith, c, d))
both-first one other s t (inr a) (inl (inl b)) = absurd (let e = a.0 in omega (arith, b, e))
both-first one other s t (inr a) (inl (inr b)) = absurd (let c = a.1 in let d = b.1 in omega (arith, c, d))
both-first one other s t (inr a) (inr b) = let c = a.2 in let d = b.2 in omega (arith, c, d)

same-listener : (now : Moment) (one other : ListenerId) (s t : Spot) → IsEarliest now.sights now.before one s → IsEarliest now.sights now.before other t → one ≡ other
same-listener now one other s t a b =
    let same : one.0 ≡ other.0 = both-first one other s t (a.first other t b.ready) (b.first one s a.ready) in λ i. record { 0 = same i }

-- what is handed of this listener and event
says : Moment → ListenerId → Added → Event → Reply
says now listener a event = answer.Handed listener a.kind a.owner (row_of now.setting.depot now.before a.owner) a.name event

handing-at : (now : Moment) (listener : ListenerId) (s t : Spot) (a : IsEarliest now.sights now.before listener s) (b : IsEarliest now.sights now.before listener t) →
    says now listener a.ready.added s.event ≡ says now listener b.ready.added t.event
handing-at now listener s t a b =
    let added : a.ready.added ≡ b.ready.added = (let e : Some a.ready.added ≡ Some b.ready.added = sym a.ready.live ∙ b.ready.live in cc e) in
    let spot : s ≡ t = next-one now.sights now.before listener s t a.ready.next b.ready.next in
    λ i. says now listener (added i) (spot i).event

handing-one : (now : Moment) → IsOne (IsHanding now)
unfolding says
handing-one now y z a b =
    a.is
    ∙ go a.listener b.listener a.spot b.spot (same-listener now a.listener b.listener a.spot b.spot a.earliest b.earliest) a.earliest b.earliest
    ∙ sym b.is
  where
    go : (one other : ListenerId) (s t : Spot) → one ≡ other → (a : IsEarliest now.sights now.before one s) (b : IsEarliest now.sights now.before other t) →
        says now one a.ready.added s.event ≡ says now other b.ready.added t.event
    go one other s t same a b = subst (λ o. (c : IsEarliest now.sights now.before o t) → says now one a.ready.added s.event ≡ says now o c.ready.added t.event) same (handing-at now one s t a) b

-- ---- no event

busy-among : (now : Moment) (y z : Reply) (a : IsNothing now y) (b : IsNothing now z) → AreAmong a.busy b.busy
busy-among now y z a b = λ x i. b.every x (All-contains (IsBusy now) a.busy x a.only i)

nothing-one : (now : Moment) → IsOne (IsNothing now)
nothing-one now y z a b =
    a.is
    ∙ ap answer.Nothing
    (ordered-once (λ (c d : Busy). c.listener.0 < d.listener.0) (λ c less. omega (arith, less)) (λ c d e less more. omega (arith, less, more)) a.busy b.busy a.rising b.rising
    (busy-among now y z a b) (busy-among now z y b a))
    ∙ sym b.is

pub hand-one : (now : Moment) → IsOne (HandAnswers now)
hand-one now y z (inl a) (inl b) = handing-one now y z a b
hand-one now y z (inl a) (inr b) = absurd (b.none (a.listener, a.spot, a.earliest.ready))
hand-one now y z (inr a) (inl b) = absurd (a.none (b.listener, b.spot, b.earliest.ready))
hand-one now y z (inr a) (inr b) = nothing-one now y z a b
