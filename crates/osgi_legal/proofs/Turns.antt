-- A listener that is in a turn has exactly one open bracket of a hand, and any other has none: in every legal history.
use Rattle.std.proofs.Common.{◌≡◌, ◌⊎◌, inl, inr, List, [], ◌∷◌, Bool, true, false, refl, sym, ap, ◌∙◌, subst}
use Rattle.std.specs.Prelude.{◌==◌, ◌||◌, cond, filter, Some}
use Rattle.std.specs.List.{list_any}
use Rattle.std.proofs.lemmas.Bool.{eqb-true}
use Rattle.osgi_base.specs.declared.ids.ListenerId.{ListenerId}
use Rattle.osgi_base.specs.declared.ids.Tag.{Tag}
use Rattle.osgi_ops.specs.Brackets.{Bracket, bracket, brackets, Cause, closes, handing, job, making, opens, starting, stopping}
use Rattle.osgi_legal.specs.Legal.{AreAllowed, IsAllowed}
use Rattle.osgi_ops.specs.Listening.{is_in_turn, is_turn_of}
use Rattle.osgi_ops.specs.Moments.{entries_in, Moment, moment, Told}
use Rattle.osgi_legal.specs.Operations.{IsReply}
use Rattle.osgi_ops.specs.Settings.{Setting}
use Rattle.osgi_ops.specs.declared.entry.Entry.{Entry}
use Rattle.osgi_ops.specs.declared.op.Op.{Op}
use Rattle.osgi_ops.specs.declared.op.Op.TheVariants as op
use Rattle.osgi_ops.specs.declared.reply.Reply.{Reply}
use Rattle.osgi_ops.specs.declared.reply.Reply.TheVariants as answer
use Rattle.osgi_ops.specs.rows.Events.{IsHanding, IsNothing}
use Rattle.osgi_world.specs.Lists.{In}
use Rattle.osgi_ops.specs.laws.Along.{holds}
use Rattle.osgi_ops.specs.laws.Brackets.{brackets-last}
use Rattle.osgi_ops.specs.laws.Items.{In-filter, In-kept}
use Rattle.osgi_legal.proofs.Accepted.{accepted}
use Rattle.osgi_legal.proofs.Innermost.{AreFew, few-turned}
use Rattle.osgi_legal.proofs.Listening.{is_turn}
use Rattle.osgi_legal.proofs.Owned.{entries-last}

-- the open brackets of the listener's hands
abbrev pub turns_of : ListenerId → List Bracket → List Bracket
turns_of listener opened = filter (is_turn listener) opened

-- none where it is in no turn, and one where it is in a turn
abbrev pub AreTurns : ListenerId → Bool → List Bracket → Type 0
AreTurns listener false turns = turns ≡ []
AreTurns listener true turns = (tag : Tag) × (turns ≡ bracket tag (handing listener) ∷ [])

pub same-listener : (l m : ListenerId) → (l.0 == m.0) ≡ true → l ≡ m
same-listener l m e = let q : l.0 ≡ m.0 = eqb-true l.0 m.0 e in λ i. record { 0 = q i }

-- a hand of the listener is what such a bracket is open for
pub turn-cause : (listener : ListenerId) (c : Cause) → is_turn_of listener c ≡ true → c ≡ handing listener
turn-cause listener (handing held) e = ap handing (same-listener held listener e)
turn-cause listener (starting b) e = absurd (cc e)
turn-cause listener (stopping b) e = absurd (cc e)
turn-cause listener job e = absurd (cc e)
turn-cause listener (making m) e = absurd (cc e)

-- ---- any of a list

-- where none passes the filter leaves none
pub none-left : {X : Type 0} (p : X → Bool) (xs : List X) → list_any p xs ≡ false → filter p xs ≡ []
none-left p [] none = refl
none-left {X} p (x ∷ xs) none = go (p x) none (none-left p xs)
  where
    go : (k : Bool) → (k || list_any p xs) ≡ false → (list_any p xs ≡ false → filter p xs ≡ []) → cond k (x ∷ filter p xs) (filter p xs) ≡ []
    go true e ih = absurd (cc e)
    go false e ih = ih e

pub none-passes : {X : Type 0} (p : X → Bool) (xs : List X) → filter p xs ≡ [] → list_any p xs ≡ false
none-passes p [] none = refl
none-passes {X} p (x ∷ xs) none = go (p x) none (none-passes p xs)
  where
    go : (k : Bool) → cond k (x ∷ filter p xs) (filter p xs) ≡ [] → (filter p xs ≡ [] → list_any p xs ≡ false) → (k || list_any p xs) ≡ false
    go true e ih = absurd (cc e)
    go false e ih = ih e

-- ---- one more entry

-- a hand of a listener finds it in no turn
hand-free : (m : Moment) (y : Reply) (listener : ListenerId) → IsReply m op.Hand y → opens op.Hand y ≡ Some (handing listener) → is_in_turn listener m.before ≡ false
hand-free m (answer.Handed to kind owner row name event) listener r is = by (accepted m op.Hand (answer.Handed to kind owner row name event) r refl).1
  where
    by : IsHanding m (answer.Handed to kind owner row name event) ⊎ IsNothing m (answer.Handed to kind owner row name event) → is_in_turn listener m.before ≡ false
    by (inl hand) =
        let held : to ≡ hand.listener = cc hand.is in
        let same : to ≡ listener = cc is in
        subst (λ l. is_in_turn l m.before ≡ false) (sym held ∙ same) hand.earliest.ready.free
    by (inr nothing) = absurd (cc nothing.is)
hand-free m y listener r is = absurd (cc is)

turn-free : (m : Moment) (o : Op) (y : Reply) (listener : ListenerId) → IsReply m o y → opens o y ≡ Some (handing listener) → is_in_turn listener m.before ≡ false
turn-free m op.Hand y listener r is = hand-free m y listener r is
turn-free m op.TakeJob (answer.Job owner row name) listener r is = absurd (cc is)
turn-free m (op.BeginStart b transient) (answer.Begun begun row) listener r is = absurd (cc is)
turn-free m (op.BeginStop target transient) (answer.Begun begun row) listener r is = absurd (cc is)
turn-free m (op.Get user service) (answer.Make owner row name) listener r is = absurd (cc is)
turn-free m (op.GetOwn user service) (answer.Make owner row name) listener r is = absurd (cc is)
turn-free m o y listener r is = absurd (cc is)

few-turns : (setting : Setting) (told : List Told) → AreAllowed setting told → (listener : ListenerId) → AreFew (turns_of listener (brackets (entries_in told)))
few-turns setting told legal listener =
    holds (IsAllowed setting) (λ l. AreFew (turns_of listener (brackets (entries_in l)))) (inl refl)
    (λ front x before few a.
    let h : List Entry = entries_in front in
    subst (λ opened. AreFew (turns_of listener opened)) (sym (ap brackets (entries-last front x) ∙ brackets-last h x.entry))
    (few-turned (is_turn listener) x.entry.tag (opens x.entry.op x.entry.reply) (closes x.entry.tag x.entry.op (brackets h)) (brackets h)
    (λ cause is turn.
    none-left (is_turn listener) (brackets h)
    (turn-free (moment setting front x.entry.tag) x.entry.op x.entry.reply listener a.replied (is ∙ ap Some (turn-cause listener cause turn)))) few))
    told legal

-- of every legal history
pub turns-fit : (setting : Setting) (told : List Told) → AreAllowed setting told → (listener : ListenerId) → AreTurns listener (is_in_turn listener (entries_in told)) (turns_of listener (brackets (entries_in told)))
turns-fit setting told legal listener = by (is_in_turn listener (entries_in told)) refl (few-turns setting told legal listener)
  where
    opened : List Bracket
    opened = brackets (entries_in told)

    by : (k : Bool) → list_any (is_turn listener) opened ≡ k → AreFew (turns_of listener opened) → AreTurns listener k (turns_of listener opened)
    by false e few = none-left (is_turn listener) opened e
    by true e (inl none) = absurd (let bad : true ≡ false = sym e ∙ none-passes (is_turn listener) opened none in cc bad)
    by true e (inr (z, one)) =
        let i = In-filter (is_turn listener) opened z (subst (In z) (sym one) (inl refl)) in
        let is : z ≡ bracket z.tag (handing listener) = (let q = turn-cause listener z.cause i.1 in λ j. record { tag = z.tag; cause = q j }) in
        (z.tag, one ∙ ap (λ b. b ∷ []) is)

-- so two such brackets are one
pub same-turn : (setting : Setting) (told : List Told) → AreAllowed setting told → (listener : ListenerId) (x y : Bracket) → In x (brackets (entries_in told)) → In y (brackets (entries_in told)) → is_turn listener x ≡ true → is_turn listener y ≡ true →
    x ≡ y
same-turn setting told legal listener x y i j e f =
    by (few-turns setting told legal listener) (In-kept (is_turn listener) opened x i e) (In-kept (is_turn listener) opened y j f)
  where
    opened : List Bracket
    opened = brackets (entries_in told)

    only : (z b : Bracket) → turns_of listener opened ≡ z ∷ [] → In b (turns_of listener opened) → b ≡ z
    only z b one k = elim (subst (In b) one k) [ inl same ↦ same | inr none ↦ absurd (elim none [ ]) ]

    by : AreFew (turns_of listener opened) → In x (turns_of listener opened) → In y (turns_of listener opened) → x ≡ y
    by (inl none) k l = absurd (elim (subst (In x) none k) [ ])
    by (inr (z, one)) k l = only z x one k ∙ sym (only z y one l)
