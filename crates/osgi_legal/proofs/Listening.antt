-- Listeners that are live stay so until they are removed for good, and a turn lasts until its hand is ended.
use Rattle.std.proofs.Common.{◌≡◌, ◌⊎◌, inl, inr, ◌≤◌, ◌+◌, ℕ, List, [], ◌∷◌, ◌++◌, append_assoc, append-nil, Bool, true, false, refl, sym, ap, ◌∙◌, subst, arith}
use Rattle.std.specs.Prelude.{◌==◌, ◌||◌, not, cond, filter, find, Option, None, Some}
use Rattle.std.specs.List.{list_any}
use Rattle.std.proofs.lemmas.Bool.{eqb-true, ne_eqb, or_left, or_right, true_from_ne_false, and_parts}
use Rattle.osgi_base.specs.declared.ids.BundleId.{BundleId}
use Rattle.osgi_base.specs.declared.ids.ListenerId.{ListenerId}
use Rattle.osgi_base.specs.declared.ids.Tag.{Tag}
use Rattle.osgi_ops.specs.Along.{carry, AllAlong}
use Rattle.osgi_ops.specs.Brackets.{Bracket, brackets, Cause, closes, ends, opens, with_entry, without_innermost}
use Rattle.osgi_ops.specs.OwnBrackets.{is_end, own_closes, turned}
use Rattle.osgi_legal.specs.Legal.{IsAllowed}
use Rattle.osgi_ops.specs.Listening.{Added, adds, clears, heard_by, Hearing, hearing, HearingChange, is_in_turn, is_listener, is_turn_of, lets_go, listener_at, takes_off, with_heard}
use Rattle.osgi_legal.specs.Operations.{IsReply}
use Rattle.osgi_legal.specs.laws.Stages.{row-of}
use Rattle.osgi_ops.specs.Replies.{took_effect, verdict}
use Rattle.osgi_ops.specs.Settings.{Setting}
use Rattle.osgi_ops.specs.Moments.{entries_in, Moment, Told}
use Rattle.osgi_base.specs.Verdict.{refuses}
use Rattle.osgi_ops.specs.declared.entry.Entry.{Entry}
use Rattle.osgi_model.specs.declared.filter.Filter.{Filter}
use Rattle.osgi_ops.specs.declared.kind.Kind.{Kind}
use Rattle.osgi_ops.specs.declared.op.Op.{Op}
use Rattle.osgi_ops.specs.declared.op.Op.TheVariants.{EndHand, EndJob, EndMake, EndStart, EndStop}
use Rattle.osgi_ops.specs.declared.refusal.Refusal.{Refusal}
use Rattle.osgi_ops.specs.declared.refusal.Refusal.TheVariants.{InvalidOperation}
use Rattle.osgi_ops.specs.declared.reply.Reply.{Reply}
use Rattle.osgi_ops.specs.declared.reply.Reply.TheVariants.{Refused}
use Rattle.osgi_ops.specs.laws.Along.{carry-append}
use Rattle.osgi_ops.specs.laws.Brackets.{brackets-last, ends_turn, ends-no-turn}
use Rattle.osgi_legal.proofs.Owned.{closes-own, entries-last, refused-of, of}

-- what holds of a state and is kept by each item holds in the end
pub carry-holds : {S A : Type 0} (step : S → A → S) (Holds : S → Type 0) → ((s : S) (a : A) → Holds s → Holds (step s a)) → (s : S) (xs : List A) → Holds s → Holds (carry step s xs)
carry-holds step Holds kept s [] h = h
carry-holds step Holds kept s (x ∷ xs) h = carry-holds step Holds kept (step s x) xs (kept s x h)

-- ---- listeners

find-append : {X : Type 0} (p : X → Bool) (xs : List X) (x : X) → find p xs ≡ None → p x ≡ false → find p (xs ++ x ∷ []) ≡ None
find-append p [] x e f = ap (λ k. cond k (Some x) None) f
find-append {X} p (y ∷ xs) x e f = go (p y) refl e (find-append p xs x)
  where
    go : (k : Bool) → p y ≡ k → cond k (Some y) (find p xs) ≡ None → (find p xs ≡ None → p x ≡ false → find p (xs ++ x ∷ []) ≡ None) → cond (p y) (Some y) (find p (xs ++ x ∷ [])) ≡ None
    go true q n ih = absurd (cc n)
    go false q n ih = ap (λ k. cond k (Some y) (find p (xs ++ x ∷ []))) q ∙ ih n f

find-filter : {X : Type 0} (p q : X → Bool) (xs : List X) → find p xs ≡ None → find p (filter q xs) ≡ None
find-filter p q [] e = refl
find-filter {X} p q (y ∷ xs) e = go (p y) (q y) refl e (find-filter p q xs)
  where
    go : (k l : Bool) → p y ≡ k → cond k (Some y) (find p xs) ≡ None → (find p xs ≡ None → find p (filter q xs) ≡ None) → find p (cond l (y ∷ filter q xs) (filter q xs)) ≡ None
    go true l r n ih = absurd (cc n)
    go false true r n ih = ap (λ k. cond k (Some y) (find p (filter q xs))) r ∙ ih n
    go false false r n ih = ih n

-- the id was given out and the listener is not live
pub record IsGone (listener : ListenerId) (s : Hearing) : Type 0 where
  pub given : listener.0 ≤ s.count
  pub none : find (is_listener listener) s.live ≡ None

gone-with : (listener : ListenerId) (s : Hearing) (change : Option HearingChange) → IsGone listener s → IsGone listener (with_heard change s)
gone-with listener s None g = g
gone-with listener s (Some (adds owner name kind given)) g = record {
  given = omega (arith, g.given);
  none = find-append (is_listener listener) s.live _ g.none (ne_eqb (s.count + 1) listener.0 (λ e. absurd (omega (arith, e, g.given))));
}
gone-with listener s (Some (lets_go by removed)) g =
    record { given = g.given; none = find-filter (is_listener listener) (λ (a : Added). not (takes_off a.owner a.name (lets_go by removed))) s.live g.none }
gone-with listener s (Some (clears bundle)) g =
    record { given = g.given; none = find-filter (is_listener listener) (λ (a : Added). not (takes_off a.owner a.name (clears bundle))) s.live g.none }

count-with : (n : ℕ) (s : Hearing) (change : Option HearingChange) → n ≤ s.count → n ≤ (with_heard change s).count
count-with n s None g = g
count-with n s (Some (adds owner name kind given)) g = omega (arith, g)
count-with n s (Some (lets_go by removed)) g = g
count-with n s (Some (clears bundle)) g = g

-- the ids of live listeners were given out
abbrev pub IsCounted : Hearing → Type 0
IsCounted s = (listener : ListenerId) (a : Added) → find (is_listener listener) s.live ≡ Some a → listener.0 ≤ s.count

found-or-none : {X : Type 0} (o : Option X) → ((x : X) × (o ≡ Some x)) ⊎ (o ≡ None)
found-or-none None = inr refl
found-or-none (Some x) = inl (x, refl)

some-none : {X : Type 0} (o : Option X) (x : X) → o ≡ Some x → o ≡ None → ⊥
some-none o x e n = let c : Some x ≡ None = sym e ∙ n in cc c

counted-added : (s : Hearing) (owner : BundleId) (name : List ℕ) (kind : Kind) (given : Option Filter) → IsCounted s → IsCounted (with_heard (Some (adds owner name kind given)) s)
counted-added s owner name kind given c = λ listener a e. one listener a e (found-or-none (find (is_listener listener) s.live)) (s.count + 1 == listener.0) refl
  where
    new : Added
    new = record { listener = record { 0 = s.count + 1 }; owner = owner; name = name; kind = kind; given = given }

    one : (listener : ListenerId) (a : Added) → find (is_listener listener) (s.live ++ new ∷ []) ≡ Some a → ((b : Added) × (find (is_listener listener) s.live ≡ Some b)) ⊎ (find (is_listener listener) s.live ≡ None) → (k : Bool) → (s.count + 1 == listener.0) ≡ k → listener.0 ≤ s.count + 1
    one listener a e (inl b) k q = omega (arith, c listener b.0 b.1)
    one listener a e (inr n) true q = omega (arith, eqb-true (s.count + 1) listener.0 q)
    one listener a e (inr n) false q = absurd (some-none _ a e (find-append (is_listener listener) s.live new n q))

counted-left : (s : Hearing) (stays : Added → Bool) → IsCounted s → IsCounted (record { count = s.count; live = filter stays s.live })
counted-left s stays c = λ listener a e. go listener a e (found-or-none (find (is_listener listener) s.live))
  where
    go : (listener : ListenerId) (a : Added) → find (is_listener listener) (filter stays s.live) ≡ Some a →
        ((b : Added) × (find (is_listener listener) s.live ≡ Some b)) ⊎ (find (is_listener listener) s.live ≡ None) → listener.0 ≤ s.count
    go listener a e (inl b) = c listener b.0 b.1
    go listener a e (inr n) = absurd (some-none _ a e (find-filter (is_listener listener) stays s.live n))

counted-with : (s : Hearing) (change : Option HearingChange) → IsCounted s → IsCounted (with_heard change s)
counted-with s None c = c
counted-with s (Some (adds owner name kind given)) c = counted-added s owner name kind given c
counted-with s (Some (lets_go by removed)) c = counted-left s (λ (a : Added). not (takes_off a.owner a.name (lets_go by removed))) c
counted-with s (Some (clears bundle)) c = counted-left s (λ (a : Added). not (takes_off a.owner a.name (clears bundle))) c

abbrev by_entry : Hearing → Entry → Hearing
by_entry s e = with_heard (heard_by e.op e.reply) s

-- no listener was added
abbrev pub no_hearing : Hearing
no_hearing = record { count = 0; live = [] }

pub counted : (history : List Entry) → IsCounted (hearing history)
counted history = carry-holds by_entry IsCounted (λ s e c. counted-with s (heard_by e.op e.reply) c) no_hearing history (λ listener a e. absurd (cc e))

-- a listener that is live at a beginning and in the end is live between them
pub live-between : (listener : ListenerId) (u p q : List Entry) (a b : Added) → listener_at listener u ≡ Some a → listener_at listener ((u ++ p) ++ q) ≡ Some b →
    (c : Added) × (listener_at listener (u ++ p) ≡ Some c)
live-between listener u p q a b first last = go (found-or-none (listener_at listener (u ++ p)))
  where
    go : ((c : Added) × (listener_at listener (u ++ p) ≡ Some c)) ⊎ (listener_at listener (u ++ p) ≡ None) → (c : Added) × (listener_at listener (u ++ p) ≡ Some c)
    go (inl c) = c
    go (inr n) =
        let count : listener.0 ≤ (hearing (u ++ p)).count =
        subst (λ s. listener.0 ≤ s.count) (sym (carry-append by_entry no_hearing u p))
        (carry-holds by_entry (λ s. listener.0 ≤ s.count) (λ s e k. count-with listener.0 s (heard_by e.op e.reply) k) (hearing u) p (counted u listener a first)) in
        let gone : IsGone listener (hearing ((u ++ p) ++ q)) =
        subst (IsGone listener) (sym (carry-append by_entry no_hearing (u ++ p) q))
        (carry-holds by_entry (IsGone listener) (λ s e g. gone-with listener s (heard_by e.op e.reply) g) (hearing (u ++ p)) q (record { given = count; none = n })) in
        absurd (some-none _ b last gone.none)

-- ---- turns

-- the bracket is that of a hand of the listener
abbrev pub is_turn : ListenerId → Bracket → Bool
is_turn listener b = is_turn_of listener b.cause

-- where an operation is the end of the innermost bracket of its caller there is one
pub record HasEnded (tag : Tag) (op : Op) (opened : List Bracket) : Type 0 where
  pub bracket : Bracket
  pub outer : List Bracket
  pub is : of tag.caller opened ≡ bracket ∷ outer
  pub ended : ends op bracket.cause ≡ true

ended_first : (tag : Tag) (op : Op) (own : List Bracket) → own_closes tag op own ≡ true → (b : Bracket) × (outer : List Bracket) × (own ≡ b ∷ outer) × (ends op b.cause ≡ true)
ended_first tag op [] e = absurd (cc e)
ended_first tag op (b ∷ outer) e = (b, outer, refl, (and_parts (b.tag.command == tag.command) _ e).1)

pub has-ended : (tag : Tag) (op : Op) (opened : List Bracket) → closes tag op opened ≡ true → HasEnded tag op opened
has-ended tag op opened e = let r = ended_first tag op (of tag.caller opened) (sym (closes-own tag op opened) ∙ e) in record { bracket = r.0; outer = r.1; is = r.2; ended = r.3 }

-- an end that did its work was that of the innermost bracket
refused-row : {X : Type 0} (reply : Reply) (closed : Bool) → ((f : Refusal) × ((f ≡ InvalidOperation) × (closed ≡ false)) × (verdict reply ≡ refuses f)) ⊎ (((f : Refusal) → ((f ≡ InvalidOperation) × (closed ≡ false)) → ⊥) × X) →
    took_effect reply ≡ true → closed ≡ true
refused-row reply closed (inl r) f = let c : true ≡ false = sym f ∙ ap took_effect (refused-of reply r.0 r.2 ∙ ap Refused r.1.0) in absurd (cc c)
refused-row reply closed (inr r) f = true_from_ne_false closed (λ n. r.0 InvalidOperation (refl, n))

pub effective-closes : (m : Moment) (op : Op) (reply : Reply) → IsReply m op reply → is_end op ≡ true → took_effect reply ≡ true → closes m.tag op (brackets m.before) ≡ true
effective-closes m (EndHand listener) reply r e f = refused-row reply _ (row-of m (EndHand listener) reply r f) f
effective-closes m EndJob reply r e f = refused-row reply _ (row-of m EndJob reply r f) f
effective-closes m (EndStart bundle bad) reply r e f = refused-row reply _ (row-of m (EndStart bundle bad) reply r f) f
effective-closes m (EndStop bundle bad) reply r e f = refused-row reply _ (row-of m (EndStop bundle bad) reply r f) f
effective-closes m (EndMake bad) reply r e f = refused-row reply _ (row-of m (EndMake bad) reply r f) f
effective-closes m op reply r e f = absurd (cc e)

-- the innermost bracket of a caller goes, and another stays
other-stays : (listener : ListenerId) (caller : ℕ) (opened : List Bracket) (b : Bracket) (outer : List Bracket) → of caller opened ≡ b ∷ outer → is_turn listener b ≡ false →
    list_any (is_turn listener) opened ≡ true → list_any (is_turn listener) (without_innermost caller opened) ≡ true
other-stays listener caller [] b outer e f a = absurd (cc e)
other-stays listener caller (x ∷ rest) b outer e f a = go (x.tag.caller == caller) e (other-stays listener caller rest b outer)
  where
    later : (t : Bool) → is_turn listener x ≡ t → (list_any (is_turn listener) rest ≡ true) ⊎ (is_turn listener x ≡ true)
    later true q = inr q
    later false q = inl (subst (λ k. (k || list_any (is_turn listener) rest) ≡ true) q a)

    go : (k : Bool) → cond k (x ∷ of caller rest) (of caller rest) ≡ b ∷ outer →
        (of caller rest ≡ b ∷ outer → is_turn listener b ≡ false → list_any (is_turn listener) rest ≡ true → list_any (is_turn listener) (without_innermost caller rest) ≡ true) →
        list_any (is_turn listener) (cond k rest (x ∷ without_innermost caller rest)) ≡ true
    go true q ih =
        let same : x ≡ b = cc q in
        elim (later (is_turn listener x) refl) [
          | inl r ↦ r
          | inr y ↦ absurd (let c : true ≡ false = sym y ∙ ap (is_turn listener) same ∙ f in cc c)
        ]
    go false q ih =
        elim (later (is_turn listener x) refl) [
          | inl r ↦ or_right (is_turn listener x) _ (ih q f r)
          | inr y ↦ or_left (is_turn listener x) _ y
        ]

-- what an entry that is not the end of its turn leaves of a turn
turned-stays : (tag : Tag) (opened : List Bracket) (listener : ListenerId) (op : Op) → ends_turn listener op ≡ false → list_any (is_turn listener) opened ≡ true →
    (o : Option Cause) (closed : Bool) → closes tag op opened ≡ closed → list_any (is_turn listener) (turned tag o closed opened) ≡ true
turned-stays tag opened listener op e t (Some cause) closed q = or_right (is_turn_of listener cause) _ t
turned-stays tag opened listener op e t None false q = t
turned-stays tag opened listener op e t None true q =
    let h = has-ended tag op opened q in other-stays listener tag.caller opened h.bracket h.outer h.is (ends-no-turn listener op h.bracket.cause h.ended e) t

-- a turn lasts while no entry is the end of its hand
pub turn-lasts : (setting : Setting) (listener : ListenerId) (front rest : List Told) → AllAlong (IsAllowed setting) front rest →
    AllAlong (λ f (x : Told). ends_turn listener x.entry.op ≡ false) front rest → is_in_turn listener (entries_in front) ≡ true → is_in_turn listener (entries_in (front ++ rest)) ≡ true
turn-lasts setting listener front [] legal ends t = subst (λ l. is_in_turn listener (entries_in l) ≡ true) (sym (append-nil front)) t
turn-lasts setting listener front (x ∷ rest) legal ends t =
    let step = turned-stays x.entry.tag (brackets (entries_in front)) listener x.entry.op ends.0 t (opens x.entry.op x.entry.reply) (closes x.entry.tag x.entry.op (brackets (entries_in front))) refl in
    let is : brackets (entries_in (front ++ x ∷ [])) ≡ with_entry (brackets (entries_in front)) x.entry = ap brackets (entries-last front x) ∙ brackets-last (entries_in front) x.entry in
    subst (λ l. is_in_turn listener (entries_in l) ≡ true) (append_assoc front (x ∷ []) rest)
    (turn-lasts setting listener (front ++ x ∷ []) rest legal.1 ends.1 (subst (λ l. list_any (is_turn listener) l ≡ true) (sym is) step))
