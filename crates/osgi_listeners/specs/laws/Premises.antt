-- The premises of the laws stay with one more entry, whatever entries came before; and which entries are quiet.
--
--   apart-turned       AreTurnsApart: one bracket at most hands to a listener
--   handed-first-same  AreHandedFirst: what a listener was handed are the first of the events that it saw
--   small-more         AreSmall: each place is one that an entry has
--   quiet-entry        IsQuietEntry: an entry that says nothing of listeners, hands nothing, and closes no hand
-- `Premises.antt` of osgi_tables shows that they hold at each moment of a legal history.
use Rattle.std.proofs.Common.{◌≡◌, ℕ, ◌+◌, ◌<◌, List, [], ◌∷◌, ◌++◌, Bool, true, false, refl, sym, ap, ◌∙◌, subst}
use Rattle.std.specs.Prelude.{◌==◌, cond, All, Option, None, Some}
use Rattle.std.specs.List.{list_any}
use Rattle.std.proofs.lemmas.Bool.{eq-eqb, or_from, or_parts}
use Rattle.std.proofs.lemmas.List.Elements.{All-append}
use Rattle.osgi_base.specs.declared.ids.ListenerId.{ListenerId}
use Rattle.osgi_base.specs.declared.ids.Tag.{Tag}
use Rattle.osgi_ops.specs.Brackets.{Bracket, brackets, Cause, closes, job, opens, starting, stopping, without_innermost}
use Rattle.osgi_ops.specs.OwnBrackets.{turned}
use Rattle.osgi_ops.specs.Listening.{handed_by, heard_by, is_turn_of}
use Rattle.osgi_ops.specs.Moments.{Seen, seen_after, Sight}
use Rattle.osgi_ops.specs.declared.entry.Entry.{Entry}
use Rattle.osgi_ops.specs.declared.op.Op.{Op}
use Rattle.osgi_ops.specs.declared.reply.Reply.{Reply}
use Rattle.osgi_ops.specs.laws.Brackets.{ends_turn}
use Rattle.osgi_ops.specs.laws.Items.{In-map}
use Rattle.osgi_listeners.specs.Stands.{AreSmall, AreHandedFirst, AreTurnsApart, is_turn, IsQuietEntry}
use Rattle.osgi_listeners.specs.laws.Items.{all-in, in-all}
use Rattle.osgi_listeners.specs.declared.sight.TheConstants.{ENTRY_PLACES}
use Rattle.osgi_listeners.specs.laws.Waiting.{handed-same}
use Rattle.osgi_listeners.specs.laws.Turns.{turn-stays}
use Rattle.osgi_ops.specs.declared.op.Op.TheVariants as op
use Rattle.osgi_ops.specs.declared.reply.Reply.TheVariants as answer

-- ---- one bracket at most hands to a listener

none-left : (p : Bracket → Bool) (caller : ℕ) (opened : List Bracket) → list_any p opened ≡ false → list_any p (without_innermost caller opened) ≡ false
none-left p caller [] e = refl
none-left p caller (b ∷ outer) e = go (b.tag.caller == caller) (none-left p caller outer)
  where
    go : (k : Bool) → (list_any p outer ≡ false → list_any p (without_innermost caller outer) ≡ false) → list_any p (cond k outer (b ∷ without_innermost caller outer)) ≡ false
    go true ih = (or_parts (p b) (list_any p outer) e).1
    go false ih = let r = or_parts (p b) (list_any p outer) e in or_from (p b) (list_any p (without_innermost caller outer)) r.0 (ih r.1)

apart-without : (caller : ℕ) (opened : List Bracket) → AreTurnsApart opened → AreTurnsApart (without_innermost caller opened)
apart-without caller [] apart = tt
apart-without caller (b ∷ outer) apart = go (b.tag.caller == caller) (apart-without caller outer apart.1)
  where
    go : (k : Bool) → AreTurnsApart (without_innermost caller outer) → AreTurnsApart (cond k outer (b ∷ without_innermost caller outer))
    go true ih = apart.1
    go false ih = ((λ listener t. none-left (is_turn listener) caller outer (apart.0 listener t)), ih)

-- what is opened hands to a listener that is in no turn
pub apart-turned : (tag : Tag) (o : Option Cause) (closed : Bool) (opened : List Bracket) →
    ((cause : Cause) → o ≡ Some cause → (listener : ListenerId) → is_turn_of listener cause ≡ true → list_any (is_turn listener) opened ≡ false) → AreTurnsApart opened → AreTurnsApart (turned tag o closed opened)
apart-turned tag (Some cause) closed opened fresh apart = (fresh cause refl, apart)
apart-turned tag None true opened fresh apart = apart-without tag.caller opened apart
apart-turned tag None false opened fresh apart = apart

-- ---- what was handed

-- what was handed stays a beginning with an entry that hands nothing
pub handed-first-same : (sights : List Seen) (history : List Entry) (e : Entry) → ((listener : ListenerId) → handed_by listener e.op e.reply ≡ []) → AreHandedFirst sights history → AreHandedFirst sights (history ++ e ∷ [])
handed-first-same sights history e none first listener = let r = first listener in (r.0, r.1 ∙ ap (λ l. l ++ r.0) (sym (handed-same history e none listener)))

-- ---- quiet entries

opened-other : (cause is : Cause) (n : ℕ) → is_turn_of (record { 0 = n }) is ≡ false → Some is ≡ Some cause → is_turn_of (record { 0 = n }) cause ≡ false
opened-other cause is n other e = let same : is ≡ cause = cc e in ap (is_turn_of (record { 0 = n })) (sym same) ∙ other

-- what hands nothing opens no turn
opens-no-turn : (o : Op) (reply : Reply) → ((listener : ListenerId) → handed_by listener o reply ≡ []) → (n : ℕ) (cause : Cause) → opens o reply ≡ Some cause → is_turn_of (record { 0 = n }) cause ≡ false
opens-no-turn op.Hand (answer.Handed to kind owner row name event) none n cause e =
    let bad : event ∷ [] ≡ [] = sym (ap (λ k. cond k (event ∷ []) []) (eq-eqb to.0 to.0 refl)) ∙ none to in absurd (cc bad)
opens-no-turn op.TakeJob (answer.Job owner row name) none n cause e = opened-other cause job n refl e
opens-no-turn (op.BeginStart b transient) (answer.Begun begun row) none n cause e = opened-other cause (starting b) n refl e
opens-no-turn (op.BeginStop target transient) (answer.Begun begun row) none n cause e = opened-other cause (stopping begun) n refl e
opens-no-turn (op.Get user service) (answer.Make owner row name) none n cause e = opened-other cause _ n refl e
opens-no-turn (op.GetOwn user service) (answer.Make owner row name) none n cause e = opened-other cause _ n refl e
opens-no-turn o reply none n cause e = absurd (cc e)

-- what says nothing of listeners, hands nothing and closes no hand is quiet; so is an EndHand that is refused
pub quiet-entry : (history : List Entry) (e : Entry) → heard_by e.op e.reply ≡ None → ((listener : ListenerId) → handed_by listener e.op e.reply ≡ []) →
    ((listener : ListenerId) → closes e.tag e.op (brackets history) ≡ true → ends_turn listener e.op ≡ false) → IsQuietEntry history e
quiet-entry history e heard none ends = record {
  heard = heard;
  turns = λ n. turn-stays n history e (opens-no-turn e.op e.reply none n) (ends (record { 0 = n }));
  handed = none;
}

-- ---- few happenings

-- the sights of one entry more are small, where their places are
pub small-more : (sights : List Seen) (entry : ℕ) (these : List Sight) → AreSmall sights → All (λ (s : Sight). s.place < ENTRY_PLACES) these → AreSmall (sights ++ seen_after entry these)
small-more sights entry these small fit =
    All-append (λ (s : Seen). s.place < ENTRY_PLACES) sights (seen_after entry these) small
    (all-in (λ (s : Seen). s.place < ENTRY_PLACES) (seen_after entry these) (λ s i. (let r = In-map (λ (x : Sight). record { listener = x.listener; entry = entry; place = x.place; event = x.event }) these s i in
    subst (λ (x : Seen). x.place < ENTRY_PLACES) (sym r.2) (in-all (λ (x : Sight). x.place < ENTRY_PLACES) these r.0 fit r.1))))
