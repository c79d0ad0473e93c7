-- What the operations on listeners answer, each with its refusals in order.
use Rattle.std.specs.Prelude.{ℕ, ◌≡◌, ◌==◌, ◌+◌, ◌≤◌, ◌<◌, ◌&&◌, ◌⊎◌, Bool, true, List, [], ◌∷◌, Some, length, All, AllPairs, Contains}
use Rattle.std.specs.List.{list_any}
use Rattle.std.specs.Str.{bytes_eq}
use Rattle.osgi_base.specs.Verdict.{Where}
use Rattle.osgi_base.specs.declared.ids.BundleId.{BundleId}
use Rattle.osgi_base.specs.declared.ids.ListenerId.{ListenerId}
use Rattle.osgi_ops.specs.Brackets.{bracket, brackets, Cause}
use Rattle.osgi_ops.specs.Bundles.{row_of}
use Rattle.osgi_ops.specs.Conditions.{invalid_where, IsDeep, no_own_end}
use Rattle.osgi_ops.specs.Listening.{Added, handings, hearing, is_turn_of, IsEarliest, IsNext, IsReady, listener_at, listeners, Spot}
use Rattle.osgi_ops.specs.Moments.{Moment}
use Rattle.osgi_ops.specs.declared.event.Busy.{Busy}
use Rattle.osgi_ops.specs.declared.limits.TheConstants.{MAX_LISTENERS}
use Rattle.osgi_ops.specs.declared.op.Op.TheVariants.{EndHand}
use Rattle.osgi_ops.specs.declared.refusal.Many.TheVariants.{Listeners}
use Rattle.osgi_ops.specs.declared.refusal.Refusal.{Refusal}
use Rattle.osgi_ops.specs.declared.refusal.Refusal.TheVariants.{HandingsSpent, TooDeep, TooMany}
use Rattle.osgi_ops.specs.declared.reply.Reply.{Reply}
use Rattle.osgi_ops.specs.declared.reply.Reply.TheVariants as answer

abbrev pub is_name : BundleId → List ℕ → Added → Bool
is_name owner name a = (a.owner.0 == owner.0) && bytes_eq a.name name

abbrev pub has_listener : Moment → BundleId → List ℕ → Bool
has_listener now owner name = list_any (is_name owner name) (listeners now.before)

abbrev pub add_listener_refusals : Moment → BundleId → List ℕ → List (Refusal → Type 0)
add_listener_refusals now owner name =
    invalid_where (has_listener now owner name ≡ true) ∷ Where (TooMany Listeners) (MAX_LISTENERS ≤ length (listeners now.before)) ∷ []

-- the ids of listeners count from 1 and are never used again
abbrev pub AddListenerAnswers : Moment → Reply → Type 0
AddListenerAnswers now reply = reply ≡ answer.Listener (record { 0 = (hearing now.before).count + 1 })

abbrev pub remove_listener_refusals : List (Refusal → Type 0)
remove_listener_refusals = []

abbrev pub RemoveListenerAnswers : Moment → BundleId → List ℕ → Reply → Type 0
RemoveListenerAnswers now owner name reply = reply ≡ answer.Flag (has_listener now owner name)

-- ---- hands

-- an event is to be handed
abbrev pub IsAnyReady : Moment → Type 0
IsAnyReady now = (listener : ListenerId) × (spot : Spot) × IsReady now.sights now.before listener spot

abbrev pub hand_refusals : Moment → List (Refusal → Type 0)
hand_refusals now =
    Where TooDeep (IsAnyReady now × IsDeep now) ∷ Where HandingsSpent (IsAnyReady now × (now.setting.bounds.handings ≤ handings now.before)) ∷ []

-- the earliest event that is to be handed, with its listener
pub record IsHanding (now : Moment) (reply : Reply) : Type 0 where
  pub listener : ListenerId
  pub spot : Spot
  pub earliest : IsEarliest now.sights now.before listener spot
  pub is :
      let a : Added = earliest.ready.added in reply ≡ answer.Handed listener a.kind a.owner (row_of now.setting.depot now.before a.owner) a.name spot.event

-- a live listener that is in a turn and has an event waiting, and the tag of the hand that began the turn
pub record IsBusy (now : Moment) (b : Busy) : Type 0 where
  pub added : Added
  pub live : listener_at b.listener now.before ≡ Some added
  pub waits : (spot : Spot) × IsNext now.sights now.before b.listener spot
  pub turn : (cause : Cause) × (is_turn_of b.listener cause ≡ true) × Contains (brackets now.before) (bracket b.tag cause)

pub record IsNothing (now : Moment) (reply : Reply) : Type 0 where
  pub none : ¬ IsAnyReady now
  pub busy : List Busy
  pub is : reply ≡ answer.Nothing busy
  pub only : All (IsBusy now) busy
  pub every : (b : Busy) → IsBusy now b → Contains busy b
  pub rising : AllPairs (λ (a b : Busy). a.listener.0 < b.listener.0) busy

abbrev pub HandAnswers : Moment → Reply → Type 0
HandAnswers now reply = IsHanding now reply ⊎ IsNothing now reply

abbrev pub end_hand_refusals : Moment → ListenerId → List (Refusal → Type 0)
end_hand_refusals now listener = no_own_end now (EndHand listener) ∷ []

abbrev pub EndHandAnswers : Reply → Type 0
EndHandAnswers reply = reply ≡ answer.Done
