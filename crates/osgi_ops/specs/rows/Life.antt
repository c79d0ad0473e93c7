-- What the operations that start and stop bundles answer, each with its refusals in order.
use Rattle.std.specs.Prelude.{◌≡◌, ◌≢◌, ◌⊎◌, Bool, true, false, if◌then◌else◌, List, [], ◌∷◌, Contains, Option, None, Some, option_and_then}
use Rattle.osgi_base.specs.Verdict.{Where}
use Rattle.osgi_base.specs.declared.ids.BundleId.{BundleId}
use Rattle.osgi_ops.specs.Bundles.{is_active, is_changing, row_of, Unresolved}
use Rattle.osgi_ops.specs.Conditions.{at_target, invalid_where, is_kept, is_level_too_high, is_system, IsDeep, IsTarget, no_own_end, no_such_bundle, no_target, refreshing_where, state_change, state_of}
use Rattle.osgi_ops.specs.Moments.{Moment}
use Rattle.osgi_ops.specs.Resolved.{current_revision, is_fragment_bundle}
use Rattle.osgi_ops.specs.declared.op.Op.TheVariants.{EndStart, EndStop}
use Rattle.osgi_ops.specs.declared.refusal.Refusal.{Refusal}
use Rattle.osgi_ops.specs.declared.refusal.Refusal.TheVariants.{ActivatorError, StartTransient, TooDeep}
use Rattle.osgi_ops.specs.declared.reply.Reply.{Reply}
use Rattle.osgi_ops.specs.declared.reply.Reply.TheVariants as answer
use Rattle.osgi_ops.specs.declared.target.Target.{Target}
use Rattle.osgi_world.specs.declared.revision.Policy.{Policy}
use Rattle.osgi_world.specs.declared.world.Known.{Known}
use Rattle.osgi_world.specs.declared.world.World.{World}

-- the bundle's level is too high for a transient start
abbrev pub start_transient : Moment → BundleId → Bool → Refusal → Type 0
start_transient now bundle transient = Where StartTransient ((is_kept now bundle ≡ true) × (transient ≡ true))

-- the answer to a start: the bundle is active already, its level is too high, or this
abbrev pub StartAnswers : Moment → BundleId → Reply → Reply → Type 0
StartAnswers now bundle goes reply =
    reply ≡ (if is_active (state_of now bundle) then answer.Active bundle else (if is_level_too_high now bundle then answer.Kept bundle else goes))

abbrev pub wish_start_refusals : Moment → Target → Bool → List (Refusal → Type 0)
wish_start_refusals now target transient =
    no_target now target
    ∷ at_target now target (λ b. invalid_where (is_fragment_bundle now.world b ≡ true))
    ∷ at_target now target (state_change is_changing now)
    ∷ at_target now target (λ b. start_transient now b transient)
    ∷ []

abbrev pub WishStartAnswers : Moment → Target → Reply → Type 0
WishStartAnswers now target reply = (bundle : BundleId) × IsTarget now target bundle × StartAnswers now bundle (answer.Go bundle) reply

abbrev pub begin_start_refusals : Moment → BundleId → Bool → List (Refusal → Type 0)
begin_start_refusals now bundle transient =
    no_such_bundle now bundle
    ∷ invalid_where ((is_fragment_bundle now.world bundle ≡ true) ⊎ (state_of now bundle ≡ Unresolved))
    ∷ refreshing_where now (λ r. (r.dropped ≡ false) × Contains r.members bundle)
    ∷ state_change is_changing now bundle
    ∷ start_transient now bundle transient
    ∷ Where TooDeep ((is_active (state_of now bundle) ≡ false) × (is_kept now bundle ≡ false) × IsDeep now)
    ∷ []

abbrev pub BeginStartAnswers : Moment → BundleId → Reply → Type 0
BeginStartAnswers now bundle reply = StartAnswers now bundle (answer.Begun bundle (row_of now.setting.depot now.before bundle)) reply

-- as for a start, but that the bundle does not begin to start
abbrev pub await_refusals : Moment → BundleId → List (Refusal → Type 0)
await_refusals now bundle =
    no_such_bundle now bundle
    ∷ invalid_where ((is_fragment_bundle now.world bundle ≡ true) ⊎ (state_of now bundle ≡ Unresolved))
    ∷ refreshing_where now (λ r. (r.dropped ≡ false) × Contains r.members bundle)
    ∷ state_change is_changing now bundle
    ∷ []

-- the policy of a bundle's current revision, if it has one
abbrev pub policy_of : World → BundleId → Option Policy
policy_of world bundle = option_and_then (λ (k : Known). k.revision.lazy) (current_revision world bundle)

-- a bundle with a policy waits, and any other is started at once
abbrev pub waits_or_not : BundleId → Option Policy → Reply
waits_or_not bundle None = answer.Eager bundle
waits_or_not bundle (Some policy) = answer.Waiting bundle

abbrev pub AwaitAnswers : Moment → BundleId → Reply → Type 0
AwaitAnswers now bundle reply = StartAnswers now bundle (waits_or_not bundle (policy_of now.world bundle)) reply

abbrev pub end_start_refusals : Moment → BundleId → Bool → List (Refusal → Type 0)
end_start_refusals now bundle failed = no_own_end now (EndStart bundle failed) ∷ Where ActivatorError (failed ≡ true) ∷ []

abbrev pub EndStartAnswers : Reply → Type 0
EndStartAnswers reply = reply ≡ answer.Done

abbrev pub begin_stop_refusals : Moment → Target → List (Refusal → Type 0)
begin_stop_refusals now target =
    no_target now target
    ∷ at_target now target is_system
    ∷ at_target now target (λ b. refreshing_where now (λ r. (r.dropped ≡ false) × Contains r.members b × (r.tag ≢ now.tag)))
    ∷ at_target now target (state_change is_changing now)
    ∷ at_target now target (λ b. Where TooDeep ((is_active (state_of now b) ≡ true) × IsDeep now))
    ∷ []

abbrev pub BeginStopAnswers : Moment → Target → Reply → Type 0
BeginStopAnswers now target reply =
    (bundle : BundleId) × IsTarget now target bundle
    × (reply ≡ (if is_active (state_of now bundle) then answer.Begun bundle (row_of now.setting.depot now.before bundle) else answer.Idle bundle))

abbrev pub end_stop_refusals : Moment → BundleId → Bool → List (Refusal → Type 0)
end_stop_refusals now bundle failed = no_own_end now (EndStop bundle failed) ∷ Where ActivatorError (failed ≡ true) ∷ []

abbrev pub EndStopAnswers : Reply → Type 0
EndStopAnswers reply = reply ≡ answer.Done
