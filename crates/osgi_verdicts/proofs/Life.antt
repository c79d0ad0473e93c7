-- What starts and stops answer is determined, since a target names one bundle.
use Rattle.std.proofs.Common.{sym, ap, ◌∙◌}
use Rattle.std.specs.Prelude.{if◌then◌else◌}
use Rattle.osgi_base.specs.declared.ids.BundleId.{BundleId}
use Rattle.osgi_legal.proofs.Targets.{target-once}
use Rattle.osgi_legal.proofs.Verdicts.{IsOne}
use Rattle.osgi_ops.specs.Bundles.{is_active, row_of}
use Rattle.osgi_ops.specs.Conditions.{is_level_too_high, state_of}
use Rattle.osgi_ops.specs.Moments.{Moment}
use Rattle.osgi_ops.specs.declared.reply.Reply.TheVariants as answer
use Rattle.osgi_ops.specs.declared.target.Target.{Target}
use Rattle.osgi_ops.specs.rows.Life.{BeginStopAnswers, WishStartAnswers}

pub wish-one : (now : Moment) (target : Target) → IsOne (WishStartAnswers now target)
wish-one now target y z a b =
    a.2
    ∙ ap (λ (x : BundleId). if is_active (state_of now x) then answer.Active x else (if is_level_too_high now x then answer.Kept x else answer.Go x)) (target-once now target a.0 b.0 a.1 b.1)
    ∙ sym b.2

pub stop-one : (now : Moment) (target : Target) → IsOne (BeginStopAnswers now target)
stop-one now target y z a b =
    a.2
    ∙ ap (λ (x : BundleId). if is_active (state_of now x) then answer.Begun x (row_of now.setting.depot now.before x) else answer.Idle x) (target-once now target a.0 b.0 a.1 b.1)
    ∙ sym b.2
