-- What the operations on start levels answer, and why a walk or a move is refused, is determined.
use Rattle.std.proofs.Common.{◌≡◌, ℕ, sym, ap, ◌∙◌}
use Rattle.std.specs.Prelude.{Option, None, Some, IsSomeAnd}
use Rattle.osgi_legal.proofs.Verdicts.{EachIsOne, IsOne, where-one}
use Rattle.osgi_ops.specs.Bundles.{is_up}
use Rattle.osgi_ops.specs.Levels.{Walk, walk}
use Rattle.osgi_ops.specs.Moments.{Moment}
use Rattle.osgi_ops.specs.declared.refusal.Refusal.{Refusal}
use Rattle.osgi_ops.specs.declared.refusal.Refusal.TheVariants.{StateChange}
use Rattle.osgi_ops.specs.declared.reply.Reply.TheVariants as answer
use Rattle.osgi_ops.specs.rows.Levels.{begin_level_refusals, ListLevelAnswers, MoveLevelAnswers, move_level_refusals}
use Rattle.osgi_verdicts.proofs.Chosen.{falling-one, lowest-one, rising-one}

walking-one : (begun : Option Walk) → IsOne (λ (f : Refusal). IsSomeAnd begun (λ w. f ≡ StateChange w.tag))
walking-one None f g a b = absurd a
walking-one (Some w) f g a b = a ∙ sym b

pub begin-each : (now : Moment) (target : ℕ) → EachIsOne (begin_level_refusals now target)
begin-each now target = (where-one _ _, (walking-one (walk now.before), tt))

pub list-one : (now : Moment) (level : ℕ) → IsOne (ListLevelAnswers now level)
list-one now level y z a b = a.1 ∙ ap answer.Ids (falling-one _ a.0 b.0 a.2 b.2) ∙ sym b.1

pub move-each : (now : Moment) (to : ℕ) → EachIsOne (move_level_refusals now to)
move-each now to = (where-one _ _, ((λ f g a b. lowest-one is_up now _ f g a.1 b.1), tt))

pub move-one : (now : Moment) (to : ℕ) → IsOne (MoveLevelAnswers now to)
move-one now to y z a b = a.1 ∙ ap answer.Moved (rising-one _ a.0 b.0 a.2 b.2) ∙ sym b.1
