-- What is awaited after a step.
use Rattle.std.proofs.Common.{◌∙◌, ap, sym}
use Rattle.osgi_session.specs.Steps.{first_step}
use Rattle.osgi_lifecycle.specs.Following.{left_of}
use Rattle.osgi_lifecycle.specs.Pendings.{pending_of}
use Rattle.osgi_lifecycle.specs.declared.head.Head.{Head}
use Rattle.osgi_lifecycle.proofs.Asking.{asked}
use Rattle.osgi_lifecycle.proofs.plan.Plan.give.Goals as goal
use Rattle.osgi_lifecycle.proofs.plan.Plan.give.Goals.{in-Ask, in-Run, in-Stop}

pub returns-clause-pending : goal.returns-clause-pending
unfolding pending_of
returns-clause-pending c =
    elim c.match-head.branch [
      | in-Ask w ↦ ap (λ p. pending_of p) w.self-is ∙ (asked c.args.self.now w.in-Ask.op w.of-self.result w.of-self.ensures.stirs ∙ ap (λ (h : Head). (first_step (left_of h c.args.self.now.rest)).pending) (sym w.in-Ask.is))
      | in-Run w ↦ ap (λ p. pending_of p) w.self-is ∙ ap (λ (h : Head). (first_step (left_of h c.args.self.now.rest)).pending) (sym w.in-Run.is)
      | in-Stop w ↦ ap (λ p. pending_of p) w.self-is ∙ ap (λ (h : Head). (first_step (left_of h c.args.self.now.rest)).pending) (sym w.in-Stop.is)
    ]
