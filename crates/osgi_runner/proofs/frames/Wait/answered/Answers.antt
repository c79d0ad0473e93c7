-- What is left after a reply was left of the operation.
use Rattle.std.proofs.Common.{subst, sym, ◌∷◌, reverse}
use Rattle.osgi_lifecycle.specs.Pendings.{pending_of}
use Rattle.osgi_ops.specs.declared.op.Op.{Op}
use Rattle.osgi_runner.proofs.Following.{comes-replied}
use Rattle.osgi_runner.specs.computed.Stacks.{IsAsked}
use Rattle.osgi_runner.specs.computed.States.{frames_of, Waited}
use Rattle.osgi_runner.specs.declared.frames.Wait.{Wait}
use Rattle.osgi_runner.specs.declared.frames.Wait.TheVariants as wait
use Rattle.osgi_runs.proofs.Courses.{back-to-hand, back-to-job}
use Rattle.osgi_session.specs.Plans.{done}
use Rattle.osgi_session.specs.Runs.{call}
use Rattle.osgi_runner.proofs.frames.Wait.answered.Goals as goal

pub returns-in-Plan-clause-on : goal.returns-in-Plan-clause-on
returns-in-Plan-clause-on c = λ script asks calls is h s.
    let asked = subst (λ (w : Wait). IsAsked asks w (reverse c.args.stack.now.items)) c.in-Plan.is is in
    subst (λ (w : Wait). Waited script asks w (frames_of c.args.stack.now.items) (call asks c.args.reply ∷ calls)) (sym c.in-Plan.is)
    (comes-replied (pending_of c.in-Plan.plan) asks c.args.reply asked.0 (c.follow.ensures.on script calls h))

pub returns-in-Hand-clause-on : goal.returns-in-Hand-clause-on
returns-in-Hand-clause-on c = λ script asks calls is h s.
    let asked = subst (λ (w : Wait). IsAsked asks w (reverse c.args.stack.now.items)) c.in-Hand.is is in
    subst (λ (w : Wait). Waited script asks w (frames_of c.args.stack.now.items) (call asks c.args.reply ∷ calls)) (sym c.in-Hand.is)
    (subst (λ (o : Op). Waited script o (wait.Hand c.in-Hand.field-0) (frames_of c.args.stack.now.items) (call o c.args.reply ∷ calls)) (sym asked)
    (back-to-hand done c.in-Hand.field-0 c.args.reply h))

pub returns-in-Job-clause-on : goal.returns-in-Job-clause-on
returns-in-Job-clause-on c = λ script asks calls is h s.
    let asked = subst (λ (w : Wait). IsAsked asks w (reverse c.args.stack.now.items)) c.in-Job.is is in
    subst (λ (w : Wait). Waited script asks w (frames_of c.args.stack.now.items) (call asks c.args.reply ∷ calls)) (sym c.in-Job.is)
    (subst (λ (o : Op). Waited script o wait.Job (frames_of c.args.stack.now.items) (call o c.args.reply ∷ calls)) (sym asked)
    (back-to-job done c.args.reply h))
