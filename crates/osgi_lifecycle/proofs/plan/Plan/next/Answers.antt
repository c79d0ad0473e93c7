-- Each answer leads to its step.
use Rattle.std.proofs.Common.{◌≡◌, ◌∙◌, ap, sym}
use Rattle.osgi_session.specs.Plans.{Plan}
use Rattle.osgi_session.specs.Steps.{Step, first_step}
use Rattle.osgi_lifecycle.specs.Pendings.{last_of, pending_of}
use Rattle.osgi_lifecycle.proofs.Asking.{ran-on, ready-given, replied-on}
use Rattle.osgi_lifecycle.proofs.Awaiting.{awaited-step, told-next, told-pending}
use Rattle.osgi_lifecycle.proofs.plan.Plan.next.Goals as goal

pub returns-in-Begin-clause-next : goal.returns-in-Begin-clause-next
returns-in-Begin-clause-next c =
    told-next c.give_ready.result (sym (ready-given c.args.self.now c.args.last c.in-Begin.is c.requires.answers)) c.give_ready.ensures.next

pub returns-in-Begin-clause-pending : goal.returns-in-Begin-clause-pending
returns-in-Begin-clause-pending c =
    told-pending (pending_of c.give_ready.new.self) (sym (ready-given c.args.self.now c.args.last c.in-Begin.is c.requires.answers)) c.give_ready.ensures.pending

pub returns-in-Begin-clause-awaits : goal.returns-in-Begin-clause-awaits
returns-in-Begin-clause-awaits c =
    awaited-step c.give_ready.result (pending_of c.args.self.now) (pending_of c.give_ready.new.self) (last_of c.args.last)
    (sym (ready-given c.args.self.now c.args.last c.in-Begin.is c.requires.answers)) c.give_ready.ensures.next c.give_ready.ensures.pending

pub returns-in-Reply-clause-next : goal.returns-in-Reply-clause-next
returns-in-Reply-clause-next c =
    told-next c.after_reply.result (sym (replied-on c.args.self.now c.args.last c.in-Reply.reply c.in-Reply.is c.requires.answers)) c.after_reply.ensures.next

pub returns-in-Reply-clause-pending : goal.returns-in-Reply-clause-pending
returns-in-Reply-clause-pending c =
    told-pending (pending_of c.after_reply.new.self) (sym (replied-on c.args.self.now c.args.last c.in-Reply.reply c.in-Reply.is c.requires.answers)) c.after_reply.ensures.pending

pub returns-in-Reply-clause-awaits : goal.returns-in-Reply-clause-awaits
returns-in-Reply-clause-awaits c =
    awaited-step c.after_reply.result (pending_of c.args.self.now) (pending_of c.after_reply.new.self) (last_of c.args.last)
    (sym (replied-on c.args.self.now c.args.last c.in-Reply.reply c.in-Reply.is c.requires.answers)) c.after_reply.ensures.next c.after_reply.ensures.pending

-- the step after a section
ran : (left rest : Plan) {s : Step} → left ≡ rest → s ≡ first_step rest → first_step left ≡ s
ran left rest e q = ap first_step e ∙ sym q

pub returns-in-Ran-clause-next : goal.returns-in-Ran-clause-next
returns-in-Ran-clause-next c =
    told-next c.give.result (ran _ _ c.after_section-head.ensures.left (ran-on c.args.self.now c.args.last c.in-Ran.failed c.in-Ran.is c.requires.answers)) c.give.ensures.next

pub returns-in-Ran-clause-pending : goal.returns-in-Ran-clause-pending
returns-in-Ran-clause-pending c =
    told-pending (pending_of c.give.new.self) (ran _ _ c.after_section-head.ensures.left (ran-on c.args.self.now c.args.last c.in-Ran.failed c.in-Ran.is c.requires.answers)) c.give.ensures.pending

pub returns-in-Ran-clause-awaits : goal.returns-in-Ran-clause-awaits
returns-in-Ran-clause-awaits c =
    awaited-step c.give.result (pending_of c.args.self.now) (pending_of c.give.new.self) (last_of c.args.last)
    (ran _ _ c.after_section-head.ensures.left (ran-on c.args.self.now c.args.last c.in-Ran.failed c.in-Ran.is c.requires.answers)) c.give.ensures.next c.give.ensures.pending
