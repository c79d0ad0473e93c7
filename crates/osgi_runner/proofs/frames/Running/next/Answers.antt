-- The next statement runs, or the section ended.
use Rattle.std.proofs.Common.{List, subst, sym}
use Rattle.osgi_runner.proofs.Following.{next-statement, none-left}
use Rattle.osgi_runner.specs.computed.States.{bindings_of, frames_of}
use Rattle.osgi_runs.proofs.Courses.{section-ended}
use Rattle.osgi_runs.specs.Courses.{Ahead}
use Rattle.osgi_session.specs.Runs.{statements}
use Rattle.osgi_session.specs.declared.statement.Statement.{Statement}
use Rattle.osgi_runner.proofs.frames.Running.next.Goals as goal

pub returns-in_default-clause-on : goal.returns-in_default-clause-on
returns-in_default-clause-on c = λ script calls l.
    subst (λ (body : List Statement). Ahead script (statements c.args.self.owner (bindings_of c.args.self.bindings.items) body) (frames_of c.args.stack.now.items) calls)
    (sym (none-left c.args.self.left.now c.in_default.ensures.cases)) (section-ended c.args.self.owner (bindings_of c.args.self.bindings.items) l)

pub returns-clause-on : goal.returns-clause-on
returns-clause-on c = λ script calls h.
    next-statement script c.args.stack.now.items c.reserve.new.self.items c.push_reserved.new.self.items calls c.args.self c.in-Some.statement c.in-Some.left c.in_ok-plan.plan c.in_ok-command.command c.as_slice.result.now
    c.reserve.ensures.items c.push_reserved.ensures.items c.in-Some.ensures.cases.0 c.as_slice.ensures.value c.in_ok-command.ensures.command c.in_ok-plan.ensures.fresh (c.follow.ensures.on script calls h)
