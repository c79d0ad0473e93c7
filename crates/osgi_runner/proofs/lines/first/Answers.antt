-- What is left of a command that was not begun is a run of it.
use Rattle.osgi_runner.proofs.Following.{first-follows}
use Rattle.osgi_runner.proofs.lines.first.Goals as goal

pub returns-clause-follows : goal.returns-clause-follows
returns-clause-follows c = λ script calls h.
    first-follows script c.args.stack.now.items c.reserve.new.self.items c.push_reserved.new.self.items calls c.in_ok-plan.plan c.in_ok-command.command c.args.command.now
    c.requires.empty c.reserve.ensures.items c.push_reserved.ensures.items c.in_ok-command.ensures.same c.in_ok-plan.ensures.fresh (c.follow.ensures.on script calls h)
