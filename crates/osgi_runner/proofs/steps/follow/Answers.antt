-- A plan that ended leaves what its end leaves.
use Rattle.osgi_lifecycle.specs.Pendings.{last_of, pending_of}
use Rattle.osgi_runner.proofs.Following.{comes-end}
use Rattle.osgi_runner.specs.computed.States.{frames_of}
use Rattle.osgi_session.specs.Steps.{resume}
use Rattle.osgi_runner.proofs.steps.follow.Goals as goal

pub returns-clause-on : goal.returns-clause-on
returns-clause-on c = λ script calls l.
    comes-end script (frames_of c.args.stack.now.items) calls (resume (pending_of c.args.plan) (last_of c.args.last)).next (resume (pending_of c.args.plan) (last_of c.args.last)).pending
    c.in-End.refused c.in-End.failed c.in-End.bound c.ended.result c.ended.ensures.ends c.in-End.ensures.next l
