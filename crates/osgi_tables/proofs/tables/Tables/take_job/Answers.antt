-- A bracket is open, and the oldest job is no longer queued.
use Rattle.std.proofs.Common.{List, ap}
use Rattle.osgi_ops.specs.Jobs.{Queued}
use Rattle.osgi_tables.proofs.Replying.{on_err, stays_open}
use Rattle.osgi_tables.proofs.tables.Tables.take_job.Goals as goal

pub returns-in_err-push-clause-unchanged : goal.returns-in_err-push-clause-unchanged
returns-in_err-push-clause-unchanged c = on_err c.from_residual.result (stays_open c.args.self.now c.push.new.self c.in_err-push.ensures.unchanged)

pub returns-clause-taken : goal.returns-clause-taken
returns-clause-taken c = record {
  brackets = c.push.new.self;
  opened = c.in_ok-push.ensures.opened;
  is = ap (λ (jobs : List Queued). record c.args.self.now { brackets = c.push.new.self; jobs = jobs }) c.take.ensures.taken;
}
