-- A bracket is open, and the bundle is in its phase.
use Rattle.std.proofs.Common.{refl}
use Rattle.osgi_tables.proofs.Replying.{on_err, stays_open}
use Rattle.osgi_tables.proofs.tables.Tables.begin_start.Goals as goal

pub returns-in_err-push-clause-unchanged : goal.returns-in_err-push-clause-unchanged
returns-in_err-push-clause-unchanged c = on_err c.from_residual.result (stays_open c.args.self.now c.push.new.self c.in_err-push.ensures.unchanged)

pub returns-clause-begun : goal.returns-clause-begun
returns-clause-begun c = record {
  bundles = c.set_starting.new.self;
  brackets = c.push.new.self;
  put = c.set_starting.ensures.stands;
  opened = c.in_ok-push.ensures.opened;
  is = refl;
}
