-- The bundle is in its phase and cleaned if it is to be, and the bracket is closed.
use Rattle.osgi_bundle.proofs.Begins.{in_state}
use Rattle.osgi_ops.specs.declared.state.TheConstants.{STOPPING}
use Rattle.osgi_tables.proofs.Replying.{on_err, still_uncleaned}
use Rattle.osgi_tables.proofs.tables.Tables.end_stop.Goals as goal

pub returns-in_err-clean-clause-unchanged : goal.returns-in_err-clean-clause-unchanged
returns-in_err-clean-clause-unchanged c = on_err c.from_residual.result (still_uncleaned c.args.self.now c.clean.new.registry c.clean.new.listeners c.clean.new.jobs c.in_err-clean.ensures.unchanged)

pub set_stopped-requires : goal.set_stopped-requires
set_stopped-requires c = record { stopping = in_state c.args.bundle c.args.self.now.bundles.rows STOPPING c.args.tag c.requires.possible }

pub returns-clause-ended : goal.returns-clause-ended
returns-clause-ended c = record {
  registry = c.clean.new.registry;
  bundles = c.set_stopped.new.self;
  brackets = c.pop.new.self;
  cleans = c.in_ok-clean.ensures.cleans;
  put = c.set_stopped.ensures.stands c.args.tag;
  closed = c.pop.ensures.closed;
  is = λ i. record c.args.self.now { registry = c.clean.new.registry; bundles = c.set_stopped.new.self; brackets = c.pop.new.self; listeners = c.in_ok-clean.ensures.listeners i; jobs = c.in_ok-clean.ensures.jobs i };
}
