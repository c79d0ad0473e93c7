-- The pass is one of the hall, and what it has seen is within the limit.
use Rattle.osgi_runner.proofs.Called.{legal_of, seen_within}
use Rattle.osgi_runner.proofs.runner.Runner.command.Goals as goal

pub invariant_of-seated : goal.invariant_of-seated
invariant_of-seated g c =
    let z = c.args.self.now.hall.now.setting in
    record {
      of_hall = c.requires.hall;
      within = seen_within (g.M.Framework.runs_under z) c.args.pass.now.seen (legal_of g.M.Machine.can_make g.M.Framework.runs_under g.met.M.Framework.made_is z c.args.pass.now c.caller.ensures.legal c.requires.hall.1);
    }
