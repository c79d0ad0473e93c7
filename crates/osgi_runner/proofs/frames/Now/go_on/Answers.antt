-- Where no section begins the caller stays as it is.
use Rattle.osgi_runner.proofs.frames.Now.go_on.Goals as goal

pub returns-in-Run-clause-goes : goal.returns-in-Run-clause-goes
returns-in-Run-clause-goes g c = g.met.C.Caller.stays c.args.caller.now

pub returns-in-Back-clause-goes : goal.returns-in-Back-clause-goes
returns-in-Back-clause-goes g c = g.met.C.Caller.stays c.args.caller.now
