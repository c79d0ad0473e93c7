-- Who joined by the last decision is a member.
use Rattle.osgi_resolver_solve.proofs.Ruled.{doomed-none, doomed-of}
use Rattle.osgi_resolver_solve.proofs.rivals.take_out_by_last.Goals as goal

pub returns-in_default : goal.returns-in_default
returns-in_default c = record { taken = doomed-none c.args.path.now c.args.rows.now }

pub returns-in-Some-joined : goal.returns-in-Some-joined
returns-in-Some-joined c = record {
  taken = doomed-of c.args.path.now c.in-Some-joined.member c.args.rows.now c.take_out_rivals.new.rows c.take_out_rivals.result c.take_out_rivals.ensures.taken
      (λ P of. (((c.in-Some.ensures.last P of).joined c.in-Some-joined.member).0 c.in-Some-joined.is).0);
}

pub returns-in-None : goal.returns-in-None
returns-in-None c = record { taken = doomed-none c.args.path.now c.args.rows.now }
