-- The answer on the rows is the one on the wirings.
use Rattle.std.specs.Prelude.{None}
use Rattle.osgi_uses.proofs.Clashing.{first-among, sources-of}
use Rattle.osgi_uses.proofs.spaces.Spaces.clash.Goals as goal

pub returns-in_default : goal.returns-in_default
returns-in_default c = record {
  first = first-among c.args.self.now c.rows-rows.result.now c.rows-rows.ensures.known c.rows-rows.ensures.rows c.args.settled.now _ None c.in_default.is c.in_ok-first.ensures.first;
}

pub returns : goal.returns
returns c =
    let state = c.args.self.now in
    let rows = c.rows-rows.result.now in
    let known = c.rows-rows.ensures.known in
    let are = c.rows-rows.ensures.rows in
    let first = c.in-Some.first in
    record {
      first = record {
        seen_by = first.seen_by;
        first = first-among state rows known are c.args.settled.now _ _ c.in-Some.is c.in_ok-first.ensures.first;
        ours = sources-of state rows known are first.revision first.package _ c.in_ok-ours.ensures.rising c.in_ok-ours.ensures.sources;
        theirs = sources-of state rows known are first.seen_by first.package _ c.in_ok-theirs.ensures.rising c.in_ok-theirs.ensures.sources;
      };
    }
