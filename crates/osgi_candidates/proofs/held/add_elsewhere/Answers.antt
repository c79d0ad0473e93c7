-- A wire to another revision, that is for a package or not.
use Rattle.std.proofs.Common.{◌≢◌, rules}
use Rattle.osgi_candidates.specs.computed.Holding.{IsElsewhere}
use Rattle.osgi_candidates.proofs.Standing.{elsewhere_none, elsewhere_one, puts_none, puts_one}
use Rattle.osgi_candidates.proofs.held.add_elsewhere.Goals as goal

pub returns-in_ok-insert : goal.returns-in_ok-insert
returns-in_ok-insert c =
    let wire = c.args.wire.now in
    let other : wire.capability.provider ≢ c.args.revision = search rules in
    record {
      added =
          puts_one c.args.packages.now c.insert.new.self c.in_ok-copy.field-0 (IsElsewhere c.args.known.now c.args.revision wire)
          (elsewhere_one c.args.known.now c.args.revision wire c.in-Some.name.now c.in_ok-copy.field-0 c.in_ok-copy.ensures.same other c.in-Some.ensures.«package») c.in_ok-insert.ensures.updates;
    }

pub returns-in_default : goal.returns-in_default
returns-in_default c = record {
  added =
      puts_none c.args.packages.now (IsElsewhere c.args.known.now c.args.revision c.args.wire.now)
      (elsewhere_none c.args.known.now c.args.revision c.args.wire.now (rw c.in_default.is at c.exported_package.ensures.«package»));
}
