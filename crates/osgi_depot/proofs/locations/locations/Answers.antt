-- A line that names a location adds it, and another adds nothing.
use Rattle.std.proofs.Common.{ap, take}
use Rattle.std.specs.Prelude.{None, Some}
use Rattle.osgi_depot.proofs.Named.{line_seen, named_in, unnamed_seen}
use Rattle.osgi_depot.proofs.locations.locations.Goals as goal
use Rattle.osgi_depot.proofs.locations.locations.Goals.{in-Some+in_ok-add, in_default}

pub loop-line-preserved : goal.loop-line-preserved
loop-line-preserved c = elim c.match-location_in.branch [
  | in-Some+in_ok-add w ↦
      line_seen w.add.new.seen c.match-location_in.seen w.add.new.locations.items c.match-location_in.locations.items c.args.lines.now c.loop-line.line-index c.line-item.result
      (Some w.in-Some.location.now) c.loop-line-test.true c.line-item.is w.in-Some.ensures.location w.seen-is (ap (λ v. v.items) w.locations-is)
      (w.in_ok-add.ensures.seen (named_in (take c.loop-line.line-index c.args.lines.now)) c.loop-line.invariant)
  | in_default w ↦
      line_seen c.loop-line.seen c.match-location_in.seen c.loop-line.locations.items c.match-location_in.locations.items c.args.lines.now c.loop-line.line-index c.line-item.result None
      c.loop-line-test.true c.line-item.is w.in_default.ensures.location w.seen-is (ap (λ v. v.items) w.locations-is)
      (unnamed_seen c.loop-line.seen c.loop-line.locations.items (named_in (take c.loop-line.line-index c.args.lines.now)) c.loop-line.invariant)
]
