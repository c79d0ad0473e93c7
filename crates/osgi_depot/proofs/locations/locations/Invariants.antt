-- What the lines so far name was seen.
use Rattle.std.proofs.Common.{take}
use Rattle.osgi_depot.specs.computed.Locations.{AreSeen}
use Rattle.osgi_depot.proofs.Named.{named_in}
use Rattle.osgi_depot.proofs.locations.locations.Given as goal

abbrev pub invariant-loop-line : goal.invariant-loop-line
invariant-loop-line l = AreSeen l.seen l.locations.items (named_in (take l.line-index l.lines))
