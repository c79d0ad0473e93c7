-- What was read is a name up to `end`, and white space after it.
use Rattle.std.proofs.Common.{◌≡◌, ◌≤◌, [], take, drop}
use Rattle.osgi_filter.specs.computed.Reader.{name_at}
use Rattle.osgi_filter.proofs.scan.name_at.Given as goal

abbrev pub invariant-loop-at : goal.invariant-loop-at
invariant-loop-at l = record { within : l.end ≤ l.at; name : name_at (take l.end l.bytes) (drop l.end (take l.at l.bytes)) (drop l.at l.bytes) ≡ name_at [] [] l.bytes }
