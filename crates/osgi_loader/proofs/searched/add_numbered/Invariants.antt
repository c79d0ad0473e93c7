-- The revisions of the numbers so far were added.
use Rattle.std.proofs.Common.{◌≡◌, ◌++◌, map, take}
use Rattle.osgi_loader.specs.computed.Wires.{numbered}
use Rattle.osgi_loader.proofs.searched.add_numbered.Given as goal

abbrev pub invariant-loop-number : goal.invariant-loop-number
invariant-loop-number l = l.hosts.items ≡ l.initial.hosts.items ++ map numbered (take l.number-index l.numbers)
