-- The ids so far are those of the numbers so far.
use Rattle.std.proofs.Common.{◌≡◌, map, take}
use Rattle.osgi_space_rows.specs.Agree.{id}
use Rattle.osgi_space.proofs.naming.as_ids.Given as goal

abbrev pub invariant-loop-number : goal.invariant-loop-number
invariant-loop-number l = l.ids ≡ map id (take l.number-index l.numbers)
