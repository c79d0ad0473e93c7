-- Each number has the value that it had; each turn makes one place.
use Rattle.std.proofs.Common.{◌-◌, ◌+◌, vec_len}
use Rattle.osgi_base.specs.NumberMaps.{HoldsSame}
use Rattle.osgi_base.proofs.number_map.NumberMap.reach.Given as goal

abbrev pub decreases-loop-self : goal.decreases-loop-self
decreases-loop-self g l = l.number + 1 - vec_len l.self.low

abbrev pub invariant-loop-self : goal.invariant-loop-self
invariant-loop-self g l = HoldsSame l.fn.self l.self
