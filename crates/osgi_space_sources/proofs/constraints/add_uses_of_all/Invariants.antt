-- What the exports by the sources so far use was added, of those from which constraints may come.
use Rattle.std.proofs.Common.{take}
use Rattle.osgi_space_sources.specs.computed.Adds.{Adds}
use Rattle.osgi_space_sources.specs.computed.Amongst.{IsAmong}
use Rattle.osgi_space_sources.specs.computed.Pairs.{IsUseAmong}
use Rattle.osgi_space_sources.specs.laws.Adding.{Each}
use Rattle.osgi_space_sources.proofs.constraints.add_uses_of_all.Given as goal

abbrev pub invariant-loop-given : goal.invariant-loop-given
invariant-loop-given l = Adds (Each (IsUseAmong l.rows (IsAmong l.among)) (take l.given-index l.givens)) l.fn.found l.found
