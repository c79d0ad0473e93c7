-- What the exports by the providers so far use was added, of those from which constraints may come.
use Rattle.std.proofs.Common.{take}
use Rattle.osgi_space_sources.specs.computed.Adds.{Adds}
use Rattle.osgi_space_sources.specs.computed.Amongst.{IsAmong}
use Rattle.osgi_space_sources.specs.computed.Pairs.{IsUseOfWired}
use Rattle.osgi_space_sources.proofs.constraints.add_uses_of_imports.Given as goal

abbrev pub invariant-loop-row : goal.invariant-loop-row
invariant-loop-row l = Adds (IsUseOfWired l.rows (IsAmong l.among) (take l.row-index l.imports)) l.fn.found l.found
