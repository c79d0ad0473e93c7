-- The numbers of the revisions so far were added.
use Rattle.std.proofs.Common.{take}
use Rattle.osgi_space_sources.specs.laws.Adding.{Each}
use Rattle.osgi_space_sources.specs.computed.Adds.{Adds}
use Rattle.osgi_resolver_hopeless.proofs.Numbers.{IsNumber}
use Rattle.osgi_resolver_hopeless.proofs.rivals.add_all.Given as goal

abbrev pub invariant-loop-revision : goal.invariant-loop-revision
invariant-loop-revision l = Adds (Each IsNumber (take l.revision-index l.revisions)) l.fn.found l.found
