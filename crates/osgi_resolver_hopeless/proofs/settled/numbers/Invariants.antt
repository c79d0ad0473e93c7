-- The numbers of the revisions so far.
use Rattle.std.proofs.Common.{take}
use Rattle.osgi_resolver_hopeless.proofs.Gathering.{Numbers}
use Rattle.osgi_resolver_hopeless.proofs.settled.numbers.Given as goal

abbrev pub invariant-loop-revision : goal.invariant-loop-revision
invariant-loop-revision l = Numbers l.numbers.items (take l.revision-index l.revisions)
