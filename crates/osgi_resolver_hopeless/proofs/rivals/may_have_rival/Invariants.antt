-- None of those so far is a rival.
use Rattle.std.proofs.Common.{take}
use Rattle.osgi_base.specs.declared.ids.RevisionId.{RevisionId}
use Rattle.osgi_world.specs.Consistency.{AreRivals}
use Rattle.osgi_world.specs.Lists.{In}
use Rattle.osgi_resolver_hopeless.proofs.rivals.may_have_rival.Given as goal

abbrev pub invariant-loop-other : goal.invariant-loop-other
invariant-loop-other l = (t : RevisionId) → In t (take l.other-index l.named) → ¬ AreRivals l.path.world.known l.revision t
