-- None of those so far is another one.
use Rattle.std.proofs.Common.{take}
use Rattle.osgi_base.specs.declared.ids.RevisionId.{RevisionId}
use Rattle.osgi_resolver_hopeless.specs.computed.Rivals.{IsOther}
use Rattle.osgi_world.specs.Lists.{In}
use Rattle.osgi_resolver_hopeless.proofs.rivals.has_rival.Given as goal

abbrev pub invariant-loop-other : goal.invariant-loop-other
invariant-loop-other l = (t : RevisionId) → In t (take l.other-index l.named) → ¬ IsOther l.path l.new l.revision t
