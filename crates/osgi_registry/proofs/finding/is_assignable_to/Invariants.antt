-- Where the services of the classes that are left are assignable, those of all classes are.
use Rattle.std.proofs.Common.{drop}
use Rattle.std.specs.Prelude.{All}
use Rattle.osgi_ops.specs.Assignable.{IsAssignable}
use Rattle.osgi_registry.proofs.finding.is_assignable_to.Given as goal

abbrev pub invariant-loop-class : goal.invariant-loop-class
invariant-loop-class g l =
    All (λ c. IsAssignable (g.A.Assignability.world l.fn.assignability) l.fn.service.owner l.fn.asker c) (drop l.class-index l.fn.service.classes)
    → All (λ c. IsAssignable (g.A.Assignability.world l.fn.assignability) l.fn.service.owner l.fn.asker c) l.fn.service.classes
