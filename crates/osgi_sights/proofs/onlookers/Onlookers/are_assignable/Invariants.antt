-- Where the service is assignable for the classes that are left, it is for all.
use Rattle.std.proofs.Common.{drop}
use Rattle.std.specs.Prelude.{All}
use Rattle.osgi_ops.specs.Assignable.{IsAssignable}
use Rattle.osgi_sights.proofs.onlookers.Onlookers.are_assignable.Given as goal

abbrev pub invariant-loop-class : goal.invariant-loop-class
invariant-loop-class l =
    All (λ class. IsAssignable l.fn.self.wirings.now.world l.fn.service.owner l.fn.asker class) (drop l.class-index l.fn.service.classes)
    → All (λ class. IsAssignable l.fn.self.wirings.now.world l.fn.service.owner l.fn.asker class) l.fn.service.classes
