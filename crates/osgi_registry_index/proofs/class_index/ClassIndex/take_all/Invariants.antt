-- The place does not stand under the classes so far.
use Rattle.std.proofs.Common.{take}
use Rattle.std.specs.Prelude.{false}
use Rattle.osgi_registry_index.specs.Places.{Puts}
use Rattle.osgi_registry_index.proofs.class_index.ClassIndex.take_all.Given as goal

abbrev pub invariant-loop-class : goal.invariant-loop-class
invariant-loop-class l = Puts l.initial.self.classes l.self.classes (take l.class-index l.classes) l.place false
