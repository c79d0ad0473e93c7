-- The place is added under the classes so far.
use Rattle.std.proofs.Common.{take}
use Rattle.std.specs.Prelude.{true}
use Rattle.osgi_registry_index.specs.Places.{Puts}
use Rattle.osgi_registry_index.proofs.class_index.ClassIndex.add_all.Given as goal

abbrev pub invariant-loop-class : goal.invariant-loop-class
invariant-loop-class l = Puts l.initial.self.classes l.self.classes (take l.class-index l.classes) l.place true
