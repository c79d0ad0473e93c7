-- The names so far are the classes so far.
use Rattle.std.proofs.Common.{◌≡◌, take, map}
use Rattle.osgi_model.specs.declared.value.Value.TheVariants.{Text}
use Rattle.osgi_registry_index.proofs.properties.class_names.Given as goal

abbrev pub invariant-loop-class : goal.invariant-loop-class
invariant-loop-class l = l.names ≡ map Text (take l.class-index l.classes)
