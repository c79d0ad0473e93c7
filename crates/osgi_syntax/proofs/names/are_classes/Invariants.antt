-- The names so far are class names.
use Rattle.std.proofs.Common.{◌≡◌, drop}
use Rattle.std.specs.List.{list_all}
use Rattle.osgi_syntax.specs.WordReader.{is_class}
use Rattle.osgi_syntax.specs.Splitting.{texts_of}
use Rattle.osgi_syntax.proofs.names.are_classes.Given as goal

abbrev pub invariant-loop-name : goal.invariant-loop-name
invariant-loop-name l = list_all is_class (texts_of (drop l.name-index l.names)) ≡ list_all is_class (texts_of l.names)
