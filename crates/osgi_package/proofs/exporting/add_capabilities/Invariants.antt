-- The capabilities so far go on with those of the packages that are left.
use Rattle.std.proofs.Common.{◌≡◌, ◌++◌, drop}
use Rattle.osgi_package.specs.computed.ExportReader.{capabilities_of}
use Rattle.osgi_package.proofs.exporting.add_capabilities.Given as goal

abbrev pub invariant-loop-path : goal.invariant-loop-path
invariant-loop-path l = l.capabilities ++ capabilities_of l.template (drop l.path-index l.paths) ≡ l.initial.capabilities ++ capabilities_of l.template l.paths
