-- The requirements so far go on with those of the packages that are left.
use Rattle.std.proofs.Common.{◌≡◌, ◌++◌, drop}
use Rattle.osgi_package.specs.computed.ImportReader.{requirements_of}
use Rattle.osgi_package.proofs.importing.add_requirements.Given as goal

abbrev pub invariant-loop-path : goal.invariant-loop-path
invariant-loop-path l = l.requirements ++ requirements_of l.template (drop l.path-index l.paths) ≡ l.initial.requirements ++ requirements_of l.template l.paths
