-- The names so far are given.
use Rattle.std.proofs.Common.{◌≡◌, drop}
use Rattle.osgi_capability.specs.computed.Satisfied.{all_given}
use Rattle.osgi_capability.proofs.imports.gives_all.Given as goal

abbrev pub invariant-loop-name : goal.invariant-loop-name
invariant-loop-name l = all_given l.import (drop l.name-index l.names) ≡ all_given l.import l.names
