-- Those so far have equal ones.
use Rattle.std.proofs.Common.{◌≡◌, drop}
use Rattle.osgi_capability.specs.computed.Satisfied.{all_equal}
use Rattle.osgi_capability.proofs.imports.have_all_equal.Given as goal

abbrev pub invariant-loop-one : goal.invariant-loop-one
invariant-loop-one l = all_equal l.attributes (drop l.one-index l.asked) ≡ all_equal l.attributes l.asked
