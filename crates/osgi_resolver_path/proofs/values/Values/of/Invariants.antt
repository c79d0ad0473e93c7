-- The values of the marks so far.
use Rattle.std.proofs.Common.{◌≡◌, reverse, take}
use Rattle.osgi_world.specs.Decisions.{Decision, value_made}
use Rattle.osgi_resolver_path.specs.computed.Courses.{made_of}
use Rattle.osgi_resolver_path.specs.computed.Valued.{value_by}
use Rattle.osgi_resolver_path.proofs.values.Values.of.Given as goal

abbrev pub invariant-loop-mark : goal.invariant-loop-mark
invariant-loop-mark l = (d : Decision) → value_by l.by_key d ≡ value_made (made_of (reverse (take l.mark-index l.marks))) d
