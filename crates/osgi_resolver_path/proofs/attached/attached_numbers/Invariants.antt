-- The numbers of the rows so far.
use Rattle.std.proofs.Common.{take}
use Rattle.osgi_resolver_path.proofs.Fragments.{AreOf}
use Rattle.osgi_resolver_path.proofs.attached.attached_numbers.Given as goal

abbrev pub invariant-loop-row : goal.invariant-loop-row
invariant-loop-row l = AreOf l.numbers.items (take l.row-index l.attached)
