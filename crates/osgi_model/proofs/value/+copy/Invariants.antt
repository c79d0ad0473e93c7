-- The copies so far are the values so far.
use Rattle.std.proofs.Common.{◌≡◌, take}
use Rattle.osgi_model.proofs.value.+copy.Given as goal

abbrev pub invariant-copy_all-loop-value : goal.invariant-copy_all-loop-value
invariant-copy_all-loop-value l = l.copies ≡ take l.value-index l.values
