-- The copies so far are the trees so far.
use Rattle.std.proofs.Common.{◌≡◌, take}
use Rattle.cases_copies.proofs.tree.+copy.Given as goal

abbrev pub invariant-copy_all-loop-one : goal.invariant-copy_all-loop-one
invariant-copy_all-loop-one l = l.copies ≡ take l.one-index l.trees
