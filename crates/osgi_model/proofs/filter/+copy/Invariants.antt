-- The copies so far are the filters so far.
use Rattle.std.proofs.Common.{◌≡◌, take}
use Rattle.osgi_model.proofs.filter.+copy.Given as goal

abbrev pub invariant-copy_all-loop-filter : goal.invariant-copy_all-loop-filter
invariant-copy_all-loop-filter l = l.copies ≡ take l.filter-index l.filters
