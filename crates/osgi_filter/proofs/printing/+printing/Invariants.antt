-- What is written goes on with the texts of the filters that are left.
use Rattle.std.proofs.Common.{◌≡◌, ◌++◌, drop, map}
use Rattle.std.specs.List.{concat}
use Rattle.osgi_model.specs.FilterTexts.{filter_text}
use Rattle.osgi_filter.proofs.printing.+printing.Given as goal

abbrev pub invariant-print_all-loop-filter : goal.invariant-print_all-loop-filter
invariant-print_all-loop-filter l = l.out.items ++ concat (map filter_text (drop l.filter-index l.filters)) ≡ l.fn.out.items ++ concat (map filter_text l.filters)
