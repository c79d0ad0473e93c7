-- What is written goes on with the text of the bytes that are left.
use Rattle.std.proofs.Common.{◌≡◌, ◌++◌, drop}
use Rattle.osgi_model.specs.FilterTexts.{value_text}
use Rattle.osgi_filter.proofs.printing.print_value.Given as goal

abbrev pub invariant-loop-b : goal.invariant-loop-b
invariant-loop-b l = l.out.items ++ value_text (drop l.b-index l.value) ≡ l.fn.out.items ++ value_text l.value
