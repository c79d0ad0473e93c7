-- The text that is printed reads as the filter.
use Rattle.osgi_filter.proofs.Prints.{printed}
use Rattle.osgi_filter.proofs.printing.print.Goals as goal

pub returns-clause-reads_back : goal.returns-clause-reads_back
returns-clause-reads_back c = λ text r. rw (c.in_ok-text.ensures.bytes, c.in_ok-print_filter.ensures.text, c.new-out.ensures.items) (printed text c.args.filter.now r)
