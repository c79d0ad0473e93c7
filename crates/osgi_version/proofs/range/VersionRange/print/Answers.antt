-- What is printed of a range that was read reads as it.
use Rattle.osgi_version.specs.RangeValues.{range_parts}
use Rattle.osgi_version.proofs.PrintReads.{print_range_reads}
use Rattle.osgi_version.proofs.range.VersionRange.print.Goals as goal

pub returns-clause-reads_back : goal.returns-clause-reads_back
returns-clause-reads_back c = λ bytes h. rw c.in_ok-out.ensures.text (print_range_reads bytes (range_parts c.args.self.now) h)
