-- What was read is what the manifest says, or its fault, and the only such.
use Rattle.osgi_header.proofs.HeaderReading.{answer_only, answer_only_fault, answer_reads}
use Rattle.osgi_header.specs.computed.HeaderReader.{lines_seen}
use Rattle.osgi_header.proofs.unfolding.unfold.Goals as goal

pub returns-clause-reads : goal.returns-clause-reads
returns-clause-reads c =
    answer_reads c.args.bytes.now (lines_seen c.in_ok-lines.lines.items) c.read_counting.result c.in_ok-lines.ensures.lines
    (rw c.as_slice.ensures.value at c.read_counting.ensures.headers)

pub returns-clause-only : goal.returns-clause-only
returns-clause-only c =
    answer_only c.args.bytes.now (lines_seen c.in_ok-lines.lines.items) c.read_counting.result c.in_ok-lines.ensures.lines
    (rw c.as_slice.ensures.value at c.read_counting.ensures.headers)

pub returns-clause-fault : goal.returns-clause-fault
returns-clause-fault c =
    answer_only_fault c.args.bytes.now (lines_seen c.in_ok-lines.lines.items) c.read_counting.result c.in_ok-lines.ensures.lines
    (rw c.as_slice.ensures.value at c.read_counting.ensures.headers)
