-- The lines that were read are the reading of the input, and the only one.
use Rattle.osgi_console.proofs.Contents.{result_only, result_read}
use Rattle.osgi_console.proofs.input_lines.parse.Goals as goal

pub returns-clause-reads : goal.returns-clause-reads
returns-clause-reads c = result_read c.args.lanes c.args.bytes.now c.read_lines.result c.read_lines.ensures.lines

pub returns-clause-only : goal.returns-clause-only
returns-clause-only c = result_only c.args.lanes c.args.bytes.now c.read_lines.result c.read_lines.ensures.lines
