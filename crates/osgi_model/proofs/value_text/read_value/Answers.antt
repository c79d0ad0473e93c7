-- What is read of a text is the value that it stands for, and only that.
use Rattle.osgi_model.specs.laws.ValueTexts.{result_only, result_reads}
use Rattle.osgi_model.proofs.value_text.read_value.Goals as goal

pub returns-clause-reads : goal.returns-clause-reads
returns-clause-reads c = result_reads c.args.kind c.args.text.now c.value.result c.value.ensures.value

pub returns-clause-only : goal.returns-clause-only
returns-clause-only c = result_only c.args.kind c.args.text.now c.value.result c.value.ensures.value
