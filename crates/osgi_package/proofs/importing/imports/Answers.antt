-- What was read is the one answer.
use Rattle.std.specs.Prelude.{Ok, Err}
use Rattle.osgi_package.specs.Imports.{SaysImports}
use Rattle.osgi_package.proofs.Answering.{answer_only, answer_reads}
use Rattle.osgi_package.proofs.importing.imports.Goals as goal

pub returns-clause-reads : goal.returns-clause-reads
returns-clause-reads c = answer_reads SaysImports c.items.result.now c.args.clauses.now c.items.ensures.items c.read.result c.read.ensures.answer

pub returns-clause-only : goal.returns-clause-only
returns-clause-only c others are = answer_only SaysImports c.items.result.now c.args.clauses.now c.items.ensures.items c.read.result (Ok others) c.read.ensures.answer are

pub returns-clause-fault : goal.returns-clause-fault
returns-clause-fault c other is = answer_only SaysImports c.items.result.now c.args.clauses.now c.items.ensures.items c.read.result (Err other) c.read.ensures.answer is
