-- What is read of a word is the word itself, where it is such a name, and else nothing.
use Rattle.std.proofs.Common.{◌≡◌}
use Rattle.osgi_base.specs.laws.Readings.{answer_only, answer_reads}
use Rattle.osgi_syntax.specs.WordReader.{class_of}
use Rattle.osgi_syntax.specs.Words.{IsClass}
use Rattle.osgi_syntax.specs.laws.Names.{class_read, class_sound}
use Rattle.osgi_syntax.proofs.names.class.Goals as goal

pub returns-clause-reads : goal.returns-clause-reads
returns-clause-reads c =
    let word = c.args.word.now in
    answer_reads (λ name. IsClass name × (word ≡ name)) (class_of word) c.class_text.result c.class_text.ensures.class (class_sound word)

pub returns-clause-only : goal.returns-clause-only
returns-clause-only c = λ is. answer_only (class_of c.args.word.now) c.args.word.now c.class_text.result c.class_text.ensures.class (class_read c.args.word.now is)
