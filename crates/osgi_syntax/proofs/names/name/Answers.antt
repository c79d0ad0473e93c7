-- What is read of a word is the word itself, where it is such a name, and else nothing.
use Rattle.std.proofs.Common.{◌≡◌}
use Rattle.osgi_base.specs.laws.Readings.{answer_only, answer_reads}
use Rattle.osgi_syntax.specs.WordReader.{name_of}
use Rattle.osgi_syntax.specs.Words.{IsName}
use Rattle.osgi_syntax.specs.laws.Names.{name_read, name_sound}
use Rattle.osgi_syntax.proofs.names.name.Goals as goal

pub returns-clause-reads : goal.returns-clause-reads
returns-clause-reads c =
    let word = c.args.word.now in
    answer_reads (λ name. IsName name × (word ≡ name)) (name_of word) c.name_text.result c.name_text.ensures.name (name_sound word)

pub returns-clause-only : goal.returns-clause-only
returns-clause-only c = λ is. answer_only (name_of c.args.word.now) c.args.word.now c.name_text.result c.name_text.ensures.name (name_read c.args.word.now is)
