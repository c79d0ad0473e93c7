-- What is read of a word is the word itself, where it is such a name, and else nothing.
use Rattle.std.proofs.Common.{◌≡◌}
use Rattle.osgi_base.specs.laws.Readings.{answer_only, answer_reads}
use Rattle.osgi_syntax.specs.WordReader.{bundle_name_of}
use Rattle.osgi_syntax.specs.Words.{IsBundleName}
use Rattle.osgi_syntax.specs.laws.Names.{bundle_name_read, bundle_name_sound}
use Rattle.osgi_syntax.proofs.names.bundle_name.Goals as goal

pub returns-clause-reads : goal.returns-clause-reads
returns-clause-reads c =
    let word = c.args.word.now in
    answer_reads (λ name. IsBundleName name × (word ≡ name)) (bundle_name_of word) c.bundle_name_text.result c.bundle_name_text.ensures.name (bundle_name_sound word)

pub returns-clause-only : goal.returns-clause-only
returns-clause-only c = λ is. answer_only (bundle_name_of c.args.word.now) c.args.word.now c.bundle_name_text.result c.bundle_name_text.ensures.name (bundle_name_read c.args.word.now is)
