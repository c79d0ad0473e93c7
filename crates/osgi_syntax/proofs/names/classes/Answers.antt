-- What is read of a word is the class names that it is made of, and only those.
use Rattle.osgi_base.specs.laws.Readings.{answer_only, answer_reads}
use Rattle.osgi_syntax.specs.WordReader.{classes_of}
use Rattle.osgi_syntax.specs.Words.{AreClasses}
use Rattle.osgi_syntax.specs.laws.Names.{classes_read, classes_sound}
use Rattle.osgi_syntax.proofs.names.classes.Goals as goal

pub returns-clause-reads : goal.returns-clause-reads
returns-clause-reads c =
    let word = c.args.word.now in
    answer_reads (AreClasses word) (classes_of word) c.class_texts.result c.class_texts.ensures.classes (classes_sound word)

pub returns-clause-only : goal.returns-clause-only
returns-clause-only c = λ classes are. answer_only (classes_of c.args.word.now) classes c.class_texts.result c.class_texts.ensures.classes (classes_read c.args.word.now classes are)
