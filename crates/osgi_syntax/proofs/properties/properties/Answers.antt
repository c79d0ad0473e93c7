-- What is read of words is the properties that they spell, and only those.
use Rattle.osgi_base.specs.laws.Readings.{answer_only, answer_reads}
use Rattle.osgi_syntax.specs.Properties.{AreProperties}
use Rattle.osgi_syntax.specs.PropertyReader.{properties_of}
use Rattle.osgi_syntax.specs.Splitting.{texts_of}
use Rattle.osgi_syntax.specs.laws.Attributes.{properties_read, properties_sound}
use Rattle.osgi_syntax.proofs.properties.properties.Goals as goal

pub returns-clause-reads : goal.returns-clause-reads
returns-clause-reads c =
    let words = texts_of c.args.words.now in
    answer_reads (AreProperties words) (properties_of words) c.attributes.result c.attributes.ensures.properties (properties_sound words)

pub returns-clause-only : goal.returns-clause-only
returns-clause-only c = λ properties are.
    let words = texts_of c.args.words.now in
    answer_only (properties_of words) properties c.attributes.result c.attributes.ensures.properties (properties_read words properties are)
