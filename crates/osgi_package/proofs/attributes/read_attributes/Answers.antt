-- What was read are the values of all attributes, and nothing else is.
use Rattle.osgi_package.specs.computed.AttributeReader.{values_of}
use Rattle.osgi_package.specs.Parameters.{IsAttribute}
use Rattle.std.specs.List.{AllZip}
use Rattle.osgi_base.specs.laws.Readings.{answer_only, answer_reads}
use Rattle.osgi_package.proofs.Reading.{values_read, values_sound}
use Rattle.osgi_package.proofs.attributes.read_attributes.Goals as goal

pub returns-clause-reads : goal.returns-clause-reads
returns-clause-reads c =
    answer_reads (AllZip IsAttribute c.args.attributes.now) (values_of c.args.attributes.now) c.values.result c.values.ensures.values (values_sound c.args.attributes.now)

pub returns-clause-only : goal.returns-clause-only
returns-clause-only c others are =
    answer_only (values_of c.args.attributes.now) others c.values.result c.values.ensures.values (values_read c.args.attributes.now others are)
