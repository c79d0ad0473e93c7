-- What is read of a word is the id that it is, and only that.
use Rattle.std.proofs.Common.{◌∙◌}
use Rattle.osgi_base.specs.laws.Readings.{found}
use Rattle.osgi_syntax.specs.WordReader.{service_id_of}
use Rattle.osgi_syntax.specs.Words.{IsId}
use Rattle.osgi_syntax.specs.laws.Ids.{id_read, id_sound}
use Rattle.osgi_syntax.proofs.ids.id.Goals as goal

pub returns-clause-reads : goal.returns-clause-reads
returns-clause-reads c =
    let word = c.args.word.now in
    found (IsId word) (service_id_of word) c.service_id.result c.service_id.ensures.id (id_sound word)

pub returns-clause-only : goal.returns-clause-only
returns-clause-only c = λ service is. c.service_id.ensures.id ∙ id_read c.args.word.now service is
