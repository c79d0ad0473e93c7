-- What is read of a word is the id of the bundle that it is, and only that.
use Rattle.std.proofs.Common.{◌∙◌, ap}
use Rattle.osgi_base.specs.laws.Readings.{found}
use Rattle.osgi_syntax.specs.WordReader.{bundle_by, bundle_id_of}
use Rattle.osgi_syntax.specs.Words.{IsBundleId}
use Rattle.osgi_syntax.specs.laws.Ids.{bundle_id_read, bundle_id_sound}
use Rattle.osgi_syntax.proofs.ids.bundle_id.Goals as goal

pub returns-clause-reads : goal.returns-clause-reads
returns-clause-reads c =
    let word = c.args.word.now in
    found (IsBundleId word) (bundle_id_of word) c.bundle_by.result (c.bundle_by.ensures.bundle ∙ ap bundle_by c.service_id.ensures.id) (bundle_id_sound word)

pub returns-clause-only : goal.returns-clause-only
returns-clause-only c = λ bundle is. c.bundle_by.ensures.bundle ∙ ap bundle_by c.service_id.ensures.id ∙ bundle_id_read c.args.word.now bundle is
