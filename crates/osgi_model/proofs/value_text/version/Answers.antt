-- What is parsed is the version of the text.
use Rattle.std.proofs.Common.{◌∙◌}
use Rattle.osgi_model.specs.laws.VersionTexts.{version_parsed}
use Rattle.osgi_model.proofs.value_text.version.Goals as goal

pub returns : goal.returns
returns c =
    record { version = c.ok.ensures.value ∙ version_parsed _ c.args.text.now c.in_ok-parse.field-0 c.in_ok-parse.ensures.reads c.in_ok-parse.ensures.only }
