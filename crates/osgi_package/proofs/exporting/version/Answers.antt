-- What is parsed is the version of the text.
use Rattle.std.proofs.Common.{ap, ◌∙◌}
use Rattle.osgi_model.specs.computed.VersionReader.{version_of}
use Rattle.osgi_model.specs.laws.VersionTexts.{version_parsed}
use Rattle.osgi_package.proofs.exporting.version.Goals as goal

pub returns : goal.returns
returns c = record {
  version = c.ok.ensures.value ∙ version_parsed _ c.version_text.result.now c.in_ok-parse.field-0 c.in_ok-parse.ensures.reads c.in_ok-parse.ensures.only
      ∙ ap version_of c.version_text.ensures.text;
}
