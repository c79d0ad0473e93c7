-- The text is read without the white space round it.
use Rattle.std.proofs.Common.{◌∙◌, ap, refl}
use Rattle.std.proofs.lemmas.Str.Ascii.{trim_ascii_is}
use Rattle.osgi_model.specs.computed.LongReader.{number_of}
use Rattle.osgi_model.proofs.long.long.Goals as goal

pub returns : goal.returns
returns c =
    record { number = c.number.ensures.number ∙ ap number_of (trim_ascii_is c.args.text.now c.trim_ascii.result.now _ refl c.trim_ascii.ensures.value) }
