-- What is read of a text is its number, and only that.
use Rattle.std.proofs.Common.{◌∙◌, sym}
use Rattle.osgi_model.specs.laws.Longs.{long_read, long_sound}
use Rattle.osgi_model.proofs.value_text.read_long.Goals as goal

pub returns : goal.returns
returns c =
    record {
      reads = λ number. (λ read. long_sound c.args.text.now number (sym c.long.ensures.number ∙ read), λ is. c.long.ensures.number ∙ long_read c.args.text.now number is);
    }
