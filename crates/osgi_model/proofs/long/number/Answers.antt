-- What is read of a text is its number.
use Rattle.std.proofs.Common.{◌∙◌}
use Rattle.osgi_model.specs.laws.Longs.{no_number, number_parsed}
use Rattle.osgi_model.proofs.long.number.Goals as goal

pub returns-in_default : goal.returns-in_default
returns-in_default c = record { number = no_number c.args.text.now c.in_default.ensures.cases.0 }

pub returns : goal.returns
returns c =
    record { number = c.ok.ensures.value ∙ number_parsed c.args.text.now c.parse.result (rw c.in-Ok.ensures.cases.0 at c.parse.ensures.value.0) }
