-- The type of the name reads the text.
use Rattle.std.proofs.Common.{ap, None}
use Rattle.std.specs.Prelude.{option_and_then}
use Rattle.osgi_model.specs.laws.TypeNames.{kind_is}
use Rattle.osgi_model.specs.computed.ValueReader.{value_of}
use Rattle.osgi_syntax.specs.laws.Attributes.{result_named}
use Rattle.osgi_syntax.proofs.values.value.Goals as goal

pub returns-in-Some : goal.returns-in-Some
returns-in-Some c =
    record {
      value = result_named c.args.name.now c.args.text.now c.in-Some.kind c.read_value.result (kind_is c.args.name.now _ c.in-Some.ensures.named)
          c.read_value.ensures.reads c.read_value.ensures.only;
    }

pub returns-in-None : goal.returns-in-None
returns-in-None c =
    record { value = ap (option_and_then (λ k. value_of k c.args.text.now)) (kind_is c.args.name.now None c.in-None.ensures.named) }
