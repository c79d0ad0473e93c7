-- What is found is the type of the name.
use Rattle.std.proofs.Common.{◌∙◌, sym}
use Rattle.osgi_model.specs.laws.TypeNames.{kind_read, kind_sound}
use Rattle.osgi_model.proofs.value_type.ValueType.named.Goals as goal

pub returns : goal.returns
returns c =
    record {
      named = λ k. (λ found. kind_sound c.args.name.now k (sym c.kind_named.ensures.kind ∙ found), λ names. c.kind_named.ensures.kind ∙ kind_read c.args.name.now k names);
    }
