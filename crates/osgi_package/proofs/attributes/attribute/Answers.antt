-- The type of the name reads the text.
use Rattle.std.proofs.Common.{ap, sym, ◌∙◌, Some}
use Rattle.std.specs.Option.{option_map}
use Rattle.osgi_package.proofs.Reading.{attribute_none, attribute_with, with_value}
use Rattle.osgi_package.proofs.attributes.attribute.Goals as goal

pub returns-in_default : goal.returns-in_default
returns-in_default c = record { attribute = attribute_none c.args.typed.now c.bytes.result.now c.bytes.ensures.bytes c.in_default.ensures.named }

pub returns-in_default-2 : goal.returns-in_default-2
returns-in_default-2 c = record {
  attribute = ap (option_map (with_value c.args.typed.now)) (sym c.in_default-2.is)
      ∙ attribute_with c.args.typed.now c.bytes.result.now c.bytes-2.result.now c.in-Some.kind c.in_ok-value.field-0 c.bytes.ensures.bytes c.bytes-2.ensures.bytes
      c.in-Some.ensures.named c.in_ok-value.ensures.reads c.in_ok-value.ensures.only;
}

pub returns : goal.returns
returns c = record {
  attribute = (λ i. Some (record { name = c.in_ok-copy.ensures.same i; value = c.in-Some-2.value }))
      ∙ ap (option_map (with_value c.args.typed.now)) (sym c.in-Some-2.is)
      ∙ attribute_with c.args.typed.now c.bytes.result.now c.bytes-2.result.now c.in-Some.kind c.in_ok-value.field-0 c.bytes.ensures.bytes c.bytes-2.ensures.bytes
      c.in-Some.ensures.named c.in_ok-value.ensures.reads c.in_ok-value.ensures.only;
}
