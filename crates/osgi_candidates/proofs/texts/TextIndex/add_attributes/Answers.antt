-- One more attribute, and all of them.
use Rattle.std.proofs.Common.{List, subst}
use Rattle.std.proofs.lemmas.List.{take_all}
use Rattle.osgi_candidates.specs.computed.Texts.{AddsTexts, IsSomeText}
use Rattle.osgi_candidates.proofs.ByText.{more_attributes, no_attributes}
use Rattle.osgi_model.specs.declared.value.Attribute.{Attribute}
use Rattle.osgi_candidates.proofs.texts.TextIndex.add_attributes.Goals as goal

pub loop-attribute-init : goal.loop-attribute-init
loop-attribute-init c = no_attributes c.args.self.now c.args.place c.args.name.now

pub loop-attribute-preserved : goal.loop-attribute-preserved
loop-attribute-preserved c =
    more_attributes c.args.self.now c.loop-attribute.self c.add_value.new.self c.args.place c.args.name.now c.args.attributes.now c.loop-attribute.attribute-index c.attribute-item.result
    c.loop-attribute-test.true c.attribute-item.is c.loop-attribute.invariant c.in_ok-add_value.ensures.added

pub returns : goal.returns
returns c = record {
  added =
      subst (λ (l : List Attribute). AddsTexts c.args.self.now c.loop-attribute.self (IsSomeText c.args.place c.args.name.now l)) (take_all c.loop-attribute.attribute-index c.args.attributes.now c.loop-attribute-test.false)
      c.loop-attribute.invariant;
}
