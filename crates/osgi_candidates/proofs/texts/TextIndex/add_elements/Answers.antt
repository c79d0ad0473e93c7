-- One more value, and all of them.
use Rattle.std.proofs.Common.{List, subst}
use Rattle.std.proofs.lemmas.List.{take_all}
use Rattle.osgi_candidates.specs.computed.Texts.{AddsTexts, IsSomeValue}
use Rattle.osgi_candidates.proofs.ByText.{more_values, no_values}
use Rattle.osgi_model.specs.declared.value.Value.{Value}
use Rattle.osgi_candidates.proofs.texts.TextIndex.add_elements.Goals as goal

pub loop-value-init : goal.loop-value-init
loop-value-init c = no_values c.args.self.now c.args.place c.args.name.now c.args.attribute.now

pub loop-value-preserved : goal.loop-value-preserved
loop-value-preserved c =
    more_values c.args.self.now c.loop-value.self c.add_element.new.self c.args.place c.args.name.now c.args.attribute.now c.args.values.now c.loop-value.value-index c.value-item.result
    c.loop-value-test.true c.value-item.is c.loop-value.invariant c.in_ok-add_element.ensures.added

pub returns : goal.returns
returns c = record {
  added =
      subst (λ (l : List Value). AddsTexts c.args.self.now c.loop-value.self (IsSomeValue c.args.place c.args.name.now c.args.attribute.now l)) (take_all c.loop-value.value-index c.args.values.now c.loop-value-test.false)
      c.loop-value.invariant;
}
