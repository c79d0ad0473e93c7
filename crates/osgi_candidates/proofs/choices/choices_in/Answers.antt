-- One more known revision, and all of them.
use Rattle.std.proofs.Common.{◌≡◌, List, [], subst, ◌∙◌}
use Rattle.std.specs.Prelude.{Some}
use Rattle.std.proofs.lemmas.List.{take_all}
use Rattle.osgi_candidates.specs.computed.Choices.{AddsChoices}
use Rattle.osgi_candidates.specs.computed.Fitting.{IsFit}
use Rattle.osgi_candidates.proofs.Posed.{requirements_of_some, rows_are, rows_none, some_more}
use Rattle.osgi_resolver_theory.proofs.Laws.{known-found}
use Rattle.osgi_space_rules.proofs.Grow.{at_in}
use Rattle.osgi_world.specs.Lists.{In}
use Rattle.osgi_world.specs.Lookups.{known_at}
use Rattle.osgi_world.specs.Payloads.{own_requirements}
use Rattle.osgi_world.specs.declared.world.Known.{Known}
use Rattle.osgi_world.specs.declared.world.World.{World}
use Rattle.osgi_candidates.proofs.choices.choices_in.Goals as goal

pub loop-known-init : goal.loop-known-init
loop-known-init c = λ fit. rows_none c.args.world.now [] c.in_ok-choices.choices (λ q i. absurd i)

pub loop-known-preserved : goal.loop-known-preserved
loop-known-preserved c = λ fit.
    let w = c.args.world.now in
    let k = c.known-item.result in
    let items = c.items-known-items.result.now in
    let added =
    subst (λ (v : World). IsFit v → known_at v.known k.id ≡ Some k → AddsChoices v (own_requirements v.known k.id) c.loop-known.choices c.add_choices.new.choices) c.in_ok-offers.ensures.world c.in_ok-add_choices.ensures.added in
    let there : In k w.known = subst (In k) c.items-known-items.ensures.items (at_in items c.loop-known.known-index k c.loop-known-test.true c.known-item.is) in
    some_more w items c.loop-known.known-index k c.in_ok-choices.choices c.loop-known.choices c.add_choices.new.choices c.loop-known-test.true c.known-item.is (c.loop-known.invariant fit)
    (added fit (known-found w.known fit.world_is.known_once k there))

pub returns : goal.returns
returns c = record {
  choices = λ fit.
      let w = c.args.world.now in
      let all = subst (λ (D : List Known). AddsChoices w (requirements_of_some w D) c.in_ok-choices.choices c.loop-known.choices) (take_all c.loop-known.known-index c.items-known-items.result.now c.loop-known-test.false ∙ c.items-known-items.ensures.items) (c.loop-known.invariant fit) in
      rows_are w c.in_ok-choices.choices c.loop-known.choices c.in_ok-choices.ensures.empty all;
}
