-- All of them.
use Rattle.std.proofs.Common.{◌≡◌, ℕ, Option, filter, ap, ◌∙◌}
use Rattle.std.proofs.lemmas.List.{take_all}
use Rattle.osgi_world.specs.Candidates.{matching}
use Rattle.osgi_world.specs.Decisions.{Decision, attaching, is_yes, value_made}
use Rattle.osgi_resolver_path.specs.computed.Valued.{value_in}
use Rattle.osgi_resolver_path.specs.computed.Views.{decided_in}
use Rattle.osgi_resolver_path.proofs.adding.attached.Goals as goal

pub returns : goal.returns
returns c = record {
  attached = λ P course seen i.
      let m = c.args.member in
      let items = c.fragments_for-fragment-items.result.now in
      let are : items ≡ matching P m = c.fragments_for-fragment-items.ensures.fragments P seen.ready.in_it (seen.ready.learnt.members m i) in
      let same : value_in c.args.values.now ≡ value_made (decided_in course) = λ k d. seen.values_are d k in
      c.loop-fragment.invariant
      ∙ ap (filter (λ f. is_yes (value_in c.args.values.now (attaching m f)))) (take_all c.loop-fragment.fragment-index items c.loop-fragment-test.false ∙ are)
      ∙ ap (λ (made : Decision → Option ℕ). filter (λ f. is_yes (made (attaching m f))) (matching P m)) same;
}
