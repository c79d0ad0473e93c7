-- The rows are those of the world.
use Rattle.std.proofs.Common.{◌↔◌, ◌∙◌, List, subst, IsTrue}
use Rattle.std.specs.Prelude.{IfOk}
use Rattle.osgi_world.specs.Consistency.{IsCoherent}
use Rattle.osgi_world.specs.declared.wiring.Wiring.{Wiring}
use Rattle.osgi_world.specs.declared.world.Known.{Known}
use Rattle.osgi_space.proofs.consistent.is_consistent.Goals as goal

pub returns : goal.returns
returns c = record {
  consistent =
      subst (λ (K : List Known). IfOk c.are_consistent.result (λ answer. IsTrue answer ↔ IsCoherent K c.args.world.now.wirings)) (c.in_ok-rows.ensures.known ∙ c.items.ensures.items)
      (subst (λ (W : List Wiring). IfOk c.are_consistent.result (λ answer. IsTrue answer ↔ IsCoherent c.in_ok-rows.rows.known W)) c.items-wirings.ensures.items c.are_consistent.ensures.consistent);
}
