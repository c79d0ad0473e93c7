-- The value of its mark.
use Rattle.std.proofs.Common.{◌∙◌, reverse, ap, sym}
use Rattle.osgi_world.specs.Decisions.{value_made}
use Rattle.osgi_resolver_decisions.specs.DecisionOf.{decision_of}
use Rattle.osgi_resolver_path.specs.computed.Courses.{made_of}
use Rattle.osgi_resolver_path.proofs.OnWay.{made-at}
use Rattle.osgi_resolver_path.proofs.path.Path.value_of.Goals as goal

pub returns : goal.returns
returns c = record {
  value = λ P of.
      c.value_of.ensures.value
      ∙ ap (λ l. value_made (made_of (reverse l)) (decision_of c.args.decision)) c.as_slice.ensures.value
      ∙ ap (λ D. value_made D (decision_of c.args.decision)) (sym (made-at c.self.inside.world.now c.self.inside.root c.self.inside.lists c.self.inside.spaces c.self.inside.course c.self.invariant c.args.self.now (sym c.self.view_is) P of));
}
