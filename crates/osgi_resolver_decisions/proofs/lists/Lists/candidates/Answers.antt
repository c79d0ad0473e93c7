-- The list at the requirement's place.
use Rattle.std.proofs.Common.{refl, ◌∙◌}
use Rattle.osgi_world.specs.Candidates.{candidates}
use Rattle.osgi_resolver_decisions.proofs.Owners.{listed-at}
use Rattle.osgi_resolver_decisions.proofs.lists.Lists.candidates.Goals as goal

pub returns : goal.returns
returns c = record {
  candidates = λ P in_it knows asked.
      let q = c.args.requirement in
      c.list_at.ensures.list ∙ listed-at c.of_owner.result.now q.index (candidates P q) (c.of_owner.ensures.lists knows P q in_it refl asked);
}
