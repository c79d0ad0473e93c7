-- The filter that asks for a text is one of those that all have to match.
use Rattle.std.proofs.Common.{IsTrue, subst}
use Rattle.std.specs.Prelude.{Bool, bytes_eq}
use Rattle.osgi_capability.proofs.Asking.{all_at}
use Rattle.osgi_model.specs.computed.MatchReader.{matches}
use Rattle.osgi_capability.proofs.asked.first_text.Goals as goal

pub returns-in-Some : goal.returns-in-Some
returns-in-Some c = record {
  first = λ attributes all.
      subst (λ (b : Bool). IsTrue b) (c.in-Some.ensures.item attributes)
      (all_at (matches bytes_eq attributes) c.args.filters.now c.loop-filter.filter-index c.filter-item.result c.loop-filter-test.true c.filter-item.is all);
}
