-- The provider is in the set, or has the capability on offer, or neither.
use Rattle.osgi_space_rules.proofs.OneValue.{not_true}
use Rattle.osgi_resolver_hopeless.proofs.Answering.{no, opposite}
use Rattle.osgi_resolver_hopeless.proofs.offer.is_lost.Goals as goal

pub returns-then-has : goal.returns-then-has
returns-then-has c = record { lost = λ W is. no (λ lost. lost.0 (c.has.ensures.has.0 c.if-has.true)) }

pub returns : goal.returns
returns c = record {
  lost = λ W is. opposite (c.is_on_offer.ensures.offer W is) (λ lost. lost.1) (λ away. (λ has. not_true _ c.if-has.false (c.has.ensures.has.1 has), away));
}
