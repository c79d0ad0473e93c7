-- By the value.
use Rattle.osgi_resolver_hopeless.proofs.Answering.{no}
use Rattle.osgi_resolver_hopeless.proofs.stuck.is_attached_amiss.Goals as goal

pub returns-then-value-ne0 : goal.returns-then-value-ne0
returns-then-value-ne0 c = record { amiss = λ P L is_member i. no (λ a. c.if-value-ne0.true a.0) }

pub returns : goal.returns
returns c = record {
  amiss = λ P L is_member i.
      let by = c.is_fragment_amiss.ensures.amiss P L is_member (i c.if-value-ne0.false) in (
        λ t. (c.if-value-ne0.false, (i c.if-value-ne0.false), by.0 t),
        λ a. by.1 a.2,
      );
}
