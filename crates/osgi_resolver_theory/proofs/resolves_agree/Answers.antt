-- The fact, from what the definitions give.
use Rattle.osgi_resolver_theory.proofs.Once.{effort_above-once, effort_within-once, first_word-once, wirings-once}
use Rattle.osgi_resolver_theory.proofs.resolves_agree.Goals as goal

pub returns : goal.returns
returns c world b P Q p q = record {
  within = effort_within-once world b P Q p q;
  above = effort_above-once world b P Q p q;
  first = first_word-once world b P Q p q;
  wirings = wirings-once world b P Q p q;
}
