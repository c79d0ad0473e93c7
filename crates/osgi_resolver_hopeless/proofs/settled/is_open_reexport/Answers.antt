-- The bundle is not reexported, or is decided or not.
use Rattle.osgi_resolver_hopeless.proofs.Answering.{denied, disproved, flag-set, flag-unset, no}
use Rattle.osgi_resolver_hopeless.proofs.settled.is_open_reexport.Goals as goal

pub returns-then-not-row : goal.returns-then-not-row
returns-then-not-row c = record { waits = λ P L i. no (λ both. flag-unset _ c.if-not-row.true both.0) }

pub returns : goal.returns
returns c = record {
  waits = λ P L i. (
    λ t. (flag-set _ c.if-not-row.false, denied _ (c.is_decided.ensures.decided P L i) t),
    λ both. disproved _ (c.is_decided.ensures.decided P L i) both.1,
  );
}
