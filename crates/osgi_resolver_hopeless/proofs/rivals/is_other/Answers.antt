-- One reason after the other.
use Rattle.std.proofs.Common.{sym, subst}
use Rattle.osgi_space_rules.proofs.OneValue.{not_true}
use Rattle.osgi_resolver_hopeless.proofs.Answering.{no}
use Rattle.osgi_resolver_hopeless.specs.computed.Rivals.{IsCurrentSingleton}
use Rattle.osgi_resolver_hopeless.proofs.rivals.is_other.Goals as goal

pub returns-then-other-revision : goal.returns-then-other-revision
returns-then-other-revision c = record { other = no (λ o. o.apart c.if-other-revision.true) }

pub returns-then-not-is_current_singleton : goal.returns-then-not-is_current_singleton
returns-then-not-is_current_singleton c = record {
  other = no (λ o. not_true _ c.if-not-is_current_singleton.true (c.is_current_singleton.ensures.singleton.1 (subst (λ K. IsCurrentSingleton K c.args.other) (sym c.known_at.ensures.known) o.singleton)));
}

pub returns : goal.returns
returns c = record {
  other = (
    λ t. record {
      apart = c.if-other-revision.false;
      singleton = subst (λ K. IsCurrentSingleton K c.args.other) c.known_at.ensures.known (c.is_current_singleton.ensures.singleton.0 c.if-not-is_current_singleton.false);
      present = c.is_present.ensures.present.0 t;
    },
    λ o. c.is_present.ensures.present.1 o.present,
  );
}
