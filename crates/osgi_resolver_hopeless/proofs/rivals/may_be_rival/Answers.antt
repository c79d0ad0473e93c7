-- A rival is another one, and a current singleton.
use Rattle.std.proofs.Common.{sym, subst}
use Rattle.osgi_resolver_hopeless.specs.computed.Rivals.{IsCurrentSingleton}
use Rattle.osgi_space_rows.specs.Agree.{id}
use Rattle.std.proofs.Common.{ap}
use Rattle.osgi_resolver_hopeless.proofs.rivals.may_be_rival.Goals as goal

pub returns-then-other-revision : goal.returns-then-other-revision
returns-then-other-revision c = record { all = λ r. absurd (r.different (sym (ap id c.if-other-revision.true))) }

pub returns : goal.returns
returns c = record { all = λ r. c.is_current_singleton.ensures.singleton.1 (subst (λ K. IsCurrentSingleton K c.args.other) (sym c.known_at.ensures.known) (r.current.1, r.singletons.1)) }
