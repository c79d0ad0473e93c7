-- The wire, if there is one.
use Rattle.std.proofs.Common.{subst}
use Rattle.osgi_resolver_hopeless.proofs.Answering.{no}
use Rattle.osgi_resolver_hopeless.proofs.Tested.{some-none, some-same}
use Rattle.osgi_resolver_hopeless.specs.computed.Clashing.{IsLost}
use Rattle.osgi_resolver_path.specs.declared.wired.Wired.{Wired}
use Rattle.osgi_resolver_hopeless.proofs.offer.is_wire_lost.Goals as goal

pub returns-in-Some : goal.returns-in-Some
returns-in-Some c = record {
  lost = λ W is.
      let w = c.in-Some.wired in
      let one = c.is_lost.ensures.lost W is in (
        λ t. (w, c.in-Some.is, one.0 t),
        λ some. one.1 (subst (λ (x : Wired). IsLost c.args.rows.now.known W c.args.unsettled.now x) (some-same c.args.wired some.0 w some.1 c.in-Some.is) some.2),
      );
}

pub returns-in-None : goal.returns-in-None
returns-in-None c = record { lost = λ W is. no (λ some. some-none c.args.wired some.0 c.in-None.is some.1) }
