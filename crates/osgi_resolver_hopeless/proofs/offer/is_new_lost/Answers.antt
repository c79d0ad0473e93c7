-- The wire, if there is one.
use Rattle.std.proofs.Common.{subst}
use Rattle.osgi_resolver_hopeless.proofs.Answering.{no}
use Rattle.osgi_resolver_hopeless.proofs.Tested.{some-none, some-same}
use Rattle.osgi_resolver_hopeless.specs.computed.Clashing.{IsLostBy}
use Rattle.osgi_resolver_path.specs.Standing.{made}
use Rattle.osgi_resolver_path.specs.declared.wired.Wired.{Wired}
use Rattle.osgi_resolver_hopeless.proofs.offer.is_new_lost.Goals as goal

pub returns-in_ok-is_lost_now-in-Some : goal.returns-in_ok-is_lost_now-in-Some
returns-in_ok-is_lost_now-in-Some c = record {
  lost = λ P L has.
      let w = c.in-Some.wired in
      let is = c.in_ok-is_lost_now-in-Some.ensures.lost P L (has w c.in-Some.is) in (
        λ t. (w, c.in-Some.is, is.0 t),
        λ some. is.1 (subst (λ (x : Wired). IsLostBy P (made P c.args.path.now) x.wire) (some-same c.args.wired some.0 w some.1 c.in-Some.is) some.2),
      );
}

pub returns-in-None : goal.returns-in-None
returns-in-None c = record { lost = λ P L has. no (λ some. some-none c.args.wired some.0 c.in-None.is some.1) }
