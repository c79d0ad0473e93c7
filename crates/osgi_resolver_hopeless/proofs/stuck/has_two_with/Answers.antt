-- The rows are those of the wirings that are decided.
use Rattle.std.proofs.Common.{◌↔◌, IsTrue, subst}
use Rattle.osgi_resolver_hopeless.proofs.Answering.{known-is, no}
use Rattle.osgi_resolver_hopeless.proofs.Tested.{some-none, some-same}
use Rattle.osgi_resolver_hopeless.specs.computed.Stuck.{OtherProvider}
use Rattle.osgi_resolver_path.specs.Standing.{made}
use Rattle.osgi_world.specs.Partial.{partial}
use Rattle.osgi_resolver_hopeless.proofs.stuck.has_two_with.Goals as goal

pub returns-in-Some : goal.returns-in-Some
returns-in-Some c = record {
  other = λ P L.
      let W = partial P (made P c.args.path.now) in
      let m = c.args.member in
      let wired = c.in-Some.wired in
      let rows = c.rows.result.now in
      let is : IsTrue c.has_other_provider.result ↔ OtherProvider P.world.known W m wired =
      subst (λ K. IsTrue c.has_other_provider.result ↔ OtherProvider K W m wired) (known-is c.args.path.now P L rows.known c.rows.ensures.known) (c.has_other_provider.ensures.other W (c.rows.ensures.rows P L)) in (
        λ t. (wired, c.in-Some.is, is.0 t),
        λ some. is.1 (subst (OtherProvider P.world.known W m) (some-same c.args.wired some.0 wired some.1 c.in-Some.is) some.2),
      );
}

pub returns-in-None : goal.returns-in-None
returns-in-None c = record { other = λ P L. no (λ some. some-none c.args.wired some.0 c.in-None.is some.1) }
