-- The wire, if there is one.
use Rattle.std.proofs.Common.{sym, subst}
use Rattle.osgi_resolver_hopeless.proofs.Tested.{some-none, some-same}
use Rattle.osgi_resolver_hopeless.specs.computed.Clashing.{IsLostAt, IsLostBy}
use Rattle.osgi_resolver_path.specs.Standing.{made}
use Rattle.osgi_resolver_path.specs.declared.wired.Wired.{Wired}
use Rattle.osgi_world.specs.Partial.{partial}
use Rattle.osgi_world.specs.Wirings.{HasWire}
use Rattle.osgi_resolver_hopeless.proofs.offer.is_wire_lost_at.Goals as goal

pub returns-in_ok-is_lost_at-in-Some : goal.returns-in_ok-is_lost_at-in-Some
returns-in_ok-is_lost_at-in-Some c = record {
  lost = λ P L w e has t.
      let D = made P c.args.path.now in
      let same = some-same c.args.wired c.in-Some.wired w c.in-Some.is e in
      subst (λ (x : Wired). IsLostBy P D x.wire) same (c.in_ok-is_lost_at-in-Some.ensures.lost P L (subst (λ (x : Wired). HasWire (partial P D) x.revision x.wire) (sym same) has) t);
  made = λ t. (c.in-Some.wired, c.in-Some.is);
  all = λ P L w e has lost.
      let D = made P c.args.path.now in
      let same = some-same c.args.wired c.in-Some.wired w c.in-Some.is e in
      c.in_ok-is_lost_at-in-Some.ensures.all P L (subst (λ (x : Wired). HasWire (partial P D) x.revision x.wire) (sym same) has) (subst (λ (x : Wired). IsLostAt P D c.args.host x.wire) (sym same) lost);
}

pub returns-in-None : goal.returns-in-None
returns-in-None c = record {
  lost = λ P L w e has t. absurd (some-none c.args.wired w c.in-None.is e);
  made = λ t. let f = t in cc;
  all = λ P L w e has lost. absurd (some-none c.args.wired w c.in-None.is e);
}
