-- The requirement that stands there.
use Rattle.std.proofs.Common.{sym}
use Rattle.osgi_resolver_decisions.proofs.plain.is_plain_for.Goals as goal

pub returns : goal.returns
returns c = record {
  plain = λ t. record {
    requirement = c.in-Some.requirement.now;
    requirement_is = sym c.in-Some.ensures.requirement;
    name_is = c.eq.ensures.same.0 c.if-not-eq.false;
    plain = c.is_plain.ensures.plain t;
  };
}
