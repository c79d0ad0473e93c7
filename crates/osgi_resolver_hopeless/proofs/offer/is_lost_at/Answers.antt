-- It cannot reach the host, or is lost or not.
use Rattle.std.proofs.Common.{sym, subst}
use Rattle.osgi_space_rules.proofs.OneValue.{not_true}
use Rattle.osgi_resolver_hopeless.proofs.Answering.{known-is}
use Rattle.osgi_resolver_hopeless.proofs.Offering.{may-reach}
use Rattle.osgi_resolver_hopeless.specs.computed.Clashing.{MayReach}
use Rattle.osgi_resolver_path.specs.Standing.{made}
use Rattle.osgi_space_rows.specs.Agree.{AreRowsOf}
use Rattle.osgi_space_rows.specs.Names.{name_numbered}
use Rattle.osgi_world.specs.Partial.{partial}
use Rattle.osgi_resolver_hopeless.proofs.offer.is_lost_at.Goals as goal

pub returns-then-not-may_reach : goal.returns-then-not-may_reach
returns-then-not-may_reach c = record {
  lost = λ P L has t. let f = t in cc;
  all = λ P L has lost.
      let W = partial P (made P c.args.path.now) in
      let rows = c.rows.result.now in
      let known = known-is c.args.path.now P L rows.known c.rows.ensures.known in
      let is : AreRowsOf P.world.known W (name_numbered rows.names) rows.rows = subst (λ K. AreRowsOf K W (name_numbered rows.names) rows.rows) known (c.rows.ensures.rows P L) in
      let may = may-reach P.world.known W (name_numbered rows.names) rows.rows is c.args.wired c.args.host lost.0 in
      absurd (not_true _ c.if-not-may_reach.true (c.may_reach.ensures.may.1 (subst (λ R. MayReach R c.args.wired c.args.host) (sym c.rows-2.ensures.rows) may)));
}

pub returns : goal.returns
returns c = record {
  lost = λ P L has. (c.in_ok-is_lost_now.ensures.lost P L has).0;
  all = λ P L has lost. (c.in_ok-is_lost_now.ensures.lost P L has).1 lost.1;
}
