-- The first clause is at fault, or a second one, or it names the host.
use Rattle.std.proofs.Common.{refl, subst, sym, arith}
use Rattle.osgi_clause.specs.Walks.{Walked}
use Rattle.osgi_clause.specs.computed.Lone.{IsHostMade}
use Rattle.osgi_clause.specs.Lone.{IsLone, SaysHost}
use Rattle.osgi_clause.specs.Faults.{host_faults}
use Rattle.osgi_world.specs.declared.manifest_fault.ManifestKind.TheVariants.{BadClause}
use Rattle.osgi_clause.proofs.LoneWalks.{first_of, second_host, walked_fault, walked_lone}
use Rattle.osgi_clause.proofs.host.hosted.Goals as goal

pub returns-in-Ok : goal.returns-in-Ok
returns-in-Ok c =
    let clauses = c.args.clauses.now in
    let first = c.first-item.result in
    let is = subst (IsHostMade first.clause) c.in-Ok.is c.in_ok-host.ensures.host in
    record {
      walked = subst (Walked host_faults (IsLone SaysHost) clauses) (sym c.lone.ensures.lone)
          (walked_lone SaysHost host_faults BadClause second_host clauses first _ c.in-Ok.host (first_of clauses first (omega (arith, c.in-len1-up.len_at_least)) c.first-item.is) is.0 is.1);
    }

pub returns-in-Err : goal.returns-in-Err
returns-in-Err c =
    let clauses = c.args.clauses.now in
    let first = c.first-item.result in
    record {
      walked = walked_fault SaysHost host_faults clauses first _ _ (first_of clauses first (omega (arith, c.in-len1-up.len_at_least)) c.first-item.is)
          (subst (IsHostMade first.clause) c.in-Err.is c.in_ok-host.ensures.host) refl;
    }
