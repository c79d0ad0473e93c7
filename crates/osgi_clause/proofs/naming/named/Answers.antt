-- The first clause is at fault, or a second one, or it names the bundle.
use Rattle.std.proofs.Common.{refl, subst, sym, arith}
use Rattle.osgi_clause.specs.Walks.{Walked}
use Rattle.osgi_clause.specs.Lone.{IsLone, SaysNaming}
use Rattle.osgi_clause.specs.computed.Lone.{IsNamingOf}
use Rattle.osgi_clause.specs.Faults.{name_faults}
use Rattle.osgi_world.specs.declared.manifest_fault.ManifestKind.TheVariants.{BadName}
use Rattle.osgi_clause.proofs.LoneWalks.{bad_name, first_of, good_name, one_naming, second_name, walked_fault, walked_lone}
use Rattle.osgi_clause.proofs.naming.named.Goals as goal

pub returns-in-Some : goal.returns-in-Some
returns-in-Some c =
    let clauses = c.args.clauses.now in
    let first = c.first-item.result in
    let is = subst (IsNamingOf first.clause) c.in-Some.is c.in_ok-naming.ensures.naming in
    record {
      walked = subst (Walked name_faults (IsLone SaysNaming) clauses) (sym c.lone.ensures.lone)
          (walked_lone SaysNaming name_faults BadName second_name clauses first _ c.in-Some.naming (first_of clauses first (omega (arith, c.in-len1-up.len_at_least)) c.first-item.is)
          (good_name first.clause c.in-Some.naming is) (one_naming first.clause c.in-Some.naming is));
    }

pub returns-in-None : goal.returns-in-None
returns-in-None c =
    let clauses = c.args.clauses.now in
    let first = c.first-item.result in
    record {
      walked = walked_fault SaysNaming name_faults clauses first _ _ (first_of clauses first (omega (arith, c.in-len1-up.len_at_least)) c.first-item.is)
          (bad_name first.clause (subst (IsNamingOf first.clause) c.in-None.is c.in_ok-naming.ensures.naming)) refl;
    }
