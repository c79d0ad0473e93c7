-- What was read of the clauses before the first that repeats something is what all make, or the first fault.
use Rattle.std.proofs.Common.{subst, sym}
use Rattle.std.specs.Prelude.{Err}
use Rattle.osgi_world.specs.declared.manifest_fault.ManifestKind.TheVariants.{BadRange}
use Rattle.osgi_package.specs.Imports.{AreImports, SaysImports}
use Rattle.osgi_clause.specs.Walks.{Walked}
use Rattle.osgi_clause.specs.Faults.{import_clause_faults}
use Rattle.osgi_clause.proofs.PackageWalks.{imports_both, imports_one, walked_fault, walked_made}
use Rattle.osgi_clause.proofs.packages.imported.Goals as goal

pub returns-in-Ok : goal.returns-in-Ok
returns-in-Ok c = record {
  walked = subst (Walked import_clause_faults AreImports c.args.clauses.now) (sym c.or_repeated.ensures.made)
      (walked_made SaysImports BadRange imports_both imports_one c.args.clauses.now c.split_at.result.0.now c.split_at.result.1.now c.in_ok-plain_len.field-0 c.in_ok-all.all
      c.in_ok-plain_len.ensures.plain c.split_at.ensures.front c.split_at.ensures.back c.in_ok-all.ensures.clauses c.in_ok-made.field-0 c.in-Ok.made c.in-Ok.is
      c.in_ok-made.ensures.reads c.in_ok-made.ensures.only);
}

pub returns : goal.returns
returns c = record {
  walked = subst (λ f. Walked import_clause_faults AreImports c.args.clauses.now (Err f)) (sym c.fault_in.ensures.fault)
      (walked_fault SaysImports BadRange imports_both imports_one c.args.clauses.now c.split_at.result.0.now c.split_at.result.1.now c.in_ok-plain_len.field-0 c.in_ok-all.all
      c.in_ok-plain_len.ensures.plain c.split_at.ensures.front c.split_at.ensures.back c.in_ok-all.ensures.clauses c.in_ok-made.field-0 c.in-Err.fault c.in-Err.is
      c.in_ok-made.ensures.reads);
}
