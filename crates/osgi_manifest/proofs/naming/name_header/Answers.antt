-- What was made of the clauses is what the header says.
use Rattle.std.proofs.Common.{subst}
use Rattle.std.specs.Prelude.{codes}
use Rattle.osgi_world.specs.declared.manifest_fault.ManifestKind.TheVariants.{BadName}
use Rattle.osgi_clause.specs.Walks.{Walked}
use Rattle.osgi_clause.specs.Lone.{IsLone, SaysNaming}
use Rattle.osgi_clause.specs.Faults.{name_faults}
use Rattle.osgi_manifest.proofs.InHeaders.{header_answer}
use Rattle.osgi_manifest.proofs.naming.name_header.Goals as goal

pub returns : goal.returns
returns c = record {
  answer = header_answer name_faults BadName (IsLone SaysNaming) (codes "Bundle-SymbolicName") c.args.headers.now c.in_ok-read.read c.in_ok-made.made c.made_of.result c.in_ok-read.ensures.read
      (subst (λ l. Walked name_faults (IsLone SaysNaming) l c.in_ok-made.made) c.items.ensures.items c.in_ok-made.ensures.walked) c.made_of.ensures.made;
}
