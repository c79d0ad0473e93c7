-- The clauses so far have no fault, and made the items so far.
use Rattle.std.proofs.Common.{take}
use Rattle.std.specs.Prelude.{List, filter}
use Rattle.osgi_header.specs.declared.clause.Clause.{Clause}
use Rattle.osgi_package.specs.Only.{IsOnly}
use Rattle.osgi_clause.specs.ClauseFaults.{AreFine, clauses_of}
use Rattle.osgi_clause.specs.Members.{AreMade}
use Rattle.osgi_clause.proofs.members.members.Given as goal

abbrev pub invariant-loop-item : goal.invariant-loop-item
invariant-loop-item g l = record {
  fine : AreFine (λ (before : List Clause). g.R.ClauseReader.faults) (clauses_of (take l.item-index l.clauses));
  made : IsOnly (AreMade g.R.ClauseReader.makes (filter g.R.ClauseReader.takes (clauses_of (take l.item-index l.clauses)))) l.items;
}
