-- The clauses so far go on with those that are left.
use Rattle.std.proofs.Common.{◌≡◌, ◌++◌, drop}
use Rattle.osgi_clause.specs.ClauseFaults.{clauses_of}
use Rattle.osgi_clause.proofs.packages.without_places.Given as goal

abbrev pub invariant-loop-item : goal.invariant-loop-item
invariant-loop-item l = l.all ++ clauses_of (drop l.item-index l.clauses) ≡ clauses_of l.clauses
