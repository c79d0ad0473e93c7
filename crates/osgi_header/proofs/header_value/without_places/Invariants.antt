-- The clauses so far go on with those that are left.
use Rattle.std.proofs.Common.{◌≡◌, ◌++◌, map}
use Rattle.osgi_header.proofs.header_value.without_places.Given as goal

abbrev pub invariant-loop-clause : goal.invariant-loop-clause
invariant-loop-clause l = l.all ++ map (λ c. c.clause) l.clause-iterator.rest.items ≡ map (λ c. c.clause) l.fn.clauses
