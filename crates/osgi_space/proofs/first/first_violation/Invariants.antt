-- None of the revisions so far has a violated constraint.
use Rattle.std.proofs.Common.{ℕ, All, take, IsTrue}
use Rattle.std.specs.Prelude.{None}
use Rattle.std.specs.BTreeSet.{contains}
use Rattle.std.specs.Ordering.{nat_cmp}
use Rattle.osgi_space.specs.computed.Firsts.{IsFirstImplied}
use Rattle.osgi_space.proofs.first.first_violation.Given as goal

abbrev pub invariant-loop-number : goal.invariant-loop-number
invariant-loop-number l = All (λ (n : ℕ). IsFirstImplied l.rows.rows l.rows.names (λ r. IsTrue (contains nat_cmp l.listed r)) n None) (take l.number-index l.number-items)
