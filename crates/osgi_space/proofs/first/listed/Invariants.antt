-- The set has exactly the numbers so far.
use Rattle.std.proofs.Common.{◌↔◌, ℕ, Contains, take, IsTrue}
use Rattle.std.specs.BTreeSet.{contains}
use Rattle.std.specs.Ordering.{nat_cmp}
use Rattle.osgi_space.proofs.first.listed.Given as goal

abbrev pub invariant-loop-number : goal.invariant-loop-number
invariant-loop-number l = (n : ℕ) → IsTrue (contains nat_cmp l.set n) ↔ Contains (take l.number-index l.numbers) n
