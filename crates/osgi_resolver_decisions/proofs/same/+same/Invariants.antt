-- The filters so far are the same, and the others are left.
use Rattle.std.proofs.Common.{◌≡◌, ◌++◌, take}
use Rattle.osgi_resolver_decisions.proofs.same.+same.Given as goal

abbrev pub invariant-are_same-loop-one : goal.invariant-are_same-loop-one
invariant-are_same-loop-one l = take l.one-index l.ones ++ l.left ≡ l.others
