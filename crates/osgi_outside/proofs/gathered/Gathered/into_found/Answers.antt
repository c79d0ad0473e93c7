-- That files in another order have the same bytes, and are as many.
use Rattle.std.proofs.Common.{arith, length}
use Rattle.std.proofs.lemmas.List.Sorted.{sum_by-IsPermutation, length_permutation}
use Rattle.osgi_outside.proofs.gathered.Gathered.into_found.Goals as goal

pub returns-clause-limits : goal.returns-clause-limits
returns-clause-limits c =
    let bytes = sum_by-IsPermutation (λ file. length file.bytes) _ _ c.in_ok-in_order.ensures.moved in
    let files = length_permutation _ _ c.in_ok-in_order.ensures.moved in
    grind arith
