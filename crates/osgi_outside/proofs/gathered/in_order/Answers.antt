-- That the sort is by the paths' bytes.
use Rattle.std.proofs.Common.{rules}
use Rattle.std.proofs.lemmas.Cmp.{nat_list_cmp_total}
use Rattle.std.proofs.lemmas.List.Sorted.{answers_always}
use Rattle.std.proofs.lemmas.List.MinMax.{ranks_by}
use Rattle.osgi_outside.proofs.gathered.in_order.Goals as goal

pub returns-clause-order : goal.returns-clause-order
returns-clause-order c =
    let sorted = c.in_ok-sort_by.ensures.sorted _ (ranks_by nat_list_cmp_total (λ file. file.path)) (answers_always _ _ _ (λ f a r f' k. search rules)) in
    search rules
