-- One more use of the user's.
use Rattle.std.proofs.Common.{◌≡◌, ◌+◌, ap, ◌∙◌, arith}
use Rattle.osgi_registry_index.proofs.Counting.{counted_by_insert}
use Rattle.osgi_registry_index.specs.Counts.{count_of, with_count}
use Rattle.osgi_registry_index.proofs.others.add_to.Goals as goal

pub overflow_add-count : goal.overflow_add-count
overflow_add-count c =
    let count : c.unwrap_or-count.result ≡ count_of c.args.user c.args.uses.now.entries = cc (c.unwrap_or-count.ensures, c.copied.ensures, c.get.ensures.value) in
    omega (arith, count, c.requires.room)

pub returns-clause-added : goal.returns-clause-added
returns-clause-added c =
    let count : c.unwrap_or-count.result ≡ count_of c.args.user c.args.uses.now.entries = cc (c.unwrap_or-count.ensures, c.copied.ensures, c.get.ensures.value) in
    c.in_ok-insert.ensures.entries ∙ counted_by_insert c.args.user _ _ ∙ ap (λ n. with_count c.args.user (n + 1) c.args.uses.now.entries) count
