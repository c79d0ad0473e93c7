-- The place that the search ends at, or none.
use Rattle.std.proofs.Common.{ap, ◌∙◌, rules}
use Rattle.std.proofs.lemmas.List.Sorted.{answers_always}
use Rattle.osgi_bundle.specs.computed.Kept.{row_in}
use Rattle.osgi_bundle.specs.Rows.{bundle_number}
use Rattle.osgi_bundle.proofs.Finding.{searched}
use Rattle.osgi_bundle.proofs.table.Table.place.Goals as goal

pub returns : goal.returns
returns c =
    let facts = c.binary_search_by_key.ensures in
    let by_key = facts.position bundle_number (answers_always _ _ _ (λ f a r g called. search rules)) in
    let same = c.deref.ensures.value in
    rw (← c.self.view_is)
    (record {
      place =
          ap (row_in c.self.inside.rows.items) c.ok.ensures.value
          ∙ searched c.self.inside.rows.items c.self.invariant.in_order.rising c.args.bundle c.binary_search_by_key.result (rw (← same) facts.bound) (rw (← same) by_key);
    })
