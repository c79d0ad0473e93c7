-- The revision at the place that the search ends at, or none.
use Rattle.std.proofs.Common.{◌∙◌, rules}
use Rattle.std.proofs.lemmas.List.Sorted.{answers_always}
use Rattle.osgi_lookup.specs.computed.Index.{revision_number}
use Rattle.osgi_lookup.proofs.Searched.{lent, searched}
use Rattle.osgi_lookup.proofs.index.found.Goals as goal

pub returns-in-Ok : goal.returns-in-Ok
returns-in-Ok c =
    let facts = c.binary_search_by_key.ensures in
    let at = searched c.args.all.now c.requires.rising c.args.id c.binary_search_by_key.result facts.bound (facts.position revision_number (answers_always _ _ _ (λ f a r g called. search rules))) in
    record { known = lent c.args.all.now c.in-Ok.place c.get.result c.get.ensures.lookup ∙ (rw c.in-Ok.is at at) }

pub returns-in-Err : goal.returns-in-Err
returns-in-Err c =
    let facts = c.binary_search_by_key.ensures in
    let at = searched c.args.all.now c.requires.rising c.args.id c.binary_search_by_key.result facts.bound (facts.position revision_number (answers_always _ _ _ (λ f a r g called. search rules))) in
    record { known = (rw c.in-Err.is at at) }
