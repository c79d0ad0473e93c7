-- The row at the place that the location has.
use Rattle.std.proofs.Common.{ap, sym, ◌∙◌}
use Rattle.std.specs.Option.{option_map}
use Rattle.std.proofs.lemmas.Option.{get_or_from_slice_get, slice_get_within}
use Rattle.osgi_ops.specs.declared.depot.DepotRow.{DepotRow}
use Rattle.osgi_bundle.proofs.Numbers.{row_there}
use Rattle.osgi_bundle.proofs.indexed_depot.IndexedDepot.find.Goals as goal

pub bounds-items-place : goal.bounds-items-place
bounds-items-place c =
    let rows = c.self.inside.depot.rows in
    let place = c.in_ok-place.field-0.now in
    let there = row_there c.args.location.now rows place (sym (c.self.invariant c.args.location.now) ∙ sym c.in_ok-place.ensures.value) in
    rw c.items.ensures.items (slice_get_within rows place there.0 there.3)

pub returns : goal.returns
returns c =
    let rows = c.self.inside.depot.rows in
    let place = c.in_ok-place.field-0.now in
    let there = row_there c.args.location.now rows place (sym (c.self.invariant c.args.location.now) ∙ sym c.in_ok-place.ensures.value) in
    let same = get_or_from_slice_get rows place there.0 c.index-items-place.result there.3 in
    rw (← c.self.view_is, c.items.ensures.items, same) (record { found = (ap (option_map (λ (row : DepotRow). row.stored)) there.1, sym there.2) })
