-- The number of the row's first item and the place.
use Rattle.std.proofs.Common.{◌+◌, ◌∙◌, ap, subst, sym}
use Rattle.osgi_candidate_rows.specs.computed.Numbers.{IsItemOf}
use Rattle.osgi_candidate_rows.proofs.Indexed.{first-is}
use Rattle.osgi_candidate_rows.proofs.index.Index.item.Goals as goal

pub returns : goal.returns
returns c =
    let choices = c.args.choices.now in
    let spot = c.args.spot in
    let is = c.is_of.ensures.of c.if-not-is_of.false in
    let at = c.in-Some.ensures.lookup in
    let first = first-is choices c.deref.result.now spot.row c.in-Some.first.now (c.deref.ensures.value ∙ c.requires.index.firsts) is.there at.1 in
    record { item = subst (IsItemOf choices c.args.provider spot.row) (sym (c.in-Some-checked_add.ensures.1 ∙ ap (λ n. n + spot.place) first)) is }
