-- The candidate at the spot.
use Rattle.osgi_candidate_rows.proofs.Numbers.{item-of}
use Rattle.osgi_candidate_rows.proofs.index.is_of.Goals as goal

pub returns-in-Some-get : goal.returns-in-Some-get
returns-in-Some-get c =
    let row = c.in-Some.ensures.lookup in
    let at = c.in-Some-get.ensures.lookup in
    record { of = λ t. item-of c.args.choices.now c.args.spot.row c.args.spot.place c.in-Some.choice.now c.items.result.now c.in-Some-get.candidate.now c.args.provider row.3.0 row.1 c.items.ensures.items at.3.0 at.1 t }
