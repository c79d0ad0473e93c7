-- The row is that of the choice.
use Rattle.std.proofs.Common.{length, sym, ap, ◌∙◌}
use Rattle.osgi_candidate_rows.proofs.Numbers.{row-nth}
use Rattle.osgi_candidate_rows.proofs.row.count_in.Goals as goal

pub returns : goal.returns
returns c = record { count = ap length (c.items.ensures.items ∙ sym (row-nth c.args.choices.now c.args.row c.index-choices-row.result c.requires.row)) }
