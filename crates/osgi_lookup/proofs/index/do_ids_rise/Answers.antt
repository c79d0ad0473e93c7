-- The ids rise where each is below the next.
use Rattle.std.proofs.Common.{rules}
use Rattle.std.proofs.lemmas.List.Sorted.{answers_always}
use Rattle.osgi_lookup.proofs.Searched.{is_before, rise_is}
use Rattle.osgi_lookup.proofs.index.do_ids_rise.Goals as goal

pub returns : goal.returns
returns c = record { rise = rise_is c.args.all.now c.is_sorted_by.result (c.is_sorted_by.ensures.cases is_before (answers_always _ _ _ (λ f a r g called. search rules))) }
