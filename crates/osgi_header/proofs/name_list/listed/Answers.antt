-- The parts that the loop went over are those of the split.
use Rattle.std.proofs.Common.{◌≡◌, rules, List, Option, None, map, ap, ◌∙◌}
use Rattle.std.specs.Iterator.{Yields}
use Rattle.std.proofs.lemmas.Iterator.{YieldsList}
use Rattle.std.proofs.lemmas.Iterator.Consumers.{YieldsList-at, YieldsList-end}
use Rattle.std.proofs.lemmas.Iterator.Splits.{YieldsList-from_slice_split}
use Rattle.osgi_header.specs.computed.ClauseReader.{trimmed}
use Rattle.osgi_header.specs.computed.NameReader.{is_comma}
use Rattle.osgi_header.proofs.name_list.listed.Goals as goal

-- the items of an iterator that has come to its end
all_items : {S A B : Type 0} {steps : S → Option A → S → Type 0} {v : A → B} {s : S} {all : List B} (xs : List A) (t : S) → Yields steps s xs t →
    (r : Option A) (u : S) → r ≡ None → steps t r u → YieldsList steps v s all → map v xs ≡ all
all_items xs t yielded r u none step items = (YieldsList-end items xs t yielded r u none step).0

pub returns : goal.returns
returns c =
    let s = c.split-part-items.ensures in
    record {
      names = c.loop-part.invariant
          ∙ ap (map trimmed)
          (all_items {v = λ x. x.now} c.loop-part.yielded _ c.loop-part.yielded_by _ _ c.in-None.is c.next.ensures.steps
          (YieldsList-at c.into_iter-part-iterator.ensures.into_iter_gives
          (YieldsList-from_slice_split _ is_comma c.args.text.now s.rest s.done s.closure (λ x b q h. search rules))));
    }
