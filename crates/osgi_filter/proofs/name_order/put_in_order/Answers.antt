-- The places are counted up and then sorted.
use Rattle.std.proofs.Common.{ℕ, List, ap, subst, ◌∙◌, rules}
use Rattle.std.specs.List.Sorted.{IsPermutation}
use Rattle.osgi_filter.specs.computed.NameOrder.{place_cmp, places_of}
use Rattle.osgi_filter.proofs.NameLookups.{places_total, sorted_by_calls}
use Rattle.osgi_filter.proofs.name_order.put_in_order.Goals as goal

pub returns : goal.returns
returns c =
    let sorted = c.sort_unstable_by.new.self in
    record {
      order = record {
        each_once = subst (λ (x : List ℕ). IsPermutation x sorted) (c.count_up.ensures.places ∙ ap places_of c.requires.all) c.sort_unstable_by.ensures.permutation;
        in_order = sorted_by_calls (place_cmp c.args.case c.args.attributes.now) (places_total c.args.case c.args.attributes.now) sorted c.sort_unstable_by.ensures.sorted (λ a r f' k. search rules);
      };
    }
