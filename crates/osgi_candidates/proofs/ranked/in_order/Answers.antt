-- One more capability, and all of them from the end.
use Rattle.std.proofs.Common.{◌≡◌, ◌∷◌, ◌++◌, [], map, reverse, rules, ap, ◌∙◌}
use Rattle.std.specs.Map.Iter.{deref}
use Rattle.std.proofs.lemmas.List.{map-append}
use Rattle.std.proofs.lemmas.Map.Iter.{iter_end}
use Rattle.osgi_candidates.specs.computed.Ranking.{capability_of}
use Rattle.osgi_candidates.proofs.ranked.in_order.Goals as goal

pub loop-one-preserved : goal.loop-one-preserved
loop-one-preserved c = simp map-append (c.in_ok-push.ensures.items ∙ (λ i. c.loop-one.invariant i ++ c.capability.ensures.capability i ∷ []))

pub returns : goal.returns
returns c =
    let whole : map deref c.loop-one.yielded ≡ c.args.ranked.now.keys = search (rules, iter_end) in
    record {
      capabilities = c.reverse.ensures.items ∙ ap reverse (c.loop-one.invariant ∙ ap (map capability_of) whole);
      ordered = c.len.ensures.ordered;
    }
