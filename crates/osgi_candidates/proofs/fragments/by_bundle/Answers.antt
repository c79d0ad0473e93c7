-- One more fragment, and all of them.
use Rattle.std.proofs.Common.{◌≡◌, ◌∷◌, ◌++◌, [], map, rules, ap, ◌∙◌}
use Rattle.std.specs.Map.Iter.{deref}
use Rattle.std.proofs.lemmas.List.{map-append}
use Rattle.std.proofs.lemmas.Map.Iter.{iter_end}
use Rattle.osgi_candidates.specs.computed.Fragments.{fragment_of}
use Rattle.osgi_candidates.proofs.fragments.by_bundle.Goals as goal

pub loop-one-preserved : goal.loop-one-preserved
loop-one-preserved c = simp map-append (c.in_ok-push.ensures.items ∙ (λ i. c.loop-one.invariant i ++ c.in-Some.one.now.fragment ∷ []))

pub returns : goal.returns
returns c =
    let whole : map deref c.loop-one.yielded ≡ c.args.bundled.now.keys = search (rules, iter_end) in
    record { fragments = c.loop-one.invariant ∙ ap (map fragment_of) whole; ordered = c.len.ensures.ordered }
