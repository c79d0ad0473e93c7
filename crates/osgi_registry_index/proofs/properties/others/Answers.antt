-- Those that are kept are those that pass the closure's test.
use Rattle.std.proofs.Common.{◌≡◌, rules, filter, not, ◌∙◌, ap}
use Rattle.std.proofs.lemmas.List.Elements.{filter_from_retain}
use Rattle.osgi_ops.specs.Properties.{is_the_frameworks}
use Rattle.osgi_registry_index.proofs.properties.others.Goals as goal

pub returns : goal.returns
returns c =
    let kept : c.retain.new.self.items ≡ filter (λ p. not (is_the_frameworks p)) c.into_items-others.result.items
    = filter_from_retain _ (λ p. not (is_the_frameworks p)) (λ f p b g call. search rules) _ _ _ c.retain.ensures.filtered in
    record { others = c.from.ensures ∙ c.reserve_exact.ensures.items ∙ kept ∙ ap (filter (λ p. not (is_the_frameworks p))) c.into_items-others.ensures.items }
