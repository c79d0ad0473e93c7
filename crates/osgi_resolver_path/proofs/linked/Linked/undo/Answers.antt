-- The trail has the provider of the last step.
use Rattle.std.proofs.Common.{◌<◌, ◌∙◌, ◌++◌, arith, ap, length, subst, sym}
use Rattle.std.specs.Option.{option_to_list}
use Rattle.osgi_uses.specs.States.{SpacesState}
use Rattle.osgi_resolver_path.proofs.Links.{links-undone, some-trail}
use Rattle.osgi_resolver_path.proofs.linked.Linked.undo.Goals as goal

pub unwrap-provider-requires : goal.unwrap-provider-requires
unwrap-provider-requires c =
    let steps : 0 < length c.self.inside.spaces.steps = subst (λ (s : SpacesState). 0 < length s.steps) (sym c.self.view_is) c.requires.step in
    let some = some-trail c.self.inside.holders c.self.inside.trail.items c.self.inside.spaces.steps c.self.invariant steps in
    c.pop.ensures.variant.1 (omega (arith, some))

pub invariant_of-self : goal.invariant_of-self
invariant_of-self c =
    let steps : 0 < length c.self.inside.spaces.steps = subst (λ (s : SpacesState). 0 < length s.steps) (sym c.self.view_is) c.requires.step in
    links-undone c.self.inside.holders c.take_off.new.holders c.self.inside.trail.items c.pop.new.self.items c.unwrap-provider.result c.self.inside.spaces.steps c.undo.new.self.steps steps
    (λ s rest is. ap (λ (t : SpacesState). t.steps) (c.undo.ensures.undone s rest is))
    (c.pop.ensures.items ∙ ap (λ o. c.pop.new.self.items ++ option_to_list o) c.unwrap-provider.ensures)
    c.take_off.ensures.taken c.self.invariant
