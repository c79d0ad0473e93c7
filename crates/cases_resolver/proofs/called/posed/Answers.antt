-- The copy is the world that is kept, so its root may be resolved.
use Rattle.std.proofs.Common.{◌∙◌, subst, sym}
use Rattle.osgi_world.specs.Candidates.{IsResolvable}
use Rattle.osgi_world.specs.declared.world.World.{World}
use Rattle.cases_resolver.proofs.called.posed.Goals as goal

pub problem-requires : goal.problem-requires
problem-requires c =
    let kept = c.world.ensures.holds in
    let here : IsResolvable c.args.wirings.now.world c.args.root = record { is_world = kept.is_world; ordered = kept.ordered; consistent = kept.consistent; unresolved = c.requires.unresolved } in
    record { resolvable = subst (λ (w : World). IsResolvable w c.args.root) (sym (c.in_ok-copy.ensures.same ∙ c.world.ensures.world)) here }
