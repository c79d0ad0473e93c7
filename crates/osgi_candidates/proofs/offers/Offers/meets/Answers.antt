-- Both are there.
use Rattle.std.proofs.Common.{◌≡◌, List, ap, sym, ◌∙◌}
use Rattle.std.specs.Prelude.{Some}
use Rattle.osgi_candidates.proofs.Tested.{meets_is}
use Rattle.osgi_world.specs.Lookups.{capability_at, revision_at}
use Rattle.osgi_world.specs.declared.world.Known.{Known}
use Rattle.osgi_world.specs.declared.world.World.{World}
use Rattle.osgi_candidates.proofs.offers.Offers.meets.Goals as goal

pub returns-in-Some-capability : goal.returns-in-Some-capability
returns-in-Some-capability c =
    let known : c.self.inside.known ≡ c.args.self.now.known = c.self.invariant.0 ∙ ap (λ (w : World). w.known) c.self.view_is in
    let x = c.args.capability in
    let is : revision_at c.args.self.now.known x.provider ≡ Some c.in-Some.provider.now = ap (λ (K : List Known). revision_at K x.provider) (sym known) ∙ sym c.in-Some.ensures.revision in
    let at : capability_at c.args.self.now.known x.owner x.index ≡ Some c.in-Some-capability.offered.now = ap (λ (K : List Known). capability_at K x.owner x.index) (sym known) ∙ sym c.in-Some-capability.ensures.capability in
    record { meets = meets_is c.args.self.now.known c.args.requirement.now x c.in-Some.provider.now c.in-Some-capability.offered.now c.satisfies.result is at c.satisfies.ensures.satisfies }
