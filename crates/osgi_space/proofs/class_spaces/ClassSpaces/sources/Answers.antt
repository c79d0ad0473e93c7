-- The rows are those of the world.
use Rattle.std.proofs.Common.{◌≡◌, ◌↔◌, List, subst}
use Rattle.osgi_base.specs.declared.ids.RevisionId.{RevisionId}
use Rattle.osgi_world.specs.Lists.{In}
use Rattle.osgi_world.specs.Sources.{Sources}
use Rattle.osgi_world.specs.declared.world.Known.{Known}
use Rattle.osgi_world.specs.declared.world.World.{World}
use Rattle.osgi_space.proofs.class_spaces.ClassSpaces.sources.Goals as goal

pub returns-clause-sources : goal.returns-clause-sources
returns-clause-sources c =
    let world = c.self.inside.world.now in
    let is : world ≡ c.args.self.now = c.self.view_is in
    let there : (x : RevisionId) → In x c.in_ok-sources_in.field-0 ↔ Sources world.known world.wirings c.args.revision c.args.package.now x =
    subst (λ (K : List Known). (x : RevisionId) → In x c.in_ok-sources_in.field-0 ↔ Sources K world.wirings c.args.revision c.args.package.now x) c.self.invariant.known (c.in_ok-sources_in.ensures.sources world.wirings c.self.invariant.are) in
    subst (λ (w : World). (x : RevisionId) → In x c.in_ok-sources_in.field-0 ↔ Sources w.known w.wirings c.args.revision c.args.package.now x) is there
