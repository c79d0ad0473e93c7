-- The spaces are those of the world.
use Rattle.std.proofs.Common.{◌↔◌, subst}
use Rattle.std.specs.Prelude.{IfOk}
use Rattle.osgi_base.specs.declared.ids.RevisionId.{RevisionId}
use Rattle.osgi_world.specs.Lists.{In}
use Rattle.osgi_world.specs.Sources.{Sources}
use Rattle.osgi_world.specs.declared.world.World.{World}
use Rattle.osgi_space.proofs.class_spaces.sources.Goals as goal

pub returns-clause-sources : goal.returns-clause-sources
returns-clause-sources c =
    subst (λ (w : World). IfOk c.sources.result (λ list. (x : RevisionId) → In x list ↔ Sources w.known w.wirings c.args.revision c.args.package.now x)) c.in_ok-spaces.ensures.world c.sources.ensures.sources
