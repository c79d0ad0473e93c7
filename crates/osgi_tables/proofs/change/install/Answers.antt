-- The bundle is new to the wirings, which have room for its revision.
use Rattle.std.proofs.Common.{ap, ◌∙◌}
use Rattle.osgi_ops.specs.Resolved.{current_revision}
use Rattle.osgi_world.specs.declared.world.World.{World}
use Rattle.osgi_tables.proofs.change.install.Goals as goal

pub add-requires-clause-no_current : goal.add-requires-clause-no_current
add-requires-clause-no_current c = ap (λ (w : World). current_revision w c.args.made.bundle) c.in_ok-reserve.ensures.world ∙ c.requires.can.fresh
