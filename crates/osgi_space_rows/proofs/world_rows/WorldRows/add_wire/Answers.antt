-- The row of a wire more.
use Rattle.osgi_world.specs.Decisions.{wired}
use Rattle.osgi_space_rows.proofs.Growth.{step-made}
use Rattle.osgi_space_rows.proofs.world_rows.WorldRows.add_wire.Goals as goal

pub returns-clause-added : goal.returns-clause-added
returns-clause-added c =
    step-made c.args.self.now c.add.new.self (wired c.args.revision c.args.wire.now) c.row_of-added.result c.in_ok-add.ensures.added c.in_ok-add.ensures.numbered c.row_of-added.ensures.agree
