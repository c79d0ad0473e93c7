-- An attachment more.
use Rattle.osgi_world.specs.Decisions.{attached}
use Rattle.osgi_space_rows.specs.Names.{name_numbered}
use Rattle.osgi_space_rows.proofs.Growth.{step-made}
use Rattle.osgi_space_rows.proofs.StepRows.{attachment-added}
use Rattle.osgi_space_rows.proofs.world_rows.WorldRows.attach.Goals as goal

pub returns-clause-added : goal.returns-clause-added
returns-clause-added c =
    let old = c.args.self.now in
    step-made old c.add.new.self (attached c.args.host c.args.fragment) _ c.in_ok-add.ensures.added c.in_ok-add.ensures.numbered
    (λ W are. attachment-added old.known W c.args.host c.args.fragment (name_numbered old.names) old.rows are)
