-- The set of the attachments.
use Rattle.osgi_space_rules.specs.computed.Keys.{attachment}
use Rattle.osgi_space_rules.proofs.Exact.{attachment_exact, attachment_total}
use Rattle.osgi_space_rules.proofs.Found.{decided}
use Rattle.osgi_world.specs.Wirings.{Attached}
use Rattle.osgi_space_rules.proofs.indexed.WiringIndex.is_attached.Goals as goal

pub returns : goal.returns
returns c =
    let h = c.args.host in
    let f = c.args.fragment in
    rw (← c.self.view_is) (record { attached = decided attachment_total attachment_exact c.self.inside.attached (attachment h f) c.has.result (Attached c.self.inside.wirings.now h f) c.has.ensures.has (c.self.invariant.1 h f) })
