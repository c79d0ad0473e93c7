-- The sets have what was collected.
use Rattle.osgi_space_rules.specs.computed.Keys.{attachment, wired_place}
use Rattle.osgi_space_rules.proofs.Found.{through}
use Rattle.osgi_space_rules.proofs.indexed.WiringIndex.new.Goals as goal

pub invariant_of-result : goal.invariant_of-result
invariant_of-result c = (
  λ r. through (c.in_ok-in_force.ensures.items r) (c.in_ok-revisions_in_force.ensures.in_force r),
  λ h f. through (c.in_ok-attached.ensures.items (attachment h f)) (c.in_ok-attachments.ensures.attached h f),
  λ r q. through (c.in_ok-wired.ensures.items (wired_place r q)) (c.in_ok-wired_places.ensures.wired r q),
)
