-- One member is stopped.
use Rattle.std.proofs.Common.{◌∙◌}
use Rattle.osgi_lifecycle.proofs.Going.{member-stopped}
use Rattle.osgi_lifecycle.proofs.rest.Rest.stop_member.Goals as goal

pub returns-in-Some : goal.returns-in-Some
returns-in-Some c = record {
  left = c.halt.ensures.left ∙ member-stopped c.args.self.now.kept c.next_bundle.new.self c.in-Some.bundle c.in-Some.ensures.bundle c.in-Some.ensures.bundles;
}
