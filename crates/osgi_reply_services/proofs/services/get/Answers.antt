-- One use more, and a service that is not live.
use Rattle.std.proofs.Common.{refl}
use Rattle.osgi_reply_services.proofs.Deciding.{decided_got, decided_ungotten}
use Rattle.osgi_reply_services.proofs.services.get.Goals as goal

pub returns-in_default : goal.returns-in_default
returns-in_default c = record { decided = decided_ungotten c.args.user c.args.service c.args.registry.now c.in_default.ensures.object; unopened = refl }

pub returns : goal.returns
returns c = record {
  decided = rw c.in_ok-text.ensures.same (decided_got c.args.user c.args.service c.args.registry.now c.in-Some.object.now c.in-Some.ensures.object c.requires.countable);
  unopened = refl;
}
