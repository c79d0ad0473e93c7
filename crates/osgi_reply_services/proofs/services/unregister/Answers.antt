-- A service that may be taken out, and a refusal.
use Rattle.osgi_reply_services.proofs.Deciding.{decided_taken, decided_untaken}
use Rattle.osgi_reply_services.proofs.services.unregister.Goals as goal

pub returns-in-Some : goal.returns-in-Some
returns-in-Some c = record { decided = decided_untaken c.args.owner c.args.service c.args.registry.now c.in-Some.refusal c.in-Some.ensures.refusal }

pub returns-in-None : goal.returns-in-None
returns-in-None c = record { decided = decided_taken c.args.owner c.args.service c.args.registry.now c.in-None.ensures.refusal }
