-- Whether there was one is what the listeners say.
use Rattle.osgi_reply_listening.proofs.Listeners.{decided_removed}
use Rattle.osgi_reply_listening.proofs.listening.remove_listener.Goals as goal

pub returns : goal.returns
returns c = record { decided = decided_removed c.args.tables.now c.args.owner c.args.name.now c.requires.asker c.has-value.result c.in_ok-copy.field-0 c.has-value.ensures.has c.in_ok-copy.ensures.same }
