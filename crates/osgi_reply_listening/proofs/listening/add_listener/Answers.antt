-- It is refused by what the listeners say, or added under the next id.
use Rattle.std.proofs.Common.{sym}
use Rattle.osgi_reply_listening.proofs.Listeners.{add_refused, decided_added}
use Rattle.osgi_reply_listening.proofs.listening.add_listener.Goals as goal

pub returns-in-Some : goal.returns-in-Some
returns-in-Some c = record { decided = add_refused c.args.tables.now c.args.owner c.args.name.now c.args.kind c.args.filter.now c.requires.asker c.in-Some.refusal (sym c.in-Some.ensures.refusal) }

pub returns : goal.returns
returns c = record {
  decided = decided_added c.args.tables.now c.args.owner c.args.name.now c.args.kind c.args.filter.now c.requires.asker (sym c.in_default.ensures.refusal) c.requires.room.listeners c.next_id-listener.result c.next_id-listener.ensures.id c.in_ok-name.name c.in_ok-name.filter c.in_ok-name.ensures.same;
}
