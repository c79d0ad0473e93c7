-- One listener more is told, and what came of all.
use Rattle.std.proofs.Common.{◌≡◌, ◌<◌, get_or, length, ap, subst, sym, ◌∙◌, arith}
use Rattle.osgi_listeners.specs.Rows.{Accepts, Listening, Row}
use Rattle.osgi_listeners.specs.declared.row.ListenerRow.{ListenerRow}
use Rattle.osgi_listeners.specs.laws.Ids.{ids_rise}
use Rattle.osgi_listeners.proofs.Posting.{later_still, listener_there, long, posted_all, posted_more, posted_nothing, room_all, said_still}
use Rattle.osgi_listeners.proofs.listeners.Listeners.post.Goals as goal
use Rattle.osgi_listeners.proofs.listeners.Listeners.post.Goals.{in-Some, in_default}

pub deliver-requires-clause-accepts : goal.deliver-requires-clause-accepts
deliver-requires-clause-accepts g c =
    let rows = c.loop-at.self.rows in
    let within : c.loop-at.at < length rows = subst (λ n. c.loop-at.at < n) (c.count-count.ensures.count ∙ sym (long _ rows c.loop-at.invariant.same)) c.loop-at-test.true in
    let later = later_still c.args.place _ _ c.reserve.ensures.roomier.rows c.requires.later in
    said_still _ _ _ c.loop-at.self c.loop-at.at within c.at.result.now.listener (λ d. ap (λ (l : ListenerRow). l.listener) (listener_there rows c.loop-at.at c.at.result.now within c.at.ensures.listener d)) c.loop-at.invariant
    (Accepts c.args.place) (ids_rise rows c.at.ensures.in_order.listeners.rising) (λ k d inside. (c.in_ok-reserve.ensures.room k d inside, later k d inside))

pub loop-at-preserved : goal.loop-at-preserved
loop-at-preserved g c =
    let rows = c.loop-at.self.rows in
    let within : c.loop-at.at < length rows = subst (λ n. c.loop-at.at < n) (c.count-count.ensures.count ∙ sym (long _ rows c.loop-at.invariant.same)) c.loop-at-test.true in
    let is : (d : Row) → (get_or rows c.loop-at.at d).listener.listener ≡ c.at.result.now.listener = λ d. ap (λ (l : ListenerRow). l.listener) (listener_there rows c.loop-at.at c.at.result.now within c.at.ensures.listener d) in
    elim c.match-sees.branch [
      | in-Some w ↦ posted_more _ _ _ c.loop-at.self c.loop-at.at within c.at.result.now.listener is c.loop-at.invariant w.in-Some.event c.match-sees.self (ids_rise rows c.at.ensures.in_order.listeners.rising) w.in-Some.ensures
          (ap (λ (l : Listening). l.rows) w.self-is ∙ w.deliver.ensures.rows) (ap (λ (l : Listening). l.turns) w.self-is ∙ w.deliver.ensures.turns) (ap (λ (l : Listening). l.issued) w.self-is ∙ w.deliver.ensures.issued)
      | in_default w ↦ posted_nothing _ _ _ c.loop-at.self c.loop-at.at within c.at.result.now.listener is c.loop-at.invariant c.match-sees.self w.in_default.ensures w.self-is
    ]

pub returns-clause-posted : goal.returns-clause-posted
returns-clause-posted g c = posted_all _ _ _ _ c.loop-at.self c.loop-at.at c.in_ok-reserve.ensures.roomier (omega (arith, c.count-count.ensures.count, c.loop-at-test.false)) c.loop-at.invariant

pub returns-clause-room : goal.returns-clause-room
returns-clause-room g c = room_all _ _ _ _ c.loop-at.self c.loop-at.at c.in_ok-reserve.ensures.roomier (omega (arith, c.count-count.ensures.count, c.loop-at-test.false)) c.loop-at.invariant
