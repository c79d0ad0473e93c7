-- The event that is to be handed next was handed, and its bracket is open.
use Rattle.std.proofs.Common.{◌≡◌, ◌-◌, ap, subst}
use Rattle.osgi_listeners.specs.Rows.{AnswersHand, IsHanded, Listening, rows_after, turns_after}
use Rattle.osgi_listeners.specs.laws.Handing.{handed_once}
use Rattle.osgi_tables.proofs.Called.{opened_is, turned_is}
use Rattle.osgi_tables.proofs.tables.Tables.hand.Goals as goal

pub returns-clause-handed : goal.returns-clause-handed
returns-clause-handed c =
    let old = c.args.self.now.listeners in
    let given = c.requires.possible in
    let handed : IsHanded old c.in-Handed.listener c.in-Handed.event = subst (AnswersHand old) c.in-Handed.is c.in_ok-listener.ensures.answer in
    let rows = subst (λ a. c.hand.new.self.rows ≡ rows_after a old.rows) c.in-Handed.is c.in_ok-listener.ensures.rows in
    let turns = subst (λ a. c.hand.new.self.turns ≡ turns_after c.args.tag a old.turns) c.in-Handed.is c.in_ok-listener.ensures.turns in
    let same = (handed_once old c.in-Handed.listener c.args.listener c.in-Handed.event given.event c.hand.ensures.in_order handed given.next).0 in
    let all = turned_is old c.hand.new.self c.args.tag c.args.listener c.in-Handed.listener given.event c.in-Handed.event c.hand.ensures.in_order given.next handed rows turns c.hand.ensures.issued in
    record {
      brackets = c.push.new.self;
      opened = opened_is c.args.self.now.brackets c.reserve.new.self c.push.new.self c.args.tag c.args.listener c.in-Handed.listener c.reserve.ensures.unchanged c.in-Ok.ensures.opened same;
      is = ap (λ (l : Listening). record c.args.self.now { brackets = c.push.new.self; listeners = l; handings_left = c.args.self.now.handings_left - 1 }) all;
    }
