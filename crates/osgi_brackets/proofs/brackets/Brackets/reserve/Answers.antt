-- The caller has room, and each caller its brackets.
use Rattle.std.proofs.Common.{ap, arith, ◌∙◌}
use Rattle.osgi_brackets.proofs.Kept.{on-some, room-after, shown, shown-by, shown-kept}
use Rattle.osgi_brackets.proofs.brackets.Brackets.reserve.Goals as goal

pub returns-in_err-reserve-clause-unchanged : goal.returns-in_err-reserve-clause-unchanged
returns-in_err-reserve-clause-unchanged c =
    shown-kept c.args.self.now.callers (c.get_mut.follows.lender c.reserve.new.self) c.args.caller c.in-Some.own.now c.reserve.new.self
    (on-some _ _ _ c.in-Some.is (c.get_mut.follows.holds c.reserve.new.self))
    (shown-by c.args.caller c.in-Some.own.now.items c.reserve.new.self.items c.reserve.ensures.items ∙ ap (shown c.args.caller) c.in-Some.ensures.value)

pub returns-in-Some-clause-room : goal.returns-in-Some-clause-room
returns-in-Some-clause-room c =
    room-after c.args.self.now.callers (c.get_mut.follows.lender c.reserve.new.self) c.args.caller c.reserve.new.self
    (on-some _ _ _ c.in-Some.is (c.get_mut.follows.holds c.reserve.new.self))
    (omega (arith, c.in_ok-reserve.ensures.ok))

pub returns-in-Some-clause-unchanged : goal.returns-in-Some-clause-unchanged
returns-in-Some-clause-unchanged c =
    shown-kept c.args.self.now.callers (c.get_mut.follows.lender c.reserve.new.self) c.args.caller c.in-Some.own.now c.reserve.new.self
    (on-some _ _ _ c.in-Some.is (c.get_mut.follows.holds c.reserve.new.self))
    (shown-by c.args.caller c.in-Some.own.now.items c.reserve.new.self.items c.reserve.ensures.items ∙ ap (shown c.args.caller) c.in-Some.ensures.value)
