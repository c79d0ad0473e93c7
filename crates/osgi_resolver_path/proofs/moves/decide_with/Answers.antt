-- The decision is made with who joins.
use Rattle.std.proofs.Common.{Ok, Err}
use Rattle.std.specs.Prelude.{OnOk}
use Rattle.osgi_resolver_path.specs.computed.Nexts.{IsDecidedBy, IsDecidedWith}
use Rattle.osgi_resolver_path.proofs.Deciding.{with-joined}
use Rattle.osgi_resolver_path.proofs.moves.decide_with.Goals as goal

pub returns-else-is_err-clause-decided : goal.returns-else-is_err-clause-decided
returns-else-is_err-clause-decided c =
    let offers = c.args.lists.now.offers in
    let old = c.args.course.now in
    let new = c.decide-decided.new.course in
    let there = with-joined offers old c.join.new.course new c.args.mark c.args.joining c.in_ok-join.ensures.joined c.in_ok-join.ensures.marks in
    elim c.decide-decided.result as (λ r. OnOk r (IsDecidedBy offers c.join.new.course new c.args.mark) → OnOk r (IsDecidedWith offers old new c.args.mark c.args.joining)) [
      | Ok x ↦ there
      | Err e ↦ λ x. x
    ] c.decide-decided.ensures.decided
