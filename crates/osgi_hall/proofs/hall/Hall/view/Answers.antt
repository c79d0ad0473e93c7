-- What the pass knows after a turn that adds nothing.
use Rattle.std.proofs.Common.{◌≡◌, ◌∙◌, ap, sym, refl, []}
use Rattle.std.proofs.lemmas.List.{append-nil}
use Rattle.osgi_hall.specs.declared.board.View.TheVariants.{Live}
use Rattle.osgi_hall.proofs.Calling.{Grown, ends_as, legal_after, after, legal_on, may_leave, views_on}
use Rattle.osgi_hall.proofs.hall.Hall.view.Goals as goal

pub invariant_of-pass : goal.invariant_of-pass
invariant_of-pass g c = let i = c.pass.invariant in let k = i.0 in let x = c.enter-machine.result in let x' = c.view-answer.new.self in let v = c.pass.inside.seat.me.0 in
    let is : v ≡ Live k = ap (λ m. m.0) i.1 in let turn = c.enter-machine.ensures.turn in
    let grown : Grown k.caller (g.M.Machine.entries x) (g.M.Machine.entries x') = ([], c.view-answer.ensures.entries ∙ sym (append-nil (g.M.Machine.entries x)), tt) in (
      after g.M.Machine.entries g.M.Machine.setting k x x',
      ends_as g.M.Machine.entries g.M.Machine.setting k v x x' _ _ is turn c.leave.ensures.told,
      refl,
      i.3,
      i.4,
      i.5,
      legal_after g.M.Machine.entries g.M.Machine.setting g.M.Machine.can_make k v x x' is turn.2 c.view-answer.ensures.setting c.leave.ensures.made grown,
      i.7,
      i.8,
    )

pub returns-clause-legal : goal.returns-clause-legal
returns-clause-legal g c = let i = c.pass.invariant in let k = i.0 in let x = c.enter-machine.result in let x' = c.view-answer.new.self in let v = c.pass.inside.seat.me.0 in
    let is : v ≡ Live k = ap (λ m. m.0) i.1 in let turn = c.enter-machine.ensures.turn in
    let grown : Grown k.caller (g.M.Machine.entries x) (g.M.Machine.entries x') = ([], c.view-answer.ensures.entries ∙ sym (append-nil (g.M.Machine.entries x)), tt) in
    legal_on g.M.Machine.can_make _ _ (after g.M.Machine.entries g.M.Machine.setting k x x') (ends_as g.M.Machine.entries g.M.Machine.setting k v x x' _ _ is turn c.leave.ensures.told)
    (legal_after g.M.Machine.entries g.M.Machine.setting g.M.Machine.can_make k v x x' is turn.2 c.view-answer.ensures.setting c.leave.ensures.made grown)

pub returns-clause-seen : goal.returns-clause-seen
returns-clause-seen g c = let i = c.pass.invariant in let k = i.0 in let x = c.enter-machine.result in let x' = c.view-answer.new.self in let v = c.pass.inside.seat.me.0 in
    let is : v ≡ Live k = ap (λ m. m.0) i.1 in let turn = c.enter-machine.ensures.turn in
    views_on g.M.Machine.entries g.M.Machine.setting c.args.pass.now c.pass.inside.seat.table_id _ _ _ k v x x' c.pass.view_is i.1 is turn.2 c.view-answer.ensures.entries
    (ends_as g.M.Machine.entries g.M.Machine.setting k v x x' _ _ is turn c.leave.ensures.told)

pub leave-requires-clause-turn : goal.leave-requires-clause-turn
leave-requires-clause-turn g c = let i = c.pass.invariant in let k = i.0 in let x = c.enter-machine.result in let x' = c.view-answer.new.self in let v = c.pass.inside.seat.me.0 in
    let is : v ≡ Live k = ap (λ m. m.0) i.1 in let turn = c.enter-machine.ensures.turn in
    let grown : Grown k.caller (g.M.Machine.entries x) (g.M.Machine.entries x') = ([], c.view-answer.ensures.entries ∙ sym (append-nil (g.M.Machine.entries x)), tt) in
    may_leave g.M.Machine.entries g.M.Machine.setting k v x x' _ is turn c.view-answer.ensures.setting grown
