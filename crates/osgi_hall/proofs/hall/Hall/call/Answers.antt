-- What the pass knows after a turn, and that this is what a call promises.
use Rattle.std.proofs.Common.{◌≡◌, ◌∙◌, ap, sym, refl, subst, [], ◌∷◌}
use Rattle.osgi_hall.specs.Histories.{BeginsWith, IsApplied}
use Rattle.osgi_hall.specs.computed.Shown.{pass_view}
use Rattle.osgi_hall.specs.computed.Steps.{Knows}
use Rattle.osgi_hall.specs.declared.board.View.TheVariants.{Live}
use Rattle.osgi_hall.proofs.Calling.{hint_kept, is_shown, grown_by, ends_as, legal_after, called_after, after, called_on, legal_on, may_leave}
use Rattle.osgi_hall.proofs.hall.Hall.call.Goals as goal

pub invariant_of-pass : goal.invariant_of-pass
invariant_of-pass g c = let i = c.pass.invariant in let k = i.0 in let x = c.enter-machine.result in let x' = c.apply-answer.new.self in let v = c.pass.inside.seat.me.0 in
    let is : v ≡ Live k = ap (λ m. m.0) i.1 in let turn = c.enter-machine.ensures.turn in
    let grown = grown_by g.M.Machine.entries g.M.Machine.setting g.M.Machine.is_recorded (g.M.Machine.gives (g.M.Machine.setting x)) k _ _ x x' c.args.op c.apply-answer.result i.3 c.apply-answer.ensures.applied in (
      after g.M.Machine.entries g.M.Machine.setting k x x',
      ends_as g.M.Machine.entries g.M.Machine.setting k v x x' _ _ is turn c.leave.ensures.told,
      refl,
      i.3,
      i.4,
      i.5,
      legal_after g.M.Machine.entries g.M.Machine.setting g.M.Machine.can_make k v x x' is turn.2 c.apply-answer.ensures.setting c.leave.ensures.made grown,
      i.7,
      i.8,
    )

pub returns-clause-legal : goal.returns-clause-legal
returns-clause-legal g c = let i = c.pass.invariant in let k = i.0 in let x = c.enter-machine.result in let x' = c.apply-answer.new.self in let v = c.pass.inside.seat.me.0 in
    let is : v ≡ Live k = ap (λ m. m.0) i.1 in let turn = c.enter-machine.ensures.turn in
    let grown = grown_by g.M.Machine.entries g.M.Machine.setting g.M.Machine.is_recorded (g.M.Machine.gives (g.M.Machine.setting x)) k _ _ x x' c.args.op c.apply-answer.result i.3 c.apply-answer.ensures.applied in
    legal_on g.M.Machine.can_make _ _ (after g.M.Machine.entries g.M.Machine.setting k x x') (ends_as g.M.Machine.entries g.M.Machine.setting k v x x' _ _ is turn c.leave.ensures.told)
    (legal_after g.M.Machine.entries g.M.Machine.setting g.M.Machine.can_make k v x x' is turn.2 c.apply-answer.ensures.setting c.leave.ensures.made grown)

pub returns-clause-call : goal.returns-clause-call
returns-clause-call g c = let i = c.pass.invariant in let k = i.0 in let x = c.enter-machine.result in let x' = c.apply-answer.new.self in let v = c.pass.inside.seat.me.0 in
    let is : v ≡ Live k = ap (λ m. m.0) i.1 in let turn = c.enter-machine.ensures.turn in
    let of_hall : k.setting ≡ c.args.self.now.setting ∷ [] = ap (λ y. (pass_view c.pass.inside.seat.table_id y).setting) (sym is) ∙ (ap (λ p. p.setting) c.pass.view_is ∙ c.requires.hall.1) in
    called_on g.M.Machine.is_recorded (g.M.Machine.gives c.args.self.now.setting) c.args.pass.now c.pass.inside.seat.table_id _ _ _ k (after g.M.Machine.entries g.M.Machine.setting k x x') c.args.command c.args.op c.apply-answer.result c.pass.view_is i.1
    (c.leave.ensures.seat.0 ∙ c.enter-machine.ensures.seat.0)
    (ends_as g.M.Machine.entries g.M.Machine.setting k v x x' _ _ is turn c.leave.ensures.told)
    (called_after g.M.Machine.entries g.M.Machine.setting g.M.Machine.is_recorded g.M.Machine.gives c.pass.inside.seat.table_id c.args.self.now.setting k v x x' c.args.command c.args.op c.apply-answer.result is of_hall turn.2
    (subst (λ n. IsApplied g.M.Machine.is_recorded (g.M.Machine.gives (g.M.Machine.setting x)) (g.M.Machine.entries x) (g.M.Machine.entries x') record { caller = n; command = c.args.command } c.args.op c.apply-answer.result) (sym i.3) c.apply-answer.ensures.applied))

pub leave-requires-clause-turn : goal.leave-requires-clause-turn
leave-requires-clause-turn g c = let i = c.pass.invariant in let k = i.0 in let x = c.enter-machine.result in let x' = c.apply-answer.new.self in let v = c.pass.inside.seat.me.0 in
    let is : v ≡ Live k = ap (λ m. m.0) i.1 in let turn = c.enter-machine.ensures.turn in
    let grown = grown_by g.M.Machine.entries g.M.Machine.setting g.M.Machine.is_recorded (g.M.Machine.gives (g.M.Machine.setting x)) k _ _ x x' c.args.op c.apply-answer.result i.3 c.apply-answer.ensures.applied in
    may_leave g.M.Machine.entries g.M.Machine.setting k v x x' _ is turn c.apply-answer.ensures.setting grown

pub apply-answer-requires : goal.apply-answer-requires
apply-answer-requires g c = let i = c.pass.invariant in let k = i.0 in let x = c.enter-machine.result in let v = c.pass.inside.seat.me.0 in
    let is : v ≡ Live k = ap (λ m. m.0) i.1 in let turn = c.enter-machine.ensures.turn in
    let knows = subst (λ y. Knows g.M.Machine.entries g.M.Machine.setting y x) is turn.2 in
    let shown : pass_view c.pass.inside.seat.table_id (Live k) ≡ c.args.pass.now = is_shown c.args.pass.now c.pass.inside.seat.table_id _ k c.pass.view_is i.1 in
    let of_hall : k.setting ≡ c.args.self.now.setting ∷ [] = ap (λ p. p.setting) shown ∙ c.requires.hall.1 in
    let grown = subst (BeginsWith (g.M.Machine.entries x)) (ap (λ p. p.seen) shown) knows.1 in
    record { hint = hint_kept g.M.Machine.hints c.args.self.now.setting k.setting (g.M.Machine.setting x) c.args.pass.now.seen (g.M.Machine.entries x) c.args.hint of_hall knows.0 grown c.requires.hint }
