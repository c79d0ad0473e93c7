-- The machine is back at the close, since no other pass is out.
use Rattle.std.proofs.Common.{rules, ◌≡◌, ◌∙◌, ap, sym, Some}
use Rattle.osgi_hall.proofs.PassSteps.{closing}
use Rattle.osgi_hall.proofs.hall.Hall.close.Goals as goal

some_is : {A : Type 0} (a b : A) → Some a ≡ Some b → a ≡ b
some_is a b e = cc

pub unreachable-requires : goal.unreachable-requires
unreachable-requires g c = let none_out : c.args.pass.out ≡ 0 = search rules in
    let i = c.pass.invariant in let f = closing g.M.Machine.entries g.M.Machine.setting g.M.Machine.can_make _ _ _ _ _ _ c.pass.view_is i.1 i.2 c.requires.first none_out _ _ c.close_with-closed.ensures.values.2 c.take-slot.result c.take-slot.ensures.value in
    c.in_default.not-Some f.0 f.1

pub returns-clause-setting : goal.returns-clause-setting
returns-clause-setting g c = let none_out : c.args.pass.out ≡ 0 = search rules in
    let i = c.pass.invariant in let f = closing g.M.Machine.entries g.M.Machine.setting g.M.Machine.can_make _ _ _ _ _ _ c.pass.view_is i.1 i.2 c.requires.first none_out _ _ c.close_with-closed.ensures.values.2 c.take-slot.result c.take-slot.ensures.value in
    let is : f.0 ≡ c.in-Some.machine = some_is f.0 c.in-Some.machine (sym f.1 ∙ c.in-Some.is) in
    ap g.M.Machine.setting (sym is) ∙ (f.3 ∙ ap (λ h. h.setting) c.self.view_is)

pub returns-clause-history : goal.returns-clause-history
returns-clause-history g c = let none_out : c.args.pass.out ≡ 0 = search rules in
    let i = c.pass.invariant in let f = closing g.M.Machine.entries g.M.Machine.setting g.M.Machine.can_make _ _ _ _ _ _ c.pass.view_is i.1 i.2 c.requires.first none_out _ _ c.close_with-closed.ensures.values.2 c.take-slot.result c.take-slot.ensures.value in
    let is : f.0 ≡ c.in-Some.machine = some_is f.0 c.in-Some.machine (sym f.1 ∙ c.in-Some.is) in
    ap g.M.Machine.entries (sym is) ∙ f.2

pub returns-clause-callers : goal.returns-clause-callers
returns-clause-callers g c = let none_out : c.args.pass.out ≡ 0 = search rules in
    let i = c.pass.invariant in let f = closing g.M.Machine.entries g.M.Machine.setting g.M.Machine.can_make _ _ _ _ _ _ c.pass.view_is i.1 i.2 c.requires.first none_out _ _ c.close_with-closed.ensures.values.2 c.take-slot.result c.take-slot.ensures.value in
    f.4
