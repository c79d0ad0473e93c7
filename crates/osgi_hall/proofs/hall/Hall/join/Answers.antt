-- The rule stays when caller 0 takes another in, and a look shows what it then knows.
use Rattle.std.proofs.Common.{rules, ◌≡◌, ◌∙◌, ap}
use Rattle.osgi_hall.specs.computed.Steps.{joining}
use Rattle.osgi_hall.proofs.PassSteps.{joins_at, looks}
use Rattle.osgi_hall.proofs.Calling.{is_shown}
use Rattle.osgi_hall.proofs.hall.Hall.join.Goals as goal

pub join_seat-requires : goal.join_seat-requires
join_seat-requires g c = let i = c.pass.invariant in let k = i.0 in let k_is = is_shown _ _ _ k c.pass.view_is i.1 in let e = c.ended.invariant in
    let zero_is : k.caller ≡ 0 = ap (λ p. p.caller) k_is ∙ c.requires.first in
    (search rules, search rules, ap (λ m. m.1) e.1, search rules, joins_at _ _ _ _ _ _ _ _ k e.0 (ap (λ m. m.0) i.1) (ap (λ m. m.0) e.1) zero_is e.2)

pub load-requires : goal.load-requires
load-requires g c = let i = c.pass.invariant in let k = i.0 in let e = c.ended.invariant in
    (search rules, search rules, looks _ _ _ _ _ _ _ _ (ap (λ m. m.0) c.join_seat.ensures.2 ∙ (λ j. joining (i.1 j).0 (e.1 j).0)) i.2)
