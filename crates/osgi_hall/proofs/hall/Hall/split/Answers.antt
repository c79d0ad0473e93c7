-- The rule stays when caller 0 makes another, and a look shows what the new one knows.
use Rattle.std.proofs.Common.{rules, arith, ◌≡◌, ◌+◌, ◌<◌, ◌^◌, ◌∙◌, ap, refl}
use Rattle.osgi_hall.specs.computed.Steps.{newcomer}
use Rattle.osgi_hall.proofs.PassSteps.{splits_at, looks}
use Rattle.osgi_hall.proofs.Calling.{is_shown}
use Rattle.osgi_hall.proofs.hall.Hall.split.Goals as goal

pub split_seat-seat-requires : goal.split_seat-seat-requires
split_seat-seat-requires g c = let i = c.pass.invariant in let k = i.0 in let k_is = is_shown _ _ _ k c.pass.view_is i.1 in
    let zero_is : k.caller ≡ 0 = ap (λ p. p.caller) k_is ∙ c.requires.first.0 in
    let made_is : k.made ≡ c.args.pass.now.made = ap (λ p. p.made) k_is in
    let few : k.made + 1 < 2 ^ 32 = let r = c.requires.first.1 in omega arith in
    (search rules, search rules, splits_at _ _ _ _ _ _ k (ap (λ m. m.0) i.1) zero_is few)

pub load-requires : goal.load-requires
load-requires g c = let i = c.pass.invariant in let k = i.0 in
    (search rules, search rules, looks _ _ _ _ _ _ _ _ (ap (λ m. m.0) c.split_seat-seat.ensures.4 ∙ ap (λ m. newcomer m.0) i.1) refl)
