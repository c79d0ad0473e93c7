-- Each step up to the turn, and the machine taken out where it is had.
use Rattle.std.proofs.Common.{rules, ◌≡◌, ◌∷◌, ap, ◌∙◌, sym, refl, Some}
use Rattle.atomic_table.specs.Table.{rest}
use Rattle.osgi_hall.proofs.CallSteps.{draws, finds, took, waiting}
use Rattle.osgi_hall.proofs.hall.Hall.enter.Goals as goal

pub fetch_add-place-requires : goal.fetch_add-place-requires
fetch_add-place-requires g c = (search rules, search rules, draws _ _ _ _ _ _ _ c.requires.idle.0 (ap (λ m. m.0) c.requires.idle.1) c.requires.idle.2)

pub load-served-requires : goal.load-served-requires
load-served-requires g c = let drew = c.fetch_add-place.ensures.2 in (
  search rules,
  search rules,
  finds _ _ _ _ _ _ _ _ drew.0 (waiting _ _ _ _ _ c.requires.idle.1 drew.1 c.loop.invariant.2) refl,
)

pub exchange-requires : goal.exchange-requires
exchange-requires g c = let drew = c.fetch_add-place.ensures.2 in let served : c.load-served.result ≡ c.fetch_add-place.result = search rules in
    let t = took g.M.Machine.entries g.M.Machine.setting _ _ _ _ _ _ _ c.requires.idle.1 drew.1 c.loop.invariant.2 c.load-served.ensures.2.0 (served ∙ sym drew.2) in
    (search rules, (Some t.0, ap (λ m. m.1) t.1 ∙ ap (λ m. (0, Some t.0) ∷ rest m.1) (sym t.1)))
