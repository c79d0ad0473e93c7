-- The candidate at the place.
use Rattle.std.proofs.Common.{◌∷◌, [], map, sym, ap, ◌∙◌}
use Rattle.osgi_world.specs.Decisions.{wired_to}
use Rattle.osgi_resolver_path.proofs.Entries.{item-none, item-some}
use Rattle.osgi_resolver_path.proofs.step.chosen.Goals as goal

pub returns-in-Some : goal.returns-in-Some
returns-in-Some c = record {
  step = ap (λ s. s ∷ []) c.wired.ensures.wired ∙ sym (ap (map (wired_to c.args.host c.args.requirement)) (item-some c.args.candidates.now c.args.value c.in-Some.capability (sym c.in-Some.ensures.candidate)));
}

pub returns-in-None : goal.returns-in-None
returns-in-None c = record {
  step = sym (ap (map (wired_to c.args.host c.args.requirement)) (item-none c.args.candidates.now c.args.value (sym c.in-None.ensures.candidate)));
}
