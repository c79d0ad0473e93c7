-- What is read of the slot, at any default.
use Rattle.std.proofs.Common.{◌∙◌, ap}
use Rattle.std.proofs.lemmas.List.{get_or_default}
use Rattle.osgi_listeners.specs.computed.Kept.{open_place}
use Rattle.osgi_listeners.proofs.slots.open_place_at.Goals as goal

pub returns-then-at-slots-clause-within : goal.returns-then-at-slots-clause-within
returns-then-at-slots-clause-within c = λ d within.
    c.open_place.ensures.place
    ∙ ap (open_place c.args.turns.now.entries) (c.index-slots-at.is ∙ get_or_default c.args.slots.now c.args.at c.index-slots-at.result d within)
