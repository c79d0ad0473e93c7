-- The requirements at the places so far have rows, where they can be asked.
use Rattle.std.proofs.Common.{◌≡◌}
use Rattle.std.specs.Prelude.{Some}
use Rattle.osgi_candidates.specs.computed.Choices.{AddsChoices}
use Rattle.osgi_candidates.specs.computed.Fitting.{IsFit}
use Rattle.osgi_candidates.proofs.Posed.{first_requirements}
use Rattle.osgi_world.specs.Lookups.{known_at}
use Rattle.osgi_candidates.proofs.choices.add_choices.Given as goal

abbrev pub invariant-loop-index : goal.invariant-loop-index
invariant-loop-index l = IsFit l.offers → known_at l.offers.known l.known.id ≡ Some l.known → AddsChoices l.offers (first_requirements l.offers l.known.id l.index) l.initial.choices l.choices
