-- The requirements of the known revisions so far have rows, where they can be asked.
use Rattle.std.proofs.Common.{take}
use Rattle.osgi_candidates.specs.computed.Choices.{AddsChoices}
use Rattle.osgi_candidates.specs.computed.Fitting.{IsFit}
use Rattle.osgi_candidates.proofs.Posed.{requirements_of_some}
use Rattle.osgi_candidates.proofs.choices.choices_in.Given as goal

abbrev pub invariant-loop-known : goal.invariant-loop-known
invariant-loop-known l = IsFit l.world → AddsChoices l.world (requirements_of_some l.world (take l.known-index l.known-items)) l.initial.choices l.choices
