-- The capabilities at the places so far are added.
use Rattle.osgi_candidates.specs.computed.Texts.{AddsTexts}
use Rattle.osgi_candidates.proofs.ByText.{IsTextBelow}
use Rattle.osgi_candidates.proofs.texts.TextIndex.add.Given as goal

abbrev pub invariant-loop-index : goal.invariant-loop-index
invariant-loop-index l = AddsTexts l.initial.self l.self (IsTextBelow l.known l.index)
