-- The values so far are added.
use Rattle.std.proofs.Common.{take}
use Rattle.osgi_candidates.specs.computed.Texts.{AddsTexts, IsSomeValue}
use Rattle.osgi_candidates.proofs.texts.TextIndex.add_elements.Given as goal

abbrev pub invariant-loop-value : goal.invariant-loop-value
invariant-loop-value l = AddsTexts l.initial.self l.self (IsSomeValue l.place l.name l.attribute (take l.value-index l.values))
