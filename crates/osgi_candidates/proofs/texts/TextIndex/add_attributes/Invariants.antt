-- The attributes so far are added.
use Rattle.std.proofs.Common.{take}
use Rattle.osgi_candidates.specs.computed.Texts.{AddsTexts, IsSomeText}
use Rattle.osgi_candidates.proofs.texts.TextIndex.add_attributes.Given as goal

abbrev pub invariant-loop-attribute : goal.invariant-loop-attribute
invariant-loop-attribute l = AddsTexts l.initial.self l.self (IsSomeText l.place l.name (take l.attribute-index l.attributes))
