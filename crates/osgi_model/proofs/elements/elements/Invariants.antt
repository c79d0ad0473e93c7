-- The elements so far, before those of what is left, are those of the text.
use Rattle.std.proofs.Common.{◌≡◌, ◌++◌, drop}
use Rattle.osgi_model.specs.computed.ValueReader.{elements_after, elements_of}
use Rattle.osgi_model.proofs.elements.elements.Given as goal

abbrev pub invariant-loop-b : goal.invariant-loop-b
invariant-loop-b l = l.elements ++ elements_after l.escaped l.element.items (drop l.b-index l.text) ≡ elements_of l.text
