-- The texts are those of the peeks so far.
use Rattle.std.proofs.Common.{[], take}
use Rattle.osgi_console_text.specs.computed.Texts.{AreTextsOf}
use Rattle.osgi_console_text.proofs.rendering.peeked.Given as goal

abbrev pub invariant-loop-peek : goal.invariant-loop-peek
invariant-loop-peek l = record { texts : AreTextsOf [] (take l.peek-index l.peeks) l.texts }
