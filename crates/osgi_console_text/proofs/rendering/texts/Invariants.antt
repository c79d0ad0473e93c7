-- The brackets, the active level and the texts are those of the entries so far, behind those of the peeks.
use Rattle.std.proofs.Common.{◌≡◌, take}
use Rattle.osgi_brackets.specs.Open.{StandsFor}
use Rattle.osgi_ops.specs.Levels.{active_level}
use Rattle.osgi_console_text.specs.computed.Texts.{AreTextsOf}
use Rattle.osgi_console_text.proofs.rendering.texts.Given as goal

abbrev pub invariant-loop-entry : goal.invariant-loop-entry
invariant-loop-entry l = record {
  stands : StandsFor (take l.entry-index l.entries) l.brackets;
  level : l.level ≡ active_level (take l.entry-index l.entries);
  texts : AreTextsOf (take l.entry-index l.entries) l.peeks l.texts;
}
