-- The parts so far are what was read of the lines before those that are left.
use Rattle.std.proofs.Common.{◌≡◌, ◌≤◌, ◌+◌, length}
use Rattle.std.specs.Str.Lines.{lines}
use Rattle.osgi_script.specs.computed.ScriptReader.{AreTaken, script_from, script_of}
use Rattle.osgi_script.proofs.script_text.read.Given as goal

abbrev pub invariant-loop-text : goal.invariant-loop-text
invariant-loop-text l = record {
  number : l.line + length l.rest ≤ length l.bytes;
  read : script_from l.line l.parts.items (lines l.rest) ≡ script_of (lines l.bytes);
  taken : AreTaken l.taken l.parts.items;
}

abbrev pub decreases-loop-text : goal.decreases-loop-text
decreases-loop-text l = length l.rest
