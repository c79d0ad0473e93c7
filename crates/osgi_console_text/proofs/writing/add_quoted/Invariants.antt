-- The text so far, and that of the bytes that are left.
use Rattle.std.proofs.Common.{◌≡◌, ◌++◌, drop, map}
use Rattle.std.specs.List.{concat}
use Rattle.osgi_console_text.proofs.Parts.{escaped}
use Rattle.osgi_console_text.proofs.writing.add_quoted.Given as goal

abbrev pub invariant-loop-byte : goal.invariant-loop-byte
invariant-loop-byte l =
    l.out.items ++ concat (map escaped (drop l.byte-index l.text)) ≡ l.initial.out.items ++ concat (map escaped l.text)
