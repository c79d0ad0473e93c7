-- The texts so far are those of the names so far.
use Rattle.std.proofs.Common.{◌≡◌, take}
use Rattle.osgi_syntax.specs.Splitting.{texts_of}
use Rattle.osgi_syntax.proofs.names.texts.Given as goal

abbrev pub invariant-loop-name : goal.invariant-loop-name
invariant-loop-name l = l.texts ≡ texts_of (take l.name-index l.names)
