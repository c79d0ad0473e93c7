-- The texts so far were seen.
use Rattle.std.proofs.Common.{◌++◌, ℕ, List, take}
use Rattle.osgi_package.specs.computed.ImportReader.{AreSeen}
use Rattle.osgi_package.proofs.distinct.add_texts.Given as goal

abbrev pub invariant-loop-text : goal.invariant-loop-text
invariant-loop-text l = (before : List (List ℕ)) → AreSeen l.initial.seen before → AreSeen l.seen (before ++ take l.text-index l.texts)
