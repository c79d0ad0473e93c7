-- The words so far, and those of what is left, are those of the line.
use Rattle.std.proofs.Common.{◌≡◌, ◌++◌, length}
use Rattle.osgi_syntax.specs.Splitting.{texts_of, words_of}
use Rattle.osgi_syntax.proofs.words.all_words.Given as goal

abbrev pub invariant-loop-word : goal.invariant-loop-word
invariant-loop-word l = texts_of l.words.items ++ words_of l.rest ≡ words_of l.text

abbrev pub decreases-loop-word : goal.decreases-loop-word
decreases-loop-word l = length l.rest
