-- The ids so far, before those of the words that are left, are those of the words.
use Rattle.std.proofs.Common.{◌≡◌, ◌++◌, drop}
use Rattle.std.specs.Option.{option_map}
use Rattle.osgi_console.specs.computed.ArgumentReader.{bundle_ids_of}
use Rattle.osgi_syntax.specs.Splitting.{texts_of}
use Rattle.osgi_console.proofs.arguments.bundle_ids.Given as goal

abbrev pub invariant-loop-word : goal.invariant-loop-word
invariant-loop-word l = option_map (λ rest. l.ids ++ rest) (bundle_ids_of (texts_of (drop l.word-index l.words))) ≡ bundle_ids_of (texts_of l.words)
