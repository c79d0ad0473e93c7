-- The parts that are collected are those of the split.
use Rattle.std.proofs.Common.{rules}
use Rattle.std.proofs.lemmas.Iterator.Consumers.{map_from_collect}
use Rattle.std.proofs.lemmas.Iterator.Splits.{YieldsList-from_slice_split}
use Rattle.osgi_syntax.specs.WordReader.{is_comma}
use Rattle.osgi_syntax.proofs.names.split_commas.Goals as goal

pub returns : goal.returns
returns c =
    record {
      names = map_from_collect _ c.collect.ensures.ran
          (YieldsList-from_slice_split _ is_comma c.args.word.now c.split.ensures.rest c.split.ensures.done c.split.ensures.closure (λ x b q h. search rules));
    }
