-- After the spaces at the start stands the first word, where any does.
use Rattle.std.proofs.Common.{◌≢◌, ◌<◌, length, ◌∙◌, sym, ap, arith}
use Rattle.std.proofs.lemmas.Bool.{eqb-false, eqb-true}
use Rattle.osgi_base.specs.declared.parts.QuoteState.TheVariants.{Bare}
use Rattle.osgi_syntax.specs.Splitting.{after_spaces}
use Rattle.osgi_base.specs.laws.Scans.{part_len-within}
use Rattle.osgi_syntax.specs.laws.Splitting.{begins, no_word}
use Rattle.osgi_syntax.proofs.words.split_word.Goals as goal

pub returns-then-is_empty : goal.returns-then-is_empty
returns-then-is_empty c =
    let none = eqb-true (length c.skip_spaces-text.result.now) 0 (sym c.is_empty.ensures ∙ c.if-is_empty.true) in
    record { words = no_word c.args.text.now (ap length (sym c.skip_spaces-text.ensures.rest) ∙ none) }

pub split_at-requires : goal.split_at-requires
split_at-requires c = omega (arith, c.part_len.ensures.len, part_len-within 32 Bare c.skip_spaces-text.result.now)

pub returns : goal.returns
returns c =
    let other : length c.skip_spaces-text.result.now ≢ 0
    = eqb-false (length c.skip_spaces-text.result.now) 0 (sym c.is_empty.ensures ∙ c.if-is_empty.false) in
    let some : 0 < length (after_spaces c.args.text.now) = omega (arith, other, ap length c.skip_spaces-text.ensures.rest) in
    record {
      words = rw (c.split_at.ensures.front, c.split_at.ensures.back, c.part_len.ensures.len, c.skip_spaces-text.ensures.rest)
          (begins c.args.text.now some);
    }
