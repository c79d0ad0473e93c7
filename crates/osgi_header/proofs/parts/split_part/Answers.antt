-- The text begins with its first part.
use Rattle.std.proofs.Common.{arith}
use Rattle.osgi_base.specs.declared.parts.QuoteState.TheVariants.{Bare}
use Rattle.osgi_base.specs.laws.Scans.{part_len-within}
use Rattle.osgi_header.proofs.Splitting.{begins, behind_none, behind_some}
use Rattle.osgi_header.proofs.parts.split_part.Goals as goal

pub split_at-requires : goal.split_at-requires
split_at-requires c = omega (arith, c.part_len.ensures.len, part_len-within c.args.separator Bare c.args.text.now)

pub returns-in-empty : goal.returns-in-empty
returns-in-empty c = record {
  part =
      begins c.args.separator c.args.text.now c.split_at.result.0.now c.split_at.result.1.now _
      (rw (← c.part_len.ensures.len) c.split_at.ensures.front) (rw (← c.part_len.ensures.len) c.split_at.ensures.back)
      (behind_none c.split_at.result.1.now c.in-empty.len_below);
}

pub returns-in-len1-up : goal.returns-in-len1-up
returns-in-len1-up c = record {
  part =
      begins c.args.separator c.args.text.now c.split_at.result.0.now c.split_at.result.1.now _
      (rw (← c.part_len.ensures.len) c.split_at.ensures.front) (rw (← c.part_len.ensures.len) c.split_at.ensures.back)
      (behind_some c.split_at.result.1.now c.in-len1-up.len_at_least);
}
