-- The lines from the index on begin with those of one header.
use Rattle.osgi_header.proofs.Grouping.{begins_group, count_within}
use Rattle.osgi_header.proofs.unfolding.header_lines.Goals as goal

pub split_at-requires-2 : goal.split_at-requires-2
split_at-requires-2 c = count_within _ c.continued.result c.continued.ensures.count

pub returns : goal.returns
returns c = record {
  header =
      rw c.split_at-2.ensures.front
      (begins_group c.args.lines.now c.split_at.result.1.now c.args.start c.continued.result _ c.requires.within c.split_at.ensures.back c.in-len1-up.len_at_least
      c.continued.ensures.count);
}
