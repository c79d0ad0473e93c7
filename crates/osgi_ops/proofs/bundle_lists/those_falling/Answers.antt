-- The bundles of the numbers, sorted, without repeats and turned round.
use Rattle.std.proofs.Common.{ap, ◌∙◌, map}
use Rattle.osgi_ops.specs.computed.Numbered.{numbered}
use Rattle.osgi_ops.proofs.Numbered.{falling-those}
use Rattle.osgi_ops.proofs.bundle_lists.those_falling.Goals as goal

pub returns : goal.returns
returns c = record {
  those = falling-those c.args.numbers.items c.rising-falling.result.items c.reverse.new.self.items c.from.result c.rising-falling.ensures.rising
      c.reverse.ensures.items (c.from.ensures ∙ c.in_ok-bundles_of.ensures.bundles ∙ ap (map numbered) c.as_slice.ensures.value) c.rising-falling.ensures.same;
}
