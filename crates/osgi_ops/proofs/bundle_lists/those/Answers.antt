-- The bundles of the numbers, sorted and without repeats.
use Rattle.std.proofs.Common.{ap, ◌∙◌, map}
use Rattle.osgi_ops.specs.computed.Numbered.{numbered}
use Rattle.osgi_ops.proofs.Numbered.{rising-those}
use Rattle.osgi_ops.proofs.bundle_lists.those.Goals as goal

pub returns : goal.returns
returns c = record {
  those = rising-those c.args.numbers.items c.rising-rising.result.items c.from.result c.rising-rising.ensures.rising
      (c.from.ensures ∙ c.in_ok-bundles_of.ensures.bundles ∙ ap (map numbered) c.as_slice.ensures.value) c.rising-rising.ensures.same;
}
