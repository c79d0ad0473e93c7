-- A range that says all versions is the one that stands where none is given.
use Rattle.std.proofs.Common.{sym}
use Rattle.osgi_world.specs.SharedRanges.{all_versions}
use Rattle.osgi_world.specs.laws.Ranges.{same_range}
use Rattle.osgi_world.proofs.shared_range.SharedRange.of.Goals as goal

pub returns-then-is_at_least_zero : goal.returns-then-is_at_least_zero
returns-then-is_at_least_zero c = record {
  same = sym (same_range c.args.range all_versions (c.is_at_least_zero.ensures.exactly.0 c.if-is_at_least_zero.true));
}
