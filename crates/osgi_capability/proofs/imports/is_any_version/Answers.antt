-- The range that stands where none is given is at least 0.0.0.
use Rattle.std.proofs.lemmas.Bool.Decides.{same_from_decides}
use Rattle.osgi_version.specs.RangeValues.{range_parts}
use Rattle.osgi_capability.proofs.Meaning.{any_decides}
use Rattle.osgi_capability.proofs.imports.is_any_version.Goals as goal

pub returns : goal.returns
returns c = record { any = same_from_decides _ _ c.is_at_least_zero.ensures.exactly (any_decides (range_parts c.args.range.now)) }
