-- What is sought is among the values that are left, by the same test.
use Rattle.std.proofs.Common.{◌≡◌, map, drop}
use Rattle.osgi_model.specs.computed.MatchReader.{passes, one_of}
use Rattle.osgi_filter.proofs.passing.+passes.Given as goal

abbrev pub invariant-one_passes-loop-value : goal.invariant-one_passes-loop-value
invariant-one_passes-loop-value l = record {
  same : l.wanted ≡ l.fn.wanted;
  passes : one_of (map (passes l.fn.wanted) l.values) ≡ one_of (map (passes l.fn.wanted) (drop l.value-index l.values));
}
