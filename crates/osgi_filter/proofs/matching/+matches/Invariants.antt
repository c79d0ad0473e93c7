-- The operands that are left decide.
use Rattle.std.proofs.Common.{◌≡◌, map, drop}
use Rattle.osgi_model.specs.computed.MatchReader.{matches, all_of, one_of}
use Rattle.osgi_filter.specs.Names.{same_name}
use Rattle.osgi_filter.proofs.matching.+matches.Given as goal

abbrev pub invariant-all_match-loop-filter : goal.invariant-all_match-loop-filter
invariant-all_match-loop-filter l = all_of (map (matches (same_name l.case) l.attributes) l.filters) ≡ all_of (map (matches (same_name l.case) l.attributes) (drop l.filter-index l.filters))

abbrev pub invariant-one_matches-loop-filter : goal.invariant-one_matches-loop-filter
invariant-one_matches-loop-filter l = one_of (map (matches (same_name l.case) l.attributes) l.filters) ≡ one_of (map (matches (same_name l.case) l.attributes) (drop l.filter-index l.filters))
