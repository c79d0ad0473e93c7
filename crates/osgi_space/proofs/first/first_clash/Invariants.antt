-- It is the first of the pairs so far that clash, and has a name.
use Rattle.std.proofs.Common.{◌<◌, length, take}
use Rattle.std.specs.Option.{ForSome}
use Rattle.osgi_space_sources.specs.declared.given.Given.{Given}
use Rattle.osgi_space.specs.computed.Firsts.{IsFirstClash}
use Rattle.osgi_space.proofs.first.first_clash.Given as goal

abbrev pub invariant-loop-pair : goal.invariant-loop-pair
invariant-loop-pair l = record {
  first : IsFirstClash l.rows.rows l.rows.names l.revision (take l.pair-index l.pairs) l.first;
  named : ForSome l.first (λ (f : Given). f.package < length l.rows.names);
}
