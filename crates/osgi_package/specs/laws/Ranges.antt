-- What is parsed of a text is the range that it reads as.
use Rattle.std.proofs.Common.{◌≡◌, ℕ, List, sym}
use Rattle.std.specs.Prelude.{Result, Ok, Err, MatchResult}
use Rattle.std.specs.Result.{IsOkAnd, result_ok}
use Rattle.osgi_version.specs.declared.fault.VersionFault.{VersionFault}
use Rattle.osgi_version.specs.declared.range.VersionRange.{VersionRange}
use Rattle.osgi_version.specs.Faults.{IsFault}
use Rattle.osgi_version.specs.Ranges.{IsReadableRange, IsSpelledRange, RangeParts, ReadsRange}
use Rattle.osgi_version.specs.RangeValues.{range_parts}
use Rattle.osgi_world.specs.laws.Ranges.{same_range}
use Rattle.osgi_package.specs.computed.ImportReader.{IsRangeOf}

pub range_read : (text : List ℕ) (r : Result VersionRange VersionFault) → MatchResult r (λ r. ReadsRange text (range_parts r)) (IsFault IsSpelledRange IsReadableRange text) →
    ((range : RangeParts) → ReadsRange text range → IsOkAnd r (λ w. range_parts w ≡ range)) → IsRangeOf text (result_ok r)
range_read text (Ok w) reads only = record { holds = reads; only = λ other h. same_range other w (sym (only (range_parts other) h)) }
range_read text (Err fault) reads only = λ readable. only readable.0 readable.1
