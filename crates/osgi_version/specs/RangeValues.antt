-- Ranges as values: what one says, which versions it contains, and the text that is printed of one.
use Rattle.std.specs.Prelude.{ℕ, if◌then◌else◌, Bool, true, false, ◌&&◌, List, [], ◌∷◌, ◌++◌, Option, Some, None}
use Rattle.std.specs.declared.cmp.Ordering.{Ordering}
use Rattle.std.specs.declared.cmp.Ordering.TheVariants.{Less, Equal, Greater}
use Rattle.std.specs.Option.{option_map}
use Rattle.osgi_version.specs.Ranges.{RangeParts}
use Rattle.osgi_version.specs.Versions.{Parts}
use Rattle.osgi_version.specs.VersionValues.{order, parts, parts_text}
use Rattle.osgi_version.specs.declared.range.VersionRange.{VersionRange}

abbrev pub range_parts : VersionRange → RangeParts
range_parts r = record { low = parts r.low; low_in = r.low_in; high = option_map parts r.high; high_in = r.high_in }

-- greater, or equal where the bound is let in
abbrev pub is_above : Bool → Ordering → Bool
is_above closed Less = false
is_above closed Equal = closed
is_above closed Greater = true

abbrev pub is_below_high : Option Parts → Bool → Parts → Bool
is_below_high None closed v = true
is_below_high (Some high) closed v = is_above closed (order high v)

-- above `low`, or equal to it where it is let in, and below `high`, or equal to it where it is let in
abbrev pub is_within : RangeParts → Parts → Bool
is_within r v = is_above r.low_in (order v r.low) && is_below_high r.high r.high_in v

-- `[` (91) or `(` (40), the lower bound, a comma (44), the upper one, and `]` (93) or `)` (41); without an upper one the lower alone
abbrev pub bounds_text : Parts → Bool → Option Parts → Bool → List ℕ
bounds_text low low_in None high_in = parts_text low
bounds_text low low_in (Some high) high_in = (if low_in then 91 else 40) ∷ (parts_text low ++ 44 ∷ (parts_text high ++ (if high_in then 93 else 41) ∷ []))

-- the brackets with the two versions and a comma between, or a plain version
abbrev pub range_text : RangeParts → List ℕ
range_text r = bounds_text r.low r.low_in r.high r.high_in
