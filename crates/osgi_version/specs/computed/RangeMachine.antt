-- The machine that reads a range, over the one that reads a version. No public promise speaks of this: it is proved to
-- give the readings of the grammar.
use Rattle.std.specs.Prelude.{ℕ, ◌+◌, max, Bool, true, false, if◌then◌else◌, Option, Some, None}
use Rattle.std.specs.Option.{option_map}
use Rattle.osgi_version.specs.computed.Classes.{class_of}
use Rattle.osgi_version.specs.computed.VersionMachine.{step, is_fine, may_end, held}
use Rattle.osgi_version.specs.declared.bytes.Class.{Class}
use Rattle.osgi_version.specs.declared.bytes.Class.TheVariants.{Digit, Blank, Comma, Open, Close}
use Rattle.osgi_version.specs.declared.version_state.VersionState.{VersionState}
use Rattle.osgi_version.specs.declared.version_state.VersionState.TheVariants.{Lead}
use Rattle.osgi_version.specs.declared.range_state.RangeState.{RangeState}
use Rattle.osgi_version.specs.declared.range_state.RangeState.TheVariants.{Before, Plain, Low, High, Closed}

-- `inner` is the step of the version machine, strict or not
abbrev pub next_range : (VersionState → ℕ → Option VersionState) → RangeState → ℕ → Class → Option RangeState
next_range inner (Before k) b Blank = Some (Before (k + 1))
next_range inner (Before k) b Digit = option_map Plain (inner Lead b)
next_range inner (Before k) b Open = Some (Low k 0 Lead)
next_range inner (Before k) b c = None
next_range inner (Plain v) b c = option_map Plain (inner v b)
next_range inner (Low k n v) b Comma = if may_end v then Some (High k n 0 Lead) else None
next_range inner (Low k n v) b c = option_map (Low k (n + 1)) (inner v b)
next_range inner (High k n h v) b Close = if may_end v then Some (Closed k n h 0) else None
next_range inner (High k n h v) b c = option_map (High k n (h + 1)) (inner v b)
next_range inner (Closed k n h w) b Blank = Some (Closed k n h (w + 1))
next_range inner (Closed k n h w) b c = None

abbrev pub range_by : (VersionState → ℕ → Option VersionState) → RangeState → ℕ → Option RangeState
range_by inner s b = next_range inner s b (class_of b)

abbrev pub step_range : RangeState → ℕ → Option RangeState
step_range = range_by step

abbrev pub is_fine_range : RangeState → Bool
is_fine_range (Before k) = true
is_fine_range (Plain v) = is_fine v
is_fine_range (Low k n v) = is_fine v
is_fine_range (High k n h v) = is_fine v
is_fine_range (Closed k n h w) = true

abbrev pub may_end_range : RangeState → Bool
may_end_range (Before k) = true
may_end_range (Plain v) = may_end v
may_end_range (Low k n v) = false
may_end_range (High k n h v) = false
may_end_range (Closed k n h w) = true

-- the bytes that the state counts
abbrev pub held_range : RangeState → ℕ
held_range (Before k) = k
held_range (Plain v) = held v
held_range (Low k n v) = max (k + 1 + n) (held v)
held_range (High k n h v) = max (k + n + h + 2) (held v)
held_range (Closed k n h w) = k + n + h + w + 3
