-- The machine that reads a version. No public promise speaks of this: it is proved to give the readings of the grammar.
use Rattle.std.specs.Prelude.{ℕ, ◌+◌, ◌-◌, ◌*◌, min, Bool, true, false, ◌&&◌, nat_le, List, [], Option, Some, None, length, take, drop}
use Rattle.osgi_version.specs.computed.Classes.{class_of}
use Rattle.osgi_version.specs.Versions.{Parts}
use Rattle.osgi_version.specs.declared.bytes.Class.{Class}
use Rattle.osgi_version.specs.declared.bytes.Class.TheVariants.{Digit, Dot, Blank, Letter}
use Rattle.osgi_version.specs.declared.version.TheConstants.{MAX_NUMBER}
use Rattle.osgi_version.specs.declared.version_state.VersionState.{VersionState}
use Rattle.osgi_version.specs.declared.version_state.VersionState.TheVariants.{Lead, Major, MinorDot, Minor, MicroDot, Micro, QualifierDot, Qualifier, Trail}

-- a number with one more digit; a number that is too large stands one above the greatest
abbrev pub more : ℕ → ℕ → ℕ
more n b = min (10 * n + (b - 48)) (MAX_NUMBER + 1)

-- in a number: it grows, or a dot or white space ends it
abbrev pub in_number : Class → VersionState → VersionState → VersionState → Option VersionState
in_number Digit grown dotted ended = Some grown
in_number Dot grown dotted ended = Some dotted
in_number Blank grown dotted ended = Some ended
in_number c grown dotted ended = None

abbrev pub if_digit : Class → VersionState → Option VersionState
if_digit Digit s = Some s
if_digit c s = None

abbrev pub if_blank : Class → VersionState → Option VersionState
if_blank Blank s = Some s
if_blank c s = None

abbrev pub if_word : Class → VersionState → Option VersionState
if_word Digit s = Some s
if_word Letter s = Some s
if_word c s = None

-- the state after a byte of this class, where `grow` says what a number with one more digit is
abbrev pub next_by : (ℕ → ℕ → ℕ) → VersionState → ℕ → Class → Option VersionState
next_by grow Lead b Blank = Some Lead
next_by grow Lead b c = if_digit c (Major (grow 0 b))
next_by grow (Major m) b c = in_number c (Major (grow m b)) (MinorDot m) (Trail m 0 0 0 1)
next_by grow (MinorDot m) b c = if_digit c (Minor m (grow 0 b))
next_by grow (Minor m i) b c = in_number c (Minor m (grow i b)) (MicroDot m i) (Trail m i 0 0 1)
next_by grow (MicroDot m i) b c = if_digit c (Micro m i (grow 0 b))
next_by grow (Micro m i n) b c = in_number c (Micro m i (grow n b)) (QualifierDot m i n) (Trail m i n 0 1)
next_by grow (QualifierDot m i n) b c = if_word c (Qualifier m i n 1)
next_by grow (Qualifier m i n k) b Blank = Some (Trail m i n k 1)
next_by grow (Qualifier m i n k) b c = if_word c (Qualifier m i n (k + 1))
next_by grow (Trail m i n k w) b c = if_blank c (Trail m i n k (w + 1))

abbrev pub next : VersionState → ℕ → Class → Option VersionState
next s b c = next_by more s b c

abbrev pub step : VersionState → ℕ → Option VersionState
step s b = next s b (class_of b)

abbrev pub is_fine_number : ℕ → Bool
is_fine_number n = nat_le n MAX_NUMBER

-- no number is too large
abbrev pub is_fine : VersionState → Bool
is_fine Lead = true
is_fine (Major m) = is_fine_number m
is_fine (MinorDot m) = is_fine_number m
is_fine (Minor m i) = is_fine_number m && is_fine_number i
is_fine (MicroDot m i) = is_fine_number m && is_fine_number i
is_fine (Micro m i n) = is_fine_number m && is_fine_number i && is_fine_number n
is_fine (QualifierDot m i n) = is_fine_number m && is_fine_number i && is_fine_number n
is_fine (Qualifier m i n k) = is_fine_number m && is_fine_number i && is_fine_number n
is_fine (Trail m i n k w) = is_fine_number m && is_fine_number i && is_fine_number n

-- the bytes that the state counts
abbrev pub held : VersionState → ℕ
held (Qualifier m i n k) = k
held (Trail m i n k w) = k + w
held s = 0

-- a version may end here
abbrev pub may_end : VersionState → Bool
may_end (MinorDot m) = false
may_end (MicroDot m i) = false
may_end (QualifierDot m i n) = false
may_end s = true

-- the version that the whole text reads as, where it may end in this state
abbrev pub finish : List ℕ → VersionState → Option Parts
finish text Lead = Some (record { major = 0; minor = 0; micro = 0; qualifier = [] })
finish text (Major m) = Some (record { major = m; minor = 0; micro = 0; qualifier = [] })
finish text (Minor m i) = Some (record { major = m; minor = i; micro = 0; qualifier = [] })
finish text (Micro m i n) = Some (record { major = m; minor = i; micro = n; qualifier = [] })
finish text (Qualifier m i n k) = Some (record { major = m; minor = i; micro = n; qualifier = drop (length text - k) text })
finish text (Trail m i n k w) = Some (record { major = m; minor = i; micro = n; qualifier = take k (drop (length text - (k + w)) text) })
finish text s = None
