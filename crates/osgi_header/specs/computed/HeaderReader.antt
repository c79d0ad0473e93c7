-- What the reader computes of lines and headers. No public promise speaks of this: it is proved to give the readings of the
-- grammar.
use Rattle.std.specs.Prelude.{ℕ, ◌≡◌, ◌+◌, ◌≤◌, ◌==◌, ◌||◌, nat_lt, if◌then◌else◌, Bool, false, List, [], ◌∷◌, ◌++◌, length, take, drop, map, Option, None, Some, Result, Ok, Err}
use Rattle.std.specs.List.{list_all, position}
use Rattle.std.specs.Str.{is_utf8}
use Rattle.std.specs.declared.alloc.Global.{Global}
use Rattle.std.specs.declared.vec.Vec.{Vec}
use Rattle.osgi_header.specs.declared.fault.HeaderFault.{HeaderFault}
use Rattle.osgi_header.specs.declared.fault.HeaderKind.{HeaderKind}
use Rattle.osgi_header.specs.declared.fault.HeaderKind.TheVariants.{BadName, BadUtf8, LongLine, NoColon}
use Rattle.osgi_header.specs.declared.header.Header.{Header}
use Rattle.osgi_header.specs.declared.unfolding.TheConstants.{MAX_LINE_LEN}
use Rattle.osgi_header.specs.declared.lines.LineAt.{LineAt}
use Rattle.osgi_header.specs.Headers.{counting, is_header_name_byte}
use Rattle.osgi_header.specs.Lines.{continues, Group, joined, PhysicalLine}

-- ---- lines

-- without the line feed (10) that may stand first
abbrev pub without_line_feed : List ℕ → List ℕ
without_line_feed [] = []
without_line_feed (b ∷ rest) = if b == 10 then rest else b ∷ rest

-- what is left after a line end that begins with a carriage return (13), or else is a line feed
abbrev pub after_end : List ℕ → List ℕ
after_end [] = []
after_end (b ∷ rest) = if b == 13 then without_line_feed rest else rest

-- a line of the code
abbrev pub line_seen : LineAt → PhysicalLine
line_seen line = record { at = line.at; text = line.text.now }

abbrev pub lines_seen : List LineAt → List PhysicalLine
lines_seen lines = map line_seen lines

-- ---- the lines of each header

abbrev pub group : PhysicalLine → List PhysicalLine → Group
group first more = record { first = first; more = more }

-- the lines at the start that continue the one before
abbrev pub leading : List PhysicalLine → List PhysicalLine
leading [] = []
leading (line ∷ lines) = if continues line then line ∷ leading lines else []

-- the groups after the lines at the start that continue the one before
abbrev pub following : List PhysicalLine → List Group
following [] = []
following (line ∷ lines) = if continues line then following lines else group line (leading lines) ∷ following lines

abbrev pub groups_of : List PhysicalLine → List Group
groups_of [] = []
groups_of (line ∷ lines) = group line (leading lines) ∷ following lines

-- the lines from here on begin with those of one header
pub record BeginsWithGroup (lines : List LineAt) (start : ℕ) (first : PhysicalLine) (more : List LineAt) : Type 0 where
  pub groups : groups_of (lines_seen (drop start lines)) ≡ group first (lines_seen more) ∷ groups_of (lines_seen (drop (start + (length more + 1)) lines))
  pub within : start + (length more + 1) ≤ length lines

-- ---- headers

abbrev pub is_long : PhysicalLine → Bool
is_long line = nat_lt MAX_LINE_LEN (length line.text)

abbrev pub first_long : List PhysicalLine → Option ℕ
first_long [] = None
first_long (line ∷ lines) = if is_long line then Some line.at else first_long lines

-- `:` (58)
abbrev pub is_colon : ℕ → Bool
is_colon b = b == 58

-- the bytes of a name, of which `_` (95) and `-` (45) are not the first
abbrev pub is_header_name : List ℕ → Bool
is_header_name [] = false
is_header_name (b ∷ rest) = if (b == 95) || (b == 45) then false else list_all is_header_name_byte (b ∷ rest)

-- without the space (32) that may stand first
abbrev pub without_space : List ℕ → List ℕ
without_space [] = []
without_space (b ∷ rest) = if b == 32 then rest else b ∷ rest

abbrev pub parsed_at : List ℕ → Option ℕ → Result Header HeaderKind
parsed_at text None = Err NoColon
parsed_at text (Some colon) =
    if is_header_name (take colon text)
    then (if is_utf8 text then Ok (record { name = take colon text; value = without_space (drop (colon + 1) text) }) else Err BadUtf8)
    else Err BadName

abbrev pub parsed : List ℕ → Result Header HeaderKind
parsed text = parsed_at text (position is_colon text)

-- the header, unless a line that continues its first one is too long
abbrev pub if_short : Header → Option ℕ → Result Header HeaderFault
if_short header None = Ok header
if_short header (Some at) = Err (record { kind = LongLine; at = at })

abbrev pub header_by : Group → Result Header HeaderKind → Result Header HeaderFault
header_by lines (Err kind) = Err (record { kind = kind; at = lines.first.at })
header_by lines (Ok header) = if_short header (first_long lines.more)

abbrev pub header_of : Group → Result Header HeaderFault
header_of lines = if is_long lines.first then Err (record { kind = LongLine; at = lines.first.at }) else header_by lines (parsed (joined lines))

-- a header or a fault, before what the groups after it give
abbrev pub headers_by : Result Header HeaderFault → Result (List Header) HeaderFault → Result (List Header) HeaderFault
headers_by (Err fault) others = Err fault
headers_by (Ok header) (Err fault) = Err fault
headers_by (Ok header) (Ok headers) = Ok (header ∷ headers)

abbrev pub headers_from : List Group → Result (List Header) HeaderFault
headers_from [] = Ok []
headers_from (lines ∷ groups) = headers_by (header_of lines) (headers_from groups)

-- the headers so far before the others
abbrev pub headers_onto : List Header → Result (List Header) HeaderFault → Result (List Header) HeaderFault
headers_onto headers (Err fault) = Err fault
headers_onto headers (Ok others) = Ok (headers ++ others)

-- what was read, without the headers that do not count
abbrev pub counted : Result (List Header) HeaderFault → Result (List Header) HeaderFault
counted (Err fault) = Err fault
counted (Ok headers) = Ok (counting headers)

-- the items of what was read
abbrev pub items_read : Result (Vec Header Global) HeaderFault → Result (List Header) HeaderFault
items_read (Err fault) = Err fault
items_read (Ok headers) = Ok headers.items
