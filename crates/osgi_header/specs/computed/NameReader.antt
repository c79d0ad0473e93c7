-- What the reader computes of a directive's value that lists names. No public promise speaks of this: it is proved to give
-- the names that the definition says.
use Rattle.std.specs.Prelude.{ℕ, ◌==◌, Bool, List, map}
use Rattle.std.specs.List.{slice_split}
use Rattle.osgi_header.specs.computed.ClauseReader.{trimmed}

-- `,` (44)
abbrev pub is_comma : ℕ → Bool
is_comma b = b == 44

abbrev pub names_of : List ℕ → List (List ℕ)
names_of text = map trimmed (slice_split is_comma text)
