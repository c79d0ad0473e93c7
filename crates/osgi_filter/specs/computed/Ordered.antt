-- What the text of a test reads as, and what the test asks of an order against that. No public promise speaks of this.
use Rattle.std.specs.Prelude.{ℕ, Bool, true, false, List, Option, None, Some}
use Rattle.std.specs.Option.{option_and_then}
use Rattle.std.specs.declared.cmp.Ordering.{Ordering}
use Rattle.std.specs.Ordering.{is_eq, is_ge, is_le}
use Rattle.osgi_model.specs.computed.MatchReader.{is_asked}
use Rattle.osgi_model.specs.declared.filter.Test.{Test}
use Rattle.osgi_model.specs.declared.filter.Test.TheVariants.{Equal, Approx, AtLeast, AtMost, Present, Pieces}

-- the text that values are compared with; presence and pieces have none
abbrev pub text_of : Test → Option (List ℕ)
text_of (Equal text) = Some text
text_of (Approx text) = Some text
text_of (AtLeast text) = Some text
text_of (AtMost text) = Some text
text_of Present = None
text_of (Pieces pieces) = None

-- what that text reads as by `of`
abbrev pub read_by : {V : Type 0} → (List ℕ → Option V) → Test → Option V
read_by of test = option_and_then of (text_of test)

-- whether a value passes that stands so to what the text reads as
abbrev pub passes_by_order : Option Ordering → Test → Bool
passes_by_order order (Equal text) = is_asked is_eq order
passes_by_order order (Approx text) = is_asked is_eq order
passes_by_order order (AtLeast text) = is_asked is_ge order
passes_by_order order (AtMost text) = is_asked is_le order
passes_by_order order Present = true
passes_by_order order (Pieces pieces) = false
