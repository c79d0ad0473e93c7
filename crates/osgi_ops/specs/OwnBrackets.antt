-- For proofs and the crates above: the brackets of one caller alone, ends, and what an entry leaves open, by what it opens and whether it closes.
use Rattle.std.specs.Prelude.{Bool, true, false, if◌then◌else◌, List, [], ◌∷◌, Option, None, Some}
use Rattle.osgi_ops.specs.Brackets.{Bracket, bracket, Cause, is_ended, with_opened, without_innermost}
use Rattle.osgi_ops.specs.declared.op.Op.{Op}
use Rattle.osgi_ops.specs.declared.op.Op.TheVariants.{EndHand, EndJob, EndStart, EndStop, EndMake}
use Rattle.osgi_base.specs.declared.ids.Tag.{Tag}

-- the operation is an end
abbrev pub is_end : Op → Bool
is_end (EndHand listener) = true
is_end EndJob = true
is_end (EndStart bundle failed) = true
is_end (EndStop bundle failed) = true
is_end (EndMake failed) = true
is_end _ = false

-- `with_entry` by what the entry opens and whether it closes
abbrev pub turned : Tag → Option Cause → Bool → List Bracket → List Bracket
turned tag o closed opened = elim o [ Some cause ↦ with_opened tag cause opened | None ↦ if closed then without_innermost tag.caller opened else opened ]

-- ---- the brackets of one caller

abbrev pub without_first : List Bracket → List Bracket
without_first [] = []
without_first (b ∷ outer) = outer

-- the operation is the end of the innermost of a caller's own brackets
abbrev pub own_closes : Tag → Op → List Bracket → Bool
own_closes tag op [] = false
own_closes tag op (b ∷ outer) = is_ended tag op b

-- a caller's own brackets with what one of its calls opens, or without what it closes
abbrev pub own_turned : Tag → Option Cause → Bool → List Bracket → List Bracket
own_turned tag (Some cause) closed own = bracket tag cause ∷ own
own_turned tag None true own = without_first own
own_turned tag None false own = own
