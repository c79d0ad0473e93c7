-- The objects that are being made, and the text that each was given last.
use Rattle.std.specs.Prelude.{ℕ, ◌==◌, Bool, true, false, if◌then◌else◌, List, [], ◌∷◌, Option, None, Some, filter, find, length, option_and_then}
use Rattle.osgi_ops.specs.Along.{carried}
use Rattle.osgi_ops.specs.Brackets.{brackets, Cause, closes, making, opens}
use Rattle.osgi_ops.specs.declared.entry.Entry.{Entry}
use Rattle.osgi_ops.specs.declared.op.Op.{Op}
use Rattle.osgi_ops.specs.declared.op.Op.TheVariants.{EndMake, Give}
use Rattle.osgi_ops.specs.declared.reply.Reply.{Reply}
use Rattle.osgi_ops.specs.declared.reply.Reply.TheVariants.{Done, Held}

-- a make that is open: its caller, and the text that it was given last
pub record OpenMake : Type 0 where
  pub caller : ℕ
  pub text : Option (List ℕ)

-- what becomes of the makes of a caller: one begins, the innermost ends, or it is given a text
pub data MakeChange : Type 0 where
  make_begins : MakeChange
  make_ends : MakeChange
  gets_text : List ℕ → MakeChange

-- what is opened is a make
abbrev pub opens_make : Option Cause → Bool
opens_make (Some (making m)) = true
opens_make _ = false

-- what an operation with its reply says of them, where it closes a bracket or does not
abbrev pub make_change : Bool → Op → Reply → Option MakeChange
make_change closed (EndMake failed) reply = if closed then Some make_ends else None
make_change closed (Give owner text) Done = Some (gets_text text)
make_change closed op reply = if opens_make (opens op reply) then Some make_begins else None

abbrev pub without_make : ℕ → List OpenMake → List OpenMake
without_make caller [] = []
without_make caller (m ∷ outer) = if m.caller == caller then outer else m ∷ without_make caller outer

abbrev pub with_text : ℕ → List ℕ → List OpenMake → List OpenMake
with_text caller text [] = []
with_text caller text (m ∷ outer) = if m.caller == caller then record m { text = Some text } ∷ outer else m ∷ with_text caller text outer

abbrev pub with_make_change : ℕ → Option MakeChange → List OpenMake → List OpenMake
with_make_change caller None makes = makes
with_make_change caller (Some make_begins) makes = record { caller = caller; text = None } ∷ makes
with_make_change caller (Some make_ends) makes = without_make caller makes
with_make_change caller (Some (gets_text text)) makes = with_text caller text makes

abbrev pub with_make : List Entry → List OpenMake → Entry → List OpenMake
with_make before makes e = with_make_change e.tag.caller (make_change (closes e.tag e.op (brackets before)) e.op e.reply) makes

-- the open makes of all callers, the innermost of each first
abbrev pub open_makes : List Entry → List OpenMake
open_makes history = carried with_make [] [] history

-- the text that was given last to the innermost make of the caller
abbrev pub given_text : ℕ → List Entry → Option (List ℕ)
given_text caller history = option_and_then (λ (m : OpenMake). m.text) (find (λ (m : OpenMake). m.caller == caller) (open_makes history))

-- the operation made an object
abbrev pub is_made : Op → Reply → Bool
is_made (EndMake failed) (Held object text) = true
is_made _ _ = false

-- how many objects were made
abbrev pub made_count : List Entry → ℕ
made_count history = length (filter (λ e. is_made e.op e.reply) history)
