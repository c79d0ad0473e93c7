-- The brackets of a history: the hands, starts, stops, jobs and makes that are open.
use Rattle.std.specs.Prelude.{ℕ, ◌==◌, ◌&&◌, Bool, true, false, if◌then◌else◌, List, [], ◌∷◌, Option, None, Some, filter, find, option_and_then}
use Rattle.osgi_base.specs.declared.ids.BundleId.{BundleId}
use Rattle.osgi_base.specs.declared.ids.ListenerId.{ListenerId}
use Rattle.osgi_base.specs.declared.ids.ServiceId.{ServiceId}
use Rattle.osgi_base.specs.declared.ids.Tag.{Tag}
use Rattle.osgi_ops.specs.Along.{carry}
use Rattle.osgi_ops.specs.declared.op.Op.{Op}
use Rattle.osgi_ops.specs.declared.op.Op.TheVariants.{Hand, EndHand, TakeJob, EndJob, BeginStart, EndStart, BeginStop, EndStop, Get, GetOwn, EndMake}
use Rattle.osgi_ops.specs.declared.reply.Reply.{Reply}
use Rattle.osgi_ops.specs.declared.reply.Reply.TheVariants.{Handed, Job, Begun, Make}
use Rattle.osgi_ops.specs.declared.entry.Entry.{Entry}

-- an object that is being made: for which user, of which service, whether the user asked for one of its own (which it is then only where
-- the service has a scope that gives such), and whose factory makes it
pub record Making : Type 0 where
  pub user : BundleId
  pub service : ServiceId
  pub asked_own : Bool
  pub owner : BundleId

-- what a bracket is open for
pub data Cause : Type 0 where
  handing : ListenerId → Cause
  starting : BundleId → Cause
  stopping : BundleId → Cause
  job : Cause
  making : Making → Cause

-- an open bracket, with the tag of the entry that opened it
pub record Bracket : Type 0 where
  pub tag : Tag
  pub cause : Cause

abbrev pub bracket : Tag → Cause → Bracket
bracket tag cause = record { tag = tag; cause = cause }

-- what an operation with its reply opens a bracket for
abbrev pub opens : Op → Reply → Option Cause
opens Hand (Handed listener kind owner row name event) = Some (handing listener)
opens TakeJob (Job owner row name) = Some job
opens (BeginStart bundle transient) (Begun begun row) = Some (starting bundle)
opens (BeginStop target transient) (Begun begun row) = Some (stopping begun)
opens (Get user service) (Make owner row name) = Some (making (record { user = user; service = service; asked_own = false; owner = owner }))
opens (GetOwn user service) (Make owner row name) = Some (making (record { user = user; service = service; asked_own = true; owner = owner }))
opens _ _ = None

-- the operation is the end of what a bracket is open for
abbrev pub ends : Op → Cause → Bool
ends (EndHand listener) (handing held) = listener.0 == held.0
ends EndJob job = true
ends (EndStart bundle failed) (starting begun) = bundle.0 == begun.0
ends (EndStop bundle failed) (stopping begun) = bundle.0 == begun.0
ends (EndMake failed) (making m) = true
ends _ _ = false

-- the bracket is of the tag's own command, and the operation is its end
abbrev pub is_ended : Tag → Op → Bracket → Bool
is_ended tag op b = (b.tag.command == tag.command) && ends op b.cause

-- the operation is the end of the innermost bracket of the tag's caller, and the tag's own command opened that. The reply does not count: of
-- the replies that a legal history has, each closes
abbrev pub closes : Tag → Op → List Bracket → Bool
closes tag op [] = false
closes tag op (b ∷ outer) = if b.tag.caller == tag.caller then is_ended tag op b else closes tag op outer

-- without the innermost bracket of a caller
abbrev pub without_innermost : ℕ → List Bracket → List Bracket
without_innermost caller [] = []
without_innermost caller (b ∷ outer) = if b.tag.caller == caller then outer else b ∷ without_innermost caller outer

-- with one more, which an operation with this tag opens, as the innermost
abbrev pub with_opened : Tag → Cause → List Bracket → List Bracket
with_opened tag cause opened = bracket tag cause ∷ opened

-- without the one that the operation closes, if it closes one
abbrev pub with_closed : Tag → Op → List Bracket → List Bracket
with_closed tag op opened = if closes tag op opened then without_innermost tag.caller opened else opened

-- after an entry: what it opens is put on top; what opens nothing may close
abbrev pub with_entry : List Bracket → Entry → List Bracket
with_entry opened e = elim (opens e.op e.reply) [ Some cause ↦ with_opened e.tag cause opened | None ↦ with_closed e.tag e.op opened ]

-- the open brackets of all callers, the innermost of each first
abbrev pub brackets : List Entry → List Bracket
brackets history = carry with_entry [] history

-- those of one caller
abbrev pub brackets_of : ℕ → List Entry → List Bracket
brackets_of caller history = filter (λ b. b.tag.caller == caller) (brackets history)

-- the operation is the end of the innermost bracket of the tag's caller, which the tag's own command opened
abbrev pub is_own_end : Tag → Op → List Entry → Bool
is_own_end tag op history = closes tag op (brackets history)

-- ---- makes

-- what a bracket makes, where it makes an object
abbrev pub making_in : Bracket → Option Making
making_in b = elim b.cause [ making m ↦ Some m | _ ↦ None ]

-- the innermost bracket of a caller
abbrev pub innermost : ℕ → List Bracket → Option Bracket
innermost caller opened = find (λ b. b.tag.caller == caller) opened

-- what the innermost bracket of a caller makes
abbrev pub making_of_innermost : ℕ → List Bracket → Option Making
making_of_innermost caller opened = option_and_then making_in (innermost caller opened)
