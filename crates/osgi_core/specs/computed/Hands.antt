-- How many hands and jobs are open, and the room that the history has for their ends.
use Rattle.std.specs.Prelude.{ℕ, ◌≡◌, ◌≤◌, ◌+◌, Bool, true, false, List, length, filter, if◌then◌else◌, Option, None, Some}
use Rattle.osgi_ops.specs.Brackets.{Bracket, brackets, Cause, handing, job, opens}
use Rattle.osgi_ops.specs.declared.entry.Entry.{Entry}
use Rattle.osgi_ops.specs.declared.op.Op.{Op}
use Rattle.osgi_ops.specs.declared.reply.Reply.{Reply}

abbrev pub is_hand_or_job : Cause → Bool
is_hand_or_job (handing listener) = true
is_hand_or_job job = true
is_hand_or_job _ = false

abbrev pub is_of_hand_or_job : Bracket → Bool
is_of_hand_or_job b = is_hand_or_job b.cause

abbrev pub ends_in : List Bracket → ℕ
ends_in opened = length (filter is_of_hand_or_job opened)

abbrev pub opens_any : Option Cause → Bool
opens_any None = false
opens_any (Some cause) = is_hand_or_job cause

-- the operation with this reply begins a hand or a job
abbrev pub opens_hand_or_job : Op → Reply → Bool
opens_hand_or_job op reply = opens_any (opens op reply)

abbrev pub number_if : Bool → ℕ
number_if t = if t then 1 else 0

-- so many hands and jobs are open, and behind the entries there is room for the end of each
pub record HasEnds (entries : List Entry) (capacity ends : ℕ) : Type 0 where
  pub open_ends : ends ≡ ends_in (brackets entries)
  pub room : length entries + ends ≤ capacity
