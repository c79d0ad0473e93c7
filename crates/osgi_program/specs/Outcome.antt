-- What a run of the program has done, by the status that it ends with.
use Rattle.std.specs.Prelude.{ℕ, ◌≡◌, ◌≤◌, ◌⊎◌, ◌||◌, if◌then◌else◌, Bool, true, false, List, [], Option, IfSome, length, take, All}
use Rattle.std.specs.List.{count_by, list_any}
use Rattle.std.specs.Io.KnownBytes.{Appends}
use Rattle.osgi_legal.specs.Legal.{AreAllowed}
use Rattle.osgi_session.specs.Rendering.{is_full, render, IsFullWhereCut}
use Rattle.osgi_ops.specs.Replies.{is_refusal}
use Rattle.osgi_session.specs.Scripts.{sections_of}
use Rattle.osgi_session.specs.Sessions.{IsWhole}
use Rattle.osgi_ops.specs.Moments.{entries_in, Told}
use Rattle.osgi_ops.specs.Settings.{Bounds}
use Rattle.osgi_ops.specs.declared.entry.Entry.{Entry}
use Rattle.osgi_ops.specs.declared.op.Op.{Op}
use Rattle.osgi_ops.specs.declared.op.Op.TheVariants.{Hand}
use Rattle.osgi_ops.specs.declared.refusal.Refusal.TheVariants.{HandingsSpent}
use Rattle.osgi_session.specs.declared.line.Content.{Content}
use Rattle.osgi_session.specs.declared.line.Content.TheVariants.{Bad}
use Rattle.osgi_session.specs.declared.line.Line.{Line}
use Rattle.osgi_ops.specs.declared.reply.Reply.{Reply}
use Rattle.osgi_ops.specs.declared.reply.Reply.TheVariants.{Handed, Refused}
use Rattle.osgi_console.specs.Console.{AreLinesOf}
use Rattle.osgi_core.specs.Sound.{IsSoundTelling}
use Rattle.osgi_runs.specs.Handed.{AllHanded}
use Rattle.osgi_depot.specs.Depots.{IsDepotOf}
use Rattle.osgi_outside.specs.Shelves.{ShelfRow}
use Rattle.osgi_program.specs.declared.session.Session.{Session}
use Rattle.osgi_program.specs.Words.{bounds_in, replies, Request}
use Rattle.osgi_program.specs.declared.session.TheConstants.{MAX_INPUT, DONE, TROUBLED, FAULTY_WORDS, READ_FAILED, INPUT_TOO_LONG, CUT}

-- the reply hands an event to a listener
abbrev pub is_handing : Reply → Bool
is_handing (Handed listener kind owner row name event) = true
is_handing _ = false

-- a Hand is refused since enough was handed
abbrev pub is_spent : Op → Reply → Bool
is_spent Hand (Refused HandingsSpent) = true
is_spent _ _ = false

-- the statuses 0 and 1
abbrev pub IsDoneStatus : ℕ → Type 0
IsDoneStatus status = (status ≡ DONE) ⊎ (status ≡ TROUBLED)

-- what a shelf did while a session was made: the folders that it exposes, if it does, and its counts of faults before and after
pub record Shelved : Type 0 where
  pub told : Option (List ShelfRow)
  pub before : ℕ
  pub after : ℕ

-- a session that a run made of an input and a shelf
pub record IsSession (asked : Request) (status : ℕ) (left : Option (List ℕ)) (shelf : Shelved) (session : Session) : Type 0 where
  pub input : List ℕ
  -- the input is what the source had left, if the source exposes it
  pub all : IfSome left (λ bytes. input ≡ bytes)
  -- it is within the limit
  pub within : length input ≤ MAX_INPUT
  -- the session's lines are all lines of the input, read with no lanes
  pub lines : AreLinesOf 0 input session.lines
  -- the depot is what these lines name, as the shelf told it, each row with its script
  pub depot : IsDepotOf session.lines shelf.told shelf.before shelf.after session.depot.rows session.scripts.rows
  -- the history is told: each entry with the world after it and what the listeners saw of it, from the empty framework on
  pub told : List Told
  pub tells : entries_in told ≡ session.entries
  -- what is told is legal: step after step, each entry has the reply that is due, and leaves a world that it may leave
  pub legal : AreAllowed (record { bounds = bounds_in asked; depot = session.depot.rows }) told
  -- it is sound: after every step the wirings in force are consistent, each bundle that is refused as unresolvable is so, and what each
  -- listener was handed is a beginning of what is due to it
  pub sound : IsSoundTelling told
  -- on the statuses 0 and 1 each listener that is live in the end was handed all that is due to it
  pub handed : IsDoneStatus status → AllHanded told
  -- the history is what the lines make, each a whole run of its command, or a cut one where it may be cut
  pub whole : IsWhole (sections_of session.scripts) (bounds_in asked).entries status session.lines session.entries
  -- a line with a command says `full` exactly where its entries are no caller's whole run of it
  pub full : All (IsFullWhereCut (sections_of session.scripts) session.entries) session.lines
  -- the handings are those of the history
  pub handings : session.handings ≡ count_by (λ e. is_handing e.reply) session.entries
  -- no line peeks: there is no word for it yet
  pub peeks : session.peeks ≡ []

abbrev pub is_bad : Content → Bool
is_bad Bad = true
is_bad _ = false

-- a line is outside the grammar, or a reply is a refusal
abbrev pub is_troubled : List Line → List Entry → Bool
is_troubled lines entries = list_any (λ line. is_bad line.content) lines || list_any (λ e. is_refusal e.reply) entries

-- the status of a session whose text was written
abbrev pub status_of : Session → ℕ
status_of session =
    if list_any (is_full session.entries) session.lines then CUT
    else (if is_troubled session.lines session.entries then TROUBLED else DONE)

-- the text that is written of a session, by what was asked for
abbrev pub text_of : Request → Session → List ℕ
text_of (replies bounds) session = render session.lines session.entries session.peeks

-- the whole text was written and flushed
pub record IsWritten (before after flushed : Option (List ℕ)) (whole : List ℕ) : Type 0 where
  pub text : Appends before after whole
  pub flush : flushed ≡ after

-- the text was written up to some place
pub record IsPartlyWritten (before after : Option (List ℕ)) (whole : List ℕ) : Type 0 where
  pub count : ℕ
  pub text : Appends before after (take count whole)

-- statuses of a run whose text was written
abbrev pub IsWrittenStatus : ℕ → Type 0
IsWrittenStatus status = (status ≡ DONE) ⊎ (status ≡ TROUBLED) ⊎ (status ≡ CUT)

-- why a line was cut: the history is as long as it may be; or as many events were handed as may be, and a Hand was refused for that
abbrev pub IsAtLimit : Bounds → Session → Type 0
IsAtLimit bounds session =
    (length session.entries ≡ bounds.entries) ⊎
    ((list_any (λ e. is_spent e.op e.reply) session.entries ≡ true) × (session.handings ≡ bounds.handings))

-- no line says `full`
abbrev pub IsUncut : Session → Type 0
IsUncut session = list_any (is_full session.entries) session.lines ≡ false

-- statuses of a run that never has a session
abbrev pub IsBareStatus : ℕ → Type 0
IsBareStatus status = (status ≡ FAULTY_WORDS) ⊎ (status ≡ READ_FAILED) ⊎ (status ≡ INPUT_TOO_LONG)
