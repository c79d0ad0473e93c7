-- Which histories the lines of a session make.
use Rattle.std.specs.Prelude.{ℕ, zero, suc, ◌≡◌, ◌==◌, ◌+◌, ◌≤◌, ◌<◌, ◌⊎◌, not, Bool, true, false, if◌then◌else◌, List, [], ◌∷◌, ◌++◌, map, filter, All, length}
use Rattle.std.specs.List.{list_any}
use Rattle.osgi_ops.specs.Callers.{by}
use Rattle.osgi_session.specs.Lines.{has_command}
use Rattle.osgi_session.specs.Runs.{Call, call, Follows, IsCutRun, IsSpentRun, Sections}
use Rattle.osgi_session.specs.declared.command.Command.{Command}
use Rattle.osgi_ops.specs.declared.limits.TheConstants.{MAX_LANES}
use Rattle.osgi_ops.specs.declared.entry.Entry.{Entry}
use Rattle.osgi_session.specs.declared.line.Content.TheVariants as content
use Rattle.osgi_session.specs.declared.line.Line.{Line}

abbrev pub call_of : Entry → Call
call_of e = call e.op e.reply

-- the entries are tagged with the caller and the line's number
abbrev pub AreTagged : ℕ → Line → List Entry → Type 0
AreTagged caller line entries = All (λ (e : Entry). e.tag ≡ record { caller = caller; command = line.number }) entries

-- the entries are the caller's whole run of the line's command
pub record IsRunOf (script : Sections) (caller : ℕ) (line : Line) (entries : List Entry) : Type 0 where
  pub command : Command
  pub says : line.content ≡ content.Run command
  pub tagged : AreTagged caller line entries
  pub follows : Follows script command (map call_of entries)

abbrev pub IsCut : Sections → Command → Bool → List Call → Type 0
IsCut script command true calls = IsSpentRun script command calls
IsCut script command false calls = IsCutRun script command calls

-- they are a run of it that was cut, or never begun; `spent` says that it ends with a Hand refused since enough was handed
pub record IsCutRunOf (script : Sections) (caller : ℕ) (line : Line) (spent : Bool) (entries : List Entry) : Type 0 where
  pub command : Command
  pub says : line.content ≡ content.Run command
  pub tagged : AreTagged caller line entries
  pub cut : IsCut script command spent (map call_of entries)

-- ---- blocks

-- what runs at a time: a line of caller 0, or lanes beside one another, each with its lines
pub data Block : Type 0 where
  plain : Line → Block
  beside : List (List Line) → Block

abbrev pub is_join : Line → Bool
is_join line = elim line.content [ content.Join ↦ true | _ ↦ false ]

abbrev pub of_lane : ℕ → List Line → List Line
of_lane lane lines = filter (λ (line : Line). line.lane == lane) lines

abbrev pub unless_empty : List Line → List (List Line)
unless_empty [] = []
unless_empty lines = lines ∷ []

-- the lanes with lines, from this one on, so many of them
abbrev pub lanes_from : ℕ → ℕ → List Line → List (List Line)
lanes_from zero lane lines = []
lanes_from (suc more) lane lines =
    unless_empty (of_lane lane lines) ++ lanes_from more (lane + 1) lines

-- lanes are numbered from 1 to MAX_LANES
abbrev pub lanes_of : List Line → List (List Line)
lanes_of lines = lanes_from MAX_LANES 1 lines

abbrev pub gathered : List Line → List Block
gathered [] = []
gathered lines = beside (lanes_of lines) ∷ []

-- lines gathered so far, and those that follow: lines without a command count for nothing, but for a join
abbrev pub blocks_after : List Line → List Line → List Block
blocks_after gathering [] = gathered gathering
blocks_after gathering (line ∷ rest) =
    if is_join line then gathered gathering ++ blocks_after [] rest
    else (if not (has_command line.content) then blocks_after gathering rest
    else (if line.lane == 0 then gathered gathering ++ (plain line ∷ blocks_after [] rest) else blocks_after (gathering ++ line ∷ []) rest))

abbrev pub blocks : List Line → List Block
blocks lines = blocks_after [] lines

-- ---- sessions

-- what one caller's lines make: a whole run of each, one after another; where it is lawful a run is cut, and then no later one
-- has entries. The truth value says that a run was cut
pub data Lane (script : Sections) (lawful : Bool → Type 0) (caller : ℕ) : Bool → List Line → List Entry → Type 0 where
  -- no lines make no entries
  over : Lane script lawful caller false [] []
  -- a line: a whole run of it, then what the other lines make
  ran : {cut : Bool} {line : Line} {lines : List Line} {entries rest : List Entry} →
      IsRunOf script caller line entries → Lane script lawful caller cut lines rest → Lane script lawful caller cut (line ∷ lines) (entries ++ rest)
  -- or a run of it that was cut, where it is lawful, and nothing more
  cut : {spent : Bool} {line : Line} {lines : List Line} {entries : List Entry} →
      IsCutRunOf script caller line spent entries → lawful spent → Lane script lawful caller true (line ∷ lines) entries

-- how a lane ran: its lines, and whether a run of one was cut
pub record LaneRun : Type 0 where
  pub cut : Bool
  pub lines : List Line

-- of lanes beside one another no run was cut, or one was
abbrev pub NoneCut : List LaneRun → Type 0
NoneCut each = All (λ (lane : LaneRun). lane.cut ≡ false) each

abbrev pub SomeCut : List LaneRun → Type 0
SomeCut each = list_any (λ (lane : LaneRun). lane.cut) each ≡ true

abbrev pub lines_of : List LaneRun → List (List Line)
lines_of each = map (λ (lane : LaneRun). lane.lines) each

-- each caller's entries in this part are what its lane makes; callers are numbered by rising lane from the first
abbrev pub AreLanes : Sections → (Bool → Type 0) → ℕ → List LaneRun → List Entry → Type 0
AreLanes script lawful first [] part = All (λ (e : Entry). e.tag.caller < first) part
AreLanes script lawful first (lane ∷ more) part =
    Lane script lawful first lane.cut lane.lines (by first part) × AreLanes script lawful (first + 1) more part

-- the entries are all by callers from the next one on
abbrev pub AreByLater : ℕ → List Entry → Type 0
AreByLater next part = All (λ (e : Entry). next ≤ e.tag.caller) part

-- the blocks make the history, the next caller's number being given: block after block, and after a cut nothing more
pub data Makes (script : Sections) (lawful : Bool → Type 0) : ℕ → List Block → List Entry → Type 0 where
  -- no blocks make no entries
  over : {next : ℕ} → Makes script lawful next [] []
  -- a plain line: a whole run of it by caller 0, then what the other blocks make
  ran : {next : ℕ} {line : Line} {more : List Block} {entries rest : List Entry} →
      IsRunOf script 0 line entries → Makes script lawful next more rest → Makes script lawful next (plain line ∷ more) (entries ++ rest)
  -- or a run of it that was cut, where it is lawful, and nothing more
  cut : {next : ℕ} {spent : Bool} {line : Line} {more : List Block} {entries : List Entry} →
      IsCutRunOf script 0 line spent entries → lawful spent → Makes script lawful next (plain line ∷ more) entries
  -- lanes beside one another, a caller each from the next one on: if none was cut, what they make, then what the other blocks make
  lanes : {next : ℕ} (each : List LaneRun) (part : List Entry) {more : List Block} {rest : List Entry} → AreByLater next part → AreLanes script lawful next each part →
      NoneCut each → Makes script lawful (next + length each) more rest → Makes script lawful next (beside (lines_of each) ∷ more) (part ++ rest)
  -- if one was cut, what they make, and nothing more
  lanes_cut : {next : ℕ} (each : List LaneRun) (part : List Entry) {more : List Block} → AreByLater next part → AreLanes script lawful next each part →
      SomeCut each → Makes script lawful next (beside (lines_of each) ∷ more) part

-- a run may be cut where enough was handed, where the whole history is as long as it may be, or where memory was wanting,
-- which is status 5
abbrev pub MayBeCut : ℕ → ℕ → List Entry → Bool → Type 0
MayBeCut limit status history spent = (spent ≡ true) ⊎ (length history ≡ limit) ⊎ (status ≡ 5)

-- the history is what the lines make, under this limit of entries, in a session that ended with this status
abbrev pub IsWhole : Sections → ℕ → ℕ → List Line → List Entry → Type 0
IsWhole script limit status lines history = Makes script (MayBeCut limit status history) 1 (blocks lines) history

-- no run was cut: it is so where the session ended with status 0 or 1
abbrev pub Never : Bool → Type 0
Never spent = ⊥

abbrev pub Uncut : Sections → List Line → List Entry → Type 0
Uncut script lines history = Makes script Never 1 (blocks lines) history
