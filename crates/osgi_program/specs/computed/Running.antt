-- How lines run in a hall.
use Rattle.std.specs.Prelude.{◌≡◌, ◌⊎◌, true, false, Bool, List}
use Rattle.osgi_ops.specs.declared.entry.Entry.{Entry}
use Rattle.osgi_program.specs.declared.lines.Ran.{Ran}
use Rattle.osgi_program.specs.declared.lines.Ran.TheVariants.{All, Cut, Starved}
use Rattle.osgi_runner.specs.Calls.{Adds, IsCutShort}
use Rattle.osgi_runs.specs.Plain.{commands_in}
use Rattle.osgi_session.specs.Lines.{has_command}
use Rattle.osgi_session.specs.Runs.{Sections}
use Rattle.osgi_session.specs.Sessions.{IsCutRunOf, IsRunOf, Lane, Never}
use Rattle.osgi_session.specs.declared.line.Line.{Line}

-- one line with a command, after which the history was seen to be full or was not: the entries that it added are its whole run; or a run
-- that was cut, since enough was handed or the history is full; or since memory ran out
abbrev pub RunsCommand : Ran → Sections → Bool → Line → List Entry → List Entry → Type 0
RunsCommand All script full line before after = Adds (IsRunOf script 0 line) before after
RunsCommand Cut script full line before after = IsCutShort script 0 line full before after
RunsCommand Starved script full line before after = Adds (IsCutRunOf script 0 line false) before after

-- one line: it has no command and added nothing, or its command ran
abbrev pub RunsLine : Ran → Sections → Bool → Line → List Entry → List Entry → Type 0
RunsLine how script full line before after =
    ((has_command line.content ≡ false) × (how ≡ All) × (after ≡ before)) ⊎ RunsCommand how script full line before after

-- a run is cut since enough was handed, or since the history is full
abbrev pub IsSpentOrFull : Bool → Bool → Type 0
IsSpentOrFull full spent = (spent ≡ true) ⊎ (full ≡ true)

-- a run is cut, and not since enough was handed
abbrev pub Unspent : Bool → Type 0
Unspent spent = spent ≡ false

-- all lines, up to one whose run was cut
abbrev pub RunsLines : Ran → Sections → Bool → List Line → List Entry → List Entry → Type 0
RunsLines All script full lines before after = Adds (Lane script Never 0 false (commands_in lines)) before after
RunsLines Cut script full lines before after = Adds (Lane script (IsSpentOrFull full) 0 true (commands_in lines)) before after
RunsLines Starved script full lines before after = Adds (Lane script Unspent 0 true (commands_in lines)) before after
