-- A session as it ran, before its text is written. No public promise speaks of this.
use Rattle.std.specs.Prelude.{ℕ, Bool, ◌≡◌, ◌==◌, if◌then◌else◌, List, [], length}
use Rattle.std.specs.List.{count_by}
use Rattle.osgi_legal.specs.Legal.{Legal}
use Rattle.osgi_ops.specs.Settings.{Bounds}
use Rattle.osgi_ops.specs.declared.entry.Entry.{Entry}
use Rattle.osgi_console.specs.Console.{AreLinesOf}
use Rattle.osgi_core.specs.Sound.{IsSoundTelling}
use Rattle.osgi_depot.specs.Depots.{IsDepotOf}
use Rattle.osgi_program.specs.Outcome.{is_handing, is_troubled, Shelved}
use Rattle.osgi_program.specs.computed.Running.{RunsLines}
use Rattle.osgi_program.specs.declared.lines.Ran.{Ran}
use Rattle.osgi_program.specs.declared.lines.Ran.TheVariants.{Cut}
use Rattle.osgi_program.specs.declared.session.Session.{Session}
use Rattle.osgi_program.specs.declared.session.TheConstants.{DONE, TROUBLED, CUT}
use Rattle.osgi_session.specs.Scripts.{sections_of}

-- the entry hands an event
unfoldable pub hands : Entry → Bool
hands e = is_handing e.reply

-- the lines of the input ran so far, from the empty history
pub record IsRun (bounds : Bounds) (input : List ℕ) (shelf : Shelved) (ran : Ran) (session : Session) : Type 0 where
  pub lines : AreLinesOf 0 input session.lines
  pub depot : IsDepotOf session.lines shelf.told shelf.before shelf.after session.depot.rows session.scripts.rows
  pub legal : Legal (record { bounds = bounds; depot = session.depot.rows }) session.entries
  pub sound : IsSoundTelling legal.1.told
  pub runs : RunsLines ran (sections_of session.scripts) (length session.entries == bounds.entries) session.lines [] session.entries
  pub handings : session.handings ≡ count_by hands session.entries
  pub peeks : session.peeks ≡ []

-- the status by how the lines ran
abbrev pub status_by : Ran → Session → ℕ
status_by Cut session = CUT
status_by _ session = if is_troubled session.lines session.entries then TROUBLED else DONE
