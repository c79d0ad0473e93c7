-- The text of a session: what each line and each entry writes.
use Rattle.std.specs.Prelude.{ℕ, ◌≡◌, ◌↔◌, ◌&&◌, ◌||◌, ◌==◌, ◌+◌, not, if◌then◌else◌, Bool, true, false, List, [], ◌∷◌, ◌++◌, Option, None, Some, codes, filter, length, map, replicate}
use Rattle.std.specs.List.{concat, join_with_byte}
use Rattle.std.specs.Fmt.{decimal, signed_decimal}
use Rattle.std.specs.Option.{option_to_list}
use Rattle.osgi_base.specs.declared.ids.BundleId.{BundleId}
use Rattle.osgi_base.specs.declared.ids.RevisionId.{RevisionId}
use Rattle.osgi_base.specs.declared.ids.ServiceId.{ServiceId}
use Rattle.osgi_ops.specs.Along.{along}
use Rattle.osgi_ops.specs.Brackets.{brackets_of}
use Rattle.osgi_ops.specs.Conditions.{lesser}
use Rattle.osgi_ops.specs.Levels.{active_level}
use Rattle.osgi_session.specs.Lines.{entries_of, has_command, is_of}
use Rattle.osgi_session.specs.RefusalTexts.{refusal_text, spaced}
use Rattle.osgi_session.specs.Runs.{Sections}
use Rattle.osgi_session.specs.Sessions.{IsRunOf}
use Rattle.osgi_ops.specs.declared.event.Event.{Event}
use Rattle.osgi_ops.specs.declared.event.Event.TheVariants as event
use Rattle.osgi_ops.specs.declared.object_id.ObjectId.{ObjectId}
use Rattle.osgi_ops.specs.declared.op.Op.{Op}
use Rattle.osgi_ops.specs.declared.op.Op.TheVariants as op
use Rattle.osgi_ops.specs.declared.reply.Reply.{Reply}
use Rattle.osgi_ops.specs.declared.reply.Reply.TheVariants as answer
use Rattle.osgi_ops.specs.declared.entry.Entry.{Entry}
use Rattle.osgi_ops.specs.declared.peek.Peek.{Peek}
use Rattle.osgi_ops.specs.declared.rows.BundleRow.{BundleRow}
use Rattle.osgi_ops.specs.declared.rows.WireRow.{WireRow}
use Rattle.osgi_ops.specs.declared.service.ServiceRow.{ServiceRow}
use Rattle.osgi_session.specs.declared.line.Content.{Content}
use Rattle.osgi_session.specs.declared.line.Content.TheVariants.{Empty, Join, Bad, Run}
use Rattle.osgi_session.specs.declared.line.Line.{Line}
use Rattle.osgi_version.specs.VersionValues.{parts, parts_text}

-- ids, which have these numbers, each after a space; `none` where there are none
abbrev pub ids_text : {A : Type 0} → (A → ℕ) → List A → List ℕ
ids_text number [] = codes " none"
ids_text number ids = concat (map (λ id. codes " " ++ decimal (number id)) ids)

abbrev pub services_text : List ServiceId → List ℕ
services_text services = ids_text (λ (id : ServiceId). id.0) services

abbrev pub bundles_text : List BundleId → List ℕ
bundles_text bundles = ids_text (λ (id : BundleId). id.0) bundles

-- a text between quotes, with a `\` before each `"` and `\`
abbrev pub quoted : List ℕ → List ℕ
quoted text = 34 ∷ concat (map (λ b. if (b == 34) || (b == 92) then 92 ∷ b ∷ [] else b ∷ []) text) ++ 34 ∷ []

abbrev pub truth : Bool → List ℕ
truth true = codes "true"
truth false = codes "false"

-- what the list of services shows of one
abbrev pub service_row_text : ServiceRow → List ℕ
service_row_text row =
    codes "service " ++ decimal row.service.0 ++ codes " " ++ decimal row.owner.0 ++ codes " " ++ signed_decimal row.ranking ++ codes " "
    ++ join_with_byte 44 row.classes ++ codes " " ++ quoted row.object

-- a line for each service; `none` where there are none
abbrev pub service_lines : List ServiceRow → List (List ℕ)
service_lines [] = codes "none" ∷ []
service_lines rows = map service_row_text rows

-- what the list of bundles shows of one; the version is as it is printed
abbrev pub bundle_row_text : BundleRow → List ℕ
bundle_row_text row =
    codes "bundle" ++ spaced (decimal row.bundle.0) ++ spaced (decimal row.state) ++ spaced (decimal row.level) ++ spaced row.name
    ++ spaced (parts_text (parts row.version))

-- the bundle, the version and the revision of a provider or of a fragment
abbrev pub revision_text : WireRow → List ℕ
revision_text row = spaced (decimal row.bundle.0) ++ spaced (parts_text (parts row.version)) ++ spaced (codes "r" ++ decimal row.revision.0)

abbrev pub wire_row_text : WireRow → List ℕ
wire_row_text row = codes "wire" ++ spaced row.namespace ++ spaced row.name ++ revision_text row

abbrev pub fragment_row_text : WireRow → List ℕ
fragment_row_text row = codes "fragment" ++ revision_text row

-- a line for each wire, then one for each fragment; `none` where there are neither
abbrev pub wire_lines : List WireRow → List WireRow → List (List ℕ)
wire_lines [] [] = codes "none" ∷ []
wire_lines rows fragments = map wire_row_text rows ++ map fragment_row_text fragments

-- an event as a listener's hand writes it
abbrev pub event_text : Event → List ℕ
event_text (event.Service code service) = codes "service" ++ spaced (decimal code) ++ spaced (decimal service.0)
event_text (event.Bundle code bundle) = codes "bundle" ++ spaced (decimal code) ++ spaced (decimal bundle.0)
event_text (event.Framework code) = codes "framework" ++ spaced (decimal code)

-- an object that a factory made
abbrev pub held_text : ObjectId → List ℕ → List ℕ
held_text object text = codes "object" ++ spaced (codes "o" ++ decimal object.0) ++ spaced (quoted text)

abbrev pub loaded_text : Option RevisionId → List ℕ
loaded_text None = codes "none"
loaded_text (Some r) = codes "r" ++ decimal r.0

abbrev pub wired_row_text : WireRow → List ℕ
wired_row_text row = codes "wired" ++ spaced row.namespace ++ spaced row.name ++ revision_text row

-- the wire that a load added
abbrev pub added_lines : Option WireRow → List (List ℕ)
added_lines None = []
added_lines (Some row) = wired_row_text row ∷ []

-- what an operation writes that was done, where this is the active start level
abbrev pub done_lines : ℕ → Op → List (List ℕ)
done_lines level (op.Modify owner service properties) = (codes "modified" ++ spaced (decimal service.0)) ∷ []
done_lines level (op.Unregister owner service) = (codes "unregistered" ++ spaced (decimal service.0)) ∷ []
done_lines level (op.UngetOwn user service object) = (codes "ungetown" ++ spaced (codes "o" ++ decimal object.0)) ∷ []
done_lines level (op.QueueJob owner name) = codes "queued" ∷ []
done_lines level (op.Print owner text) = text ∷ []
done_lines level (op.Fail owner text) = (codes "fail" ++ spaced (quoted text)) ∷ []
done_lines level (op.EndStart bundle failed) = (codes "started" ++ spaced (decimal bundle.0)) ∷ []
done_lines level (op.EndStop bundle failed) = (codes "stopped" ++ spaced (decimal bundle.0)) ∷ []
done_lines level (op.Update bundle location) = (codes "updated" ++ spaced (decimal bundle.0)) ∷ []
done_lines level (op.Uninstall bundle) = (codes "uninstalled" ++ spaced (decimal bundle.0)) ∷ []
done_lines level op.EndRefresh = codes "refreshed" ∷ []
done_lines level op.EndLevel = (codes "level done" ++ spaced (decimal level)) ∷ []
done_lines level _ = []

-- the lines that an operation and its reply write, where this was the active start level before them. Other answers write nothing
abbrev pub entry_lines : ℕ → Op → Reply → List (List ℕ)
entry_lines level o (answer.Service service) = (codes "service" ++ spaced (decimal service.0)) ∷ []
entry_lines level o (answer.Best service) = (codes "found" ++ services_text (option_to_list service)) ∷ []
entry_lines level o (answer.Services services) = (codes "found" ++ services_text services) ∷ []
entry_lines level o (answer.Object text) = (codes "object" ++ spaced (quoted text)) ∷ []
entry_lines level o (answer.Held object text) = held_text object text ∷ []
entry_lines level o (answer.Make owner row name) = (codes "making" ++ spaced (decimal owner.0) ++ spaced name) ∷ []
entry_lines level o (answer.Waiting bundle) = (codes "waiting" ++ spaced (decimal bundle.0)) ∷ []
entry_lines level o (answer.LoadedMore by wire wake) = added_lines wire ++ (codes "loaded" ++ spaced (loaded_text by)) ∷ []
entry_lines level o (answer.Listener listener) = (codes "listener" ++ spaced (decimal listener.0)) ∷ []
entry_lines level o (answer.Handed listener kind owner row name e) = (codes "event" ++ spaced (decimal listener.0) ++ spaced (event_text e)) ∷ []
entry_lines level o (answer.Job owner row name) = (codes "job" ++ spaced (decimal owner.0) ++ spaced name) ∷ []
entry_lines level o (answer.Bundle bundle known) = (codes "bundle" ++ spaced (decimal bundle.0)) ∷ []
entry_lines level o (answer.Resolved added) = (codes "resolved" ++ bundles_text added) ∷ []
entry_lines level o (answer.Kept bundle) = (codes "kept" ++ spaced (decimal bundle.0)) ∷ []
entry_lines level o (answer.Active bundle) = (codes "active" ++ spaced (decimal bundle.0)) ∷ []
entry_lines level (op.BeginStart bundle transient) (answer.Begun begun row) = (codes "starting" ++ spaced (decimal begun.0)) ∷ []
entry_lines level (op.BeginStop target transient) (answer.Begun begun row) = (codes "stopping" ++ spaced (decimal begun.0)) ∷ []
entry_lines level o (answer.Idle bundle) = (codes "idle" ++ spaced (decimal bundle.0)) ∷ []
entry_lines level o (answer.Closure all active) = (codes "refreshing" ++ bundles_text all) ∷ []
entry_lines level op.DropWirings (answer.Ids ids) = (codes "unresolved" ++ bundles_text ids) ∷ []
entry_lines level o (answer.Level from to) = (codes "level" ++ spaced (decimal from) ++ spaced (decimal to)) ∷ []
entry_lines level (op.MoveLevel to) (answer.Moved bundles) = (codes "level at" ++ spaced (decimal to)) ∷ []
entry_lines level (op.SetBundleLevel bundle own) (answer.Leveled value) = (codes "blevel" ++ spaced (decimal bundle.0) ++ spaced (decimal own)) ∷ []
entry_lines level o (answer.Loaded by) = (codes "loaded" ++ spaced (loaded_text by)) ∷ []
entry_lines level o (answer.Bundles rows) = map bundle_row_text rows
entry_lines level o (answer.ServiceRows rows) = service_lines rows
entry_lines level o (answer.Wires rows fragments) = wire_lines rows fragments
entry_lines level o (answer.Refused refusal) = refusal_text refusal ∷ []
entry_lines level (op.Unget user service) (answer.Flag value) = (codes "unget" ++ spaced (truth value)) ∷ []
entry_lines level (op.RemoveListener owner name) (answer.Flag value) = (codes "unlisten" ++ spaced (truth value)) ∷ []
entry_lines level o answer.Done = done_lines level o
entry_lines level _ _ = []

-- ---- depth

-- how many brackets of its caller are open before the entry, or after it where these are fewer
abbrev pub depth : List Entry → Entry → ℕ
depth before e = lesser (length (brackets_of e.tag.caller before)) (length (brackets_of e.tag.caller (before ++ e ∷ [])))

-- two spaces for each
abbrev pub indented : ℕ → List ℕ → List ℕ
indented n line = replicate (n + n) 32 ++ line

abbrev pub with_line_end : List ℕ → List ℕ
with_line_end line = line ++ 10 ∷ []

-- a line at this depth
abbrev pub line_at : ℕ → List ℕ → List ℕ
line_at n line = with_line_end (indented n line)

abbrev pub lines_at : ℕ → List (List ℕ) → List ℕ
lines_at n lines = concat (map (line_at n) lines)

abbrev pub entry_text : List Entry → Entry → List ℕ
entry_text before e = lines_at (depth before e) (entry_lines (active_level before) e.op e.reply)

-- the entries of a line write their texts, in order of the history
abbrev pub entries_text : ℕ → List Entry → List ℕ
entries_text number history = along (λ before e. if is_of number e then entry_text before e else []) [] history

-- ---- lines

abbrev pub takes_no_job : Op → Reply → Bool
takes_no_job op.TakeJob answer.NoJob = true
takes_no_job _ _ = false

-- the entries end with a TakeJob that found no job
abbrev pub ends_without_job : List Entry → Bool
ends_without_job [] = false
ends_without_job (e ∷ []) = takes_no_job e.op e.reply
ends_without_job (e ∷ more) = ends_without_job more

-- the line has a command, and its entries do not end so
abbrev pub is_full : List Entry → Line → Bool
is_full history line = has_command line.content && not (ends_without_job (entries_of line history))

-- a line with a command is not full exactly where there is a caller whose whole run of its plan its entries are; their tags say which
abbrev pub IsFullWhereCut : Sections → List Entry → Line → Type 0
IsFullWhereCut scripts history line =
    has_command line.content ≡ true → (is_full history line ≡ false) ↔ ((caller : ℕ) × IsRunOf scripts caller line (entries_of line history))

-- what a line's peek writes: how many entries there were, and the services
abbrev pub peek_text : Peek → List ℕ
peek_text p = with_line_end (codes "peek" ++ spaced (decimal p.place) ++ services_text p.services)

-- the peeks of a line
abbrev pub peeks_text : ℕ → List Peek → List ℕ
peeks_text number peeks = concat (map peek_text (filter (λ (p : Peek). p.tag.command == number) peeks))

abbrev pub content_text : List Entry → List Peek → ℕ → Content → List ℕ
content_text history peeks number Empty = []
content_text history peeks number Join = []
content_text history peeks number Bad = with_line_end (codes "syntax")
content_text history peeks number (Run command) = peeks_text number peeks ++ entries_text number history

-- a line writes its text, and `full` where it is so
abbrev pub line_text : List Entry → List Peek → Line → List ℕ
line_text history peeks line = content_text history peeks line.number line.content ++ (if is_full history line then with_line_end (codes "full") else [])

-- the lines write their texts in input order
abbrev pub render : List Line → List Entry → List Peek → List ℕ
render lines history peeks = concat (map (line_text history peeks) lines)
