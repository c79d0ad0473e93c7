-- What the reader computes of the lines of a script: it is proved to give the readings of the grammar.
use Rattle.std.specs.Prelude.{ℕ, ◌≡◌, ◌+◌, nat_lt, if◌then◌else◌, Bool, true, false, List, [], ◌∷◌, ◌++◌, length, Option, None, Some, Result, Ok, Err}
use Rattle.std.specs.BTreeSet.{contains}
use Rattle.std.specs.Cmp.Lexicographic.{slice_cmp}
use Rattle.std.specs.List.{list_any}
use Rattle.std.specs.Option.{option_map}
use Rattle.std.specs.Ordering.{nat_cmp}
use Rattle.osgi_ops.specs.declared.section.Section.{Section}
use Rattle.osgi_ops.specs.declared.section.Section.TheVariants.{Start, Stop, On, Job, Make}
use Rattle.osgi_session.specs.Scripts.{is_section}
use Rattle.osgi_session.specs.declared.statement.Statement.{Statement}
use Rattle.osgi_script.specs.declared.lines.ScriptLine.{ScriptLine}
use Rattle.osgi_script.specs.declared.lines.ScriptLine.TheVariants as line
use Rattle.osgi_session.specs.declared.script.Part.{Part}
use Rattle.osgi_session.specs.declared.script.Script.{Script}
use Rattle.osgi_script.specs.declared.script.ScriptFault.{ScriptFault}
use Rattle.osgi_script.specs.declared.taken.Taken.{Taken}
use Rattle.osgi_script.specs.computed.HeadReader.{head_of}
use Rattle.osgi_script.specs.computed.StatementReader.{statement_of}
use Rattle.osgi_syntax.specs.LineReader.{is_silent}
use Rattle.osgi_syntax.specs.Splitting.{after_spaces}
use Rattle.osgi_script.specs.declared.script.TheConstants.{MAX_STATEMENTS}

-- ---- lines

abbrev pub head_or_bad : Option Section → ScriptLine
head_or_bad None = line.Bad
head_or_bad (Some section) = line.Head section

abbrev pub statement_or : ScriptLine → Option Statement → ScriptLine
statement_or other None = other
statement_or other (Some statement) = line.Statement statement

abbrev pub line_of : List ℕ → ScriptLine
line_of text = if is_silent (after_spaces text) then line.Empty else statement_or (head_or_bad (head_of text)) (statement_of text)

-- ---- sections

abbrev pub has_section : List Part → Section → Bool
has_section parts section = list_any (λ (part : Part). is_section section part.section) parts

-- whether a section has a head already
abbrev pub is_taken : Taken → Section → Bool
is_taken taken Start = taken.start
is_taken taken Stop = taken.stop
is_taken taken (On name) = contains (slice_cmp nat_cmp) taken.on name
is_taken taken (Job name) = contains (slice_cmp nat_cmp) taken.job name
is_taken taken (Make name) = contains (slice_cmp nat_cmp) taken.make name

-- the sections that have heads are those of the parts
abbrev pub AreTaken : Taken → List Part → Type 0
AreTaken taken parts = (section : Section) → is_taken taken section ≡ has_section parts section

-- ---- scripts

abbrev pub opened : Section → Part
opened section = record { section = section; statements = [] }

abbrev pub with_statement : Part → Statement → Part
with_statement part statement = record { section = part.section; statements = part.statements ++ statement ∷ [] }

-- the parts with one statement more in the last of them
abbrev pub add_statement : Statement → List Part → Option (List Part)
add_statement statement [] = None
add_statement statement (part ∷ []) = if nat_lt (length part.statements) MAX_STATEMENTS then Some (with_statement part statement ∷ []) else None
add_statement statement (part ∷ next ∷ parts) = option_map (λ rest. part ∷ rest) (add_statement statement (next ∷ parts))

-- the parts with what a line adds to them; none where no script goes on so
abbrev pub add_line : List Part → ScriptLine → Option (List Part)
add_line parts line.Empty = Some parts
add_line parts (line.Head section) = if has_section parts section then None else Some (parts ++ opened section ∷ [])
add_line parts (line.Statement statement) = add_statement statement parts
add_line parts line.Bad = None

-- whether a line added something, or no script goes on so
abbrev pub IsAdded : Taken → List Part → List Part → ScriptLine → Bool → Type 0
IsAdded taken old new line true = (add_line old line ≡ Some new) × AreTaken taken new
IsAdded taken old new line false = add_line old line ≡ None

-- what is read of lines that follow so many others, which made these parts
abbrev pub read_next : (List Part → Result Script ScriptFault) → ℕ → Option (List Part) → Result Script ScriptFault
read_next more number None = Err (record { line = number })
read_next more number (Some parts) = more parts

abbrev pub script_from : ℕ → List Part → List (List ℕ) → Result Script ScriptFault
script_from read parts [] = Ok (record { sections = parts })
script_from read parts (text ∷ texts) = read_next (λ next. script_from (read + 1) next texts) (read + 1) (add_line parts (line_of text))

abbrev pub script_of : List (List ℕ) → Result Script ScriptFault
script_of texts = script_from 0 [] texts
