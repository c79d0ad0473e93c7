-- Scripts: which texts are scripts, and which scripts they are.
use Rattle.std.specs.Prelude.{ℕ, ◌≡◌, ◌≢◌, ◌≤◌, ◌+◌, List, [], ◌∷◌, ◌++◌, length, codes, All, AllPairs}
use Rattle.std.specs.Str.Lines.{lines}
use Rattle.osgi_ops.specs.declared.section.Section.{Section}
use Rattle.osgi_ops.specs.declared.section.Section.TheVariants.{Start, Stop, On, Job}
use Rattle.osgi_session.specs.declared.statement.Statement.{Statement}
use Rattle.osgi_syntax.specs.Lines.{SaysNothing}
use Rattle.osgi_syntax.specs.Words.{AreSpaces, IsName, IsSeparated}
use Rattle.osgi_script.specs.Statements.{IsStatement}
use Rattle.osgi_session.specs.declared.script.Part.{Part}
use Rattle.osgi_session.specs.declared.script.Script.{Script}
use Rattle.osgi_script.specs.declared.script.ScriptFault.{ScriptFault}
use Rattle.osgi_script.specs.declared.script.TheConstants.{MAX_STATEMENTS}

-- the words of a section's head
pub data AreWordsOfHead : List (List ℕ) → Section → Type 0 where
  -- `start:`
  start : AreWordsOfHead (codes "start:" ∷ []) Start
  -- `stop:`
  stop : AreWordsOfHead (codes "stop:" ∷ []) Stop
  -- `on NAME:`
  on : {name : List ℕ} → IsName name → AreWordsOfHead (codes "on" ∷ (name ++ codes ":") ∷ []) (On name)
  -- `job NAME:`
  job : {name : List ℕ} → IsName name → AreWordsOfHead (codes "job" ∷ (name ++ codes ":") ∷ []) (Job name)

-- the line is the head of this section: the words of the head, separated by spaces. Spaces may stand at both ends of the line
abbrev pub IsHead : List ℕ → Section → Type 0
IsHead line section = (words : List (List ℕ)) × AreWordsOfHead words section × IsSeparated AreSpaces words (32 ∷ line)

-- the lines are these statements in order; lines that say nothing may stand between them
pub data AreStatements : List (List ℕ) → List Statement → Type 0 where
  none : AreStatements [] []
  skipped : {line : List ℕ} {lines : List (List ℕ)} {statements : List Statement} →
      SaysNothing line → AreStatements lines statements → AreStatements (line ∷ lines) statements
  statement : {line : List ℕ} {lines : List (List ℕ)} {first : Statement} {statements : List Statement} →
      IsStatement line first → AreStatements lines statements → AreStatements (line ∷ lines) (first ∷ statements)

-- the lines are these parts in order. A part is the line of its head, then the lines of its statements, of which there are so
-- many at most
pub data AreParts : List (List ℕ) → List Part → Type 0 where
  no_parts : AreParts [] []
  part : {head : List ℕ} {own rest : List (List ℕ)} {first : Part} {parts : List Part} →
      IsHead head first.section → AreStatements own first.statements → length first.statements ≤ MAX_STATEMENTS → AreParts rest parts →
      AreParts (head ∷ own ++ rest) (first ∷ parts)

-- the lines are this script: first lines that say nothing, then the parts. No two parts have the same section
pub record AreScriptLines (all : List (List ℕ)) (script : Script) : Type 0 where
  pub before : List (List ℕ)
  pub rest : List (List ℕ)
  pub are : all ≡ before ++ rest
  pub silent : All SaysNothing before
  pub parts : AreParts rest script.sections
  pub apart : AllPairs (λ (p q : Part). p.section ≢ q.section) script.sections

-- the number, counted from 1, of the first line that cannot stand there in any script: the lines before it are a script, and no
-- script begins with them and this line
pub record IsFirstBadLine (all : List (List ℕ)) (fault : ScriptFault) : Type 0 where
  pub before : List (List ℕ)
  pub line : List ℕ
  pub rest : List (List ℕ)
  pub are : all ≡ before ++ line ∷ rest
  pub number : fault.line ≡ length before + 1
  pub script : Script
  pub reads : AreScriptLines before script
  pub stops : (more : List (List ℕ)) (other : Script) → ¬ AreScriptLines (before ++ line ∷ more) other

-- the text is this script. A line ends by LF or CRLF, which the last one need not have
abbrev pub ReadsScript : List ℕ → Script → Type 0
ReadsScript text script = AreScriptLines (lines text) script

-- the text is no script, and the fault is its first bad line
abbrev pub IsScriptFault : List ℕ → ScriptFault → Type 0
IsScriptFault text fault = IsFirstBadLine (lines text) fault

-- the text is a script
abbrev pub IsScript : List ℕ → Type 0
IsScript text = (script : Script) × ReadsScript text script
