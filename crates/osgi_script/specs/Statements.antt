-- The statements of scripts: which lines are statements, and which statements they are.
use Rattle.std.specs.Prelude.{ℕ, List, [], ◌∷◌, codes, Option}
use Rattle.osgi_base.specs.Quotes.{IsQuoted}
use Rattle.osgi_model.specs.declared.filter.Filter.{Filter}
use Rattle.osgi_model.specs.declared.value.Attribute.{Attribute}
use Rattle.osgi_ops.specs.declared.kind.Kind.{Kind}
use Rattle.osgi_ops.specs.declared.kind.Kind.TheVariants.{Service, All, Bundle, Framework}
use Rattle.osgi_session.specs.declared.statement.Statement.{Statement}
use Rattle.osgi_session.specs.declared.statement.Statement.TheVariants as statement
use Rattle.osgi_syntax.specs.Lines.{IsFilterEnd}
use Rattle.osgi_syntax.specs.Properties.{AreProperties}
use Rattle.osgi_syntax.specs.Words.{AreClasses, AreSpaces, IsBundleName, IsClass, IsName, IsSeparated}

-- the words of a statement that cannot end with a filter
pub data AreStatementWords : List (List ℕ) → Statement → Type 0 where
  -- `register VAR CLASS[,CLASS].. "TEXT" [PROP]..`
  register : {var names quoted : List ℕ} {words classes : List (List ℕ)} {object : List ℕ} {properties : List Attribute} →
      IsName var → AreClasses names classes → IsQuoted quoted object → AreProperties words properties →
      AreStatementWords (codes "register" ∷ var ∷ names ∷ quoted ∷ words) (statement.Register var classes object properties)
  -- `modify VAR [PROP]..`
  modify : {var : List ℕ} {words : List (List ℕ)} {properties : List Attribute} →
      IsName var → AreProperties words properties → AreStatementWords (codes "modify" ∷ var ∷ words) (statement.Modify var properties)
  -- `unregister VAR`
  unregister : {var : List ℕ} → IsName var → AreStatementWords (codes "unregister" ∷ var ∷ []) (statement.Unregister var)
  -- `get VAR`
  get : {var : List ℕ} → IsName var → AreStatementWords (codes "get" ∷ var ∷ []) (statement.Get var)
  -- `unget VAR`
  unget : {var : List ℕ} → IsName var → AreStatementWords (codes "unget" ∷ var ∷ []) (statement.Unget var)
  -- `start BNAME`
  start : {name : List ℕ} → IsBundleName name → AreStatementWords (codes "start" ∷ name ∷ []) (statement.Start name)
  -- `stop BNAME`
  stop : {name : List ℕ} → IsBundleName name → AreStatementWords (codes "stop" ∷ name ∷ []) (statement.Stop name)
  -- `load CLASS`
  load : {class : List ℕ} → IsClass class → AreStatementWords (codes "load" ∷ class ∷ []) (statement.Load class)
  -- `unlisten NAME`
  unlisten : {name : List ℕ} → IsName name → AreStatementWords (codes "unlisten" ∷ name ∷ []) (statement.Unlisten name)
  -- `job NAME`
  job : {name : List ℕ} → IsName name → AreStatementWords (codes "job" ∷ name ∷ []) (statement.Job name)
  -- `print "TEXT"`
  print : {quoted text : List ℕ} → IsQuoted quoted text → AreStatementWords (codes "print" ∷ quoted ∷ []) (statement.Print text)
  -- `fail "TEXT"`
  fail : {quoted text : List ℕ} → IsQuoted quoted text → AreStatementWords (codes "fail" ∷ quoted ∷ []) (statement.Fail text)

-- the kinds of listeners, as words
abbrev pub kind_word : Kind → List ℕ
kind_word Service = codes "service"
kind_word All = codes "all"
kind_word Bundle = codes "bundle"
kind_word Framework = codes "framework"

-- the line is this statement: the statement's words, separated by spaces, which may stand at both ends of the line too; it may
-- end with a filter where the statement has one. One or more spaces stand before each word. Before the first word of a line there
-- may be none, so one space is put before the line
pub data IsStatement (line : List ℕ) : Statement → Type 0 where
  in_words : {words : List (List ℕ)} {s : Statement} → AreStatementWords words s → IsSeparated AreSpaces words (32 ∷ line) → IsStatement line s
  -- `find VAR CLASS [FILTER]`
  find : {var class : List ℕ} {filter : Option Filter} → IsName var → IsClass class →
      IsSeparated (IsFilterEnd filter) (codes "find" ∷ var ∷ class ∷ []) (32 ∷ line) → IsStatement line (statement.Find var class filter)
  -- `listen NAME service|all|bundle|framework [FILTER]`
  listen : {name : List ℕ} {kind : Kind} {filter : Option Filter} → IsName name →
      IsSeparated (IsFilterEnd filter) (codes "listen" ∷ name ∷ kind_word kind ∷ []) (32 ∷ line) → IsStatement line (statement.Listen name kind filter)
