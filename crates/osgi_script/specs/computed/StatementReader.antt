-- What the reader computes of lines that are statements: it is proved to give the readings of the grammar.
use Rattle.std.specs.Prelude.{ℕ, ◌≡◌, ◌==◌, if◌then◌else◌, List, [], ◌∷◌, length, codes, Option, None, Some, option_and_then, find}
use Rattle.std.specs.Option.{option_map}
use Rattle.std.specs.Str.{bytes_eq}
use Rattle.osgi_base.specs.QuoteReader.{quoted_of}
use Rattle.osgi_filter.specs.computed.Reader.{read_filter}
use Rattle.osgi_model.specs.declared.filter.Filter.{Filter}
use Rattle.osgi_ops.specs.declared.kind.Kind.{Kind}
use Rattle.osgi_ops.specs.declared.kind.Kind.TheVariants.{Service, All, Bundle, Framework}
use Rattle.osgi_session.specs.declared.statement.Statement.{Statement}
use Rattle.osgi_session.specs.declared.statement.Statement.TheVariants as statement
use Rattle.osgi_script.specs.declared.statements.Verb.{Verb}
use Rattle.osgi_script.specs.declared.statements.Verb.TheVariants as verb
use Rattle.osgi_script.specs.Statements.{kind_word}
use Rattle.osgi_syntax.specs.PropertyReader.{properties_of}
use Rattle.osgi_syntax.specs.Splitting.{after_spaces, after_word, first_word, only_word_of, words_of}
use Rattle.osgi_syntax.specs.WordReader.{bundle_name_of, class_of, classes_of, name_of}

-- the first word of a statement
abbrev pub verb_word : Verb → List ℕ
verb_word verb.Register = codes "register"
verb_word verb.Modify = codes "modify"
verb_word verb.Unregister = codes "unregister"
verb_word verb.Find = codes "find"
verb_word verb.Get = codes "get"
verb_word verb.Unget = codes "unget"
verb_word verb.Start = codes "start"
verb_word verb.Stop = codes "stop"
verb_word verb.Load = codes "load"
verb_word verb.Listen = codes "listen"
verb_word verb.Unlisten = codes "unlisten"
verb_word verb.Job = codes "job"
verb_word verb.Print = codes "print"
verb_word verb.Fail = codes "fail"

abbrev pub verbs : List Verb
verbs =
    verb.Register ∷ verb.Modify ∷ verb.Unregister ∷ verb.Find ∷ verb.Get ∷ verb.Unget ∷ verb.Start ∷ verb.Stop ∷ verb.Load ∷ verb.Listen ∷ verb.Unlisten ∷ verb.Job
    ∷ verb.Print ∷ verb.Fail ∷ []

abbrev pub verb_of : List ℕ → Option Verb
verb_of word = find (λ verb. bytes_eq (verb_word verb) word) verbs

abbrev pub kinds : List Kind
kinds = Service ∷ All ∷ Bundle ∷ Framework ∷ []

abbrev pub kind_of : List ℕ → Option Kind
kind_of word = find (λ kind. bytes_eq (kind_word kind) word) kinds

-- ---- arguments

-- the one argument, read like this
abbrev pub only_of : (List ℕ → Option (List ℕ)) → List (List ℕ) → Option (List ℕ)
only_of read words = option_and_then read (only_word_of words)

-- a text begins with a name, and this is left after it
pub record IsSplitName (text name left : List ℕ) : Type 0 where
  pub named : name_of (first_word text) ≡ Some name
  pub remainder : left ≡ after_word text

-- what may be a filter at the end of a line
abbrev pub filter_end_of : List ℕ → Option (Option Filter)
filter_end_of text = if length (after_spaces text) == 0 then Some None else option_map Some (read_filter text)

-- ---- statements

abbrev pub registration_of : List ℕ → List (List ℕ) → Option Statement
registration_of var (names ∷ quoted ∷ words) =
    option_and_then (λ classes. option_and_then (λ object. option_map (λ properties. statement.Register var classes object properties) (properties_of words)) (quoted_of quoted)) (classes_of names)
registration_of var _ = None

abbrev pub register_of : List ℕ → Option Statement
register_of text = option_and_then (λ var. registration_of var (words_of (after_word text))) (name_of (first_word text))

abbrev pub modify_of : List ℕ → Option Statement
modify_of text = option_and_then (λ var. option_map (λ properties. statement.Modify var properties) (properties_of (words_of (after_word text)))) (name_of (first_word text))

-- a name, a word that is read like this, and what may be a filter
abbrev pub filtered_of : {A : Type 0} → (List ℕ → Option A) → (List ℕ → A → Option Filter → Statement) → List ℕ → Option Statement
filtered_of second make text =
    option_and_then (λ name.
    option_and_then (λ item. option_map (make name item) (filter_end_of (after_word (after_word text)))) (second (first_word (after_word text)))) (name_of (first_word text))

abbrev pub find_of : List ℕ → Option Statement
find_of text = filtered_of class_of statement.Find text

abbrev pub listen_of : List ℕ → Option Statement
listen_of text = filtered_of kind_of statement.Listen text

-- the statement by what follows its first word
abbrev pub statement_by : Verb → List ℕ → Option Statement
statement_by verb.Register text = register_of text
statement_by verb.Modify text = modify_of text
statement_by verb.Unregister text = option_map statement.Unregister (only_of name_of (words_of text))
statement_by verb.Find text = find_of text
statement_by verb.Get text = option_map statement.Get (only_of name_of (words_of text))
statement_by verb.Unget text = option_map statement.Unget (only_of name_of (words_of text))
statement_by verb.Start text = option_map statement.Start (only_of bundle_name_of (words_of text))
statement_by verb.Stop text = option_map statement.Stop (only_of bundle_name_of (words_of text))
statement_by verb.Load text = option_map statement.Load (only_of class_of (words_of text))
statement_by verb.Listen text = listen_of text
statement_by verb.Unlisten text = option_map statement.Unlisten (only_of name_of (words_of text))
statement_by verb.Job text = option_map statement.Job (only_of name_of (words_of text))
statement_by verb.Print text = option_map statement.Print (only_of quoted_of (words_of text))
statement_by verb.Fail text = option_map statement.Fail (only_of quoted_of (words_of text))

abbrev pub statement_of : List ℕ → Option Statement
statement_of line = option_and_then (λ verb. statement_by verb (after_word line)) (verb_of (first_word line))
