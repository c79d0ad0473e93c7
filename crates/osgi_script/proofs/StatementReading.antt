-- Lines are read as the statement that they are, and only as that.
use Rattle.std.proofs.Common.{◌≡◌, ℕ, ◌<◌, List, [], ◌∷◌, length, ap, sym, ◌∙◌, refl, arith, subst, length-take}
use Rattle.std.specs.Prelude.{Option, None, Some, option_and_then, codes}
use Rattle.std.specs.Option.{option_map}
use Rattle.std.specs.Str.{bytes_eq}
use Rattle.std.proofs.lemmas.Option.{option_and_then_some}
use Rattle.osgi_base.specs.Parts.{part_len}
use Rattle.osgi_base.specs.QuoteReader.{quoted_of}
use Rattle.osgi_base.specs.Quotes.{IsQuoted}
use Rattle.osgi_base.specs.declared.parts.QuoteState.TheVariants.{Bare}
use Rattle.osgi_base.specs.laws.Quoting.{quoted_read, quoted_sound}
use Rattle.osgi_model.specs.declared.filter.Filter.{Filter}
use Rattle.osgi_model.specs.laws.Made.{mapped, passes_found, same_text}
use Rattle.osgi_ops.specs.declared.kind.Kind.{Kind}
use Rattle.osgi_ops.specs.declared.kind.Kind.TheVariants as kind
use Rattle.osgi_session.specs.declared.statement.Statement.{Statement}
use Rattle.osgi_session.specs.declared.statement.Statement.TheVariants as statement
use Rattle.osgi_script.proofs.FilterEnds.{end_read, end_sound, ends_filter}
use Rattle.osgi_script.specs.Statements as is_a
use Rattle.osgi_script.specs.Statements.{IsStatement, kind_word}
use Rattle.osgi_script.specs.computed.StatementReader.{filter_end_of, filtered_of, kind_of, kinds, modify_of, only_of, register_of, registration_of, statement_by, statement_of, verb_of, verb_word, verbs}
use Rattle.osgi_script.specs.declared.statements.Verb.{Verb}
use Rattle.osgi_script.specs.declared.statements.Verb.TheVariants as verb
use Rattle.osgi_syntax.specs.LineWords.{IsLineWord}
use Rattle.osgi_syntax.specs.Lines.{IsFilterEnd}
use Rattle.osgi_syntax.specs.PropertyReader.{properties_of}
use Rattle.osgi_syntax.specs.Splitting.{after_spaces, after_word, first_word, words_of}
use Rattle.osgi_syntax.specs.WordReader.{bundle_name_of, class_of, classes_of, name_of}
use Rattle.osgi_syntax.specs.Words.{AreSpaces, IsBundleName, IsClass, IsName, IsSeparated}
use Rattle.osgi_syntax.specs.laws.Attributes.{properties_read, properties_sound, whole_properties}
use Rattle.osgi_syntax.specs.laws.Names.{bundle_name_read, bundle_name_sound, class_read, class_sound, classes_read, classes_sound, name_read, name_sound, whole_bundle_name, whole_class, whole_classes, whole_name}
use Rattle.osgi_syntax.specs.laws.Separating.{first_separates, words_separate}
use Rattle.osgi_syntax.specs.laws.Spaces.{EndsWord, with_nothing, with_space}
use Rattle.osgi_syntax.specs.laws.Splitting.{after_word-ends, begins}
use Rattle.osgi_syntax.specs.laws.Whole.{ends_all, first_separated, HasFirstWord, separated_words, whole_quoted}

-- ---- first words

verb_sound : (word : List ℕ) (v : Verb) → verb_of word ≡ Some v → verb_word v ≡ word
verb_sound word v e = same_text (verb_word v) word (passes_found (λ v. bytes_eq (verb_word v) word) verbs v e)

verb_read : (v : Verb) → verb_of (verb_word v) ≡ Some v
verb_read verb.Register = refl
verb_read verb.Modify = refl
verb_read verb.Unregister = refl
verb_read verb.Find = refl
verb_read verb.Get = refl
verb_read verb.Unget = refl
verb_read verb.Start = refl
verb_read verb.Stop = refl
verb_read verb.Load = refl
verb_read verb.Listen = refl
verb_read verb.Unlisten = refl
verb_read verb.Job = refl
verb_read verb.Print = refl
verb_read verb.Fail = refl

whole_verb : (v : Verb) → IsLineWord (verb_word v)
whole_verb verb.Register = record { some = omega arith; scanned = refl }
whole_verb verb.Modify = record { some = omega arith; scanned = refl }
whole_verb verb.Unregister = record { some = omega arith; scanned = refl }
whole_verb verb.Find = record { some = omega arith; scanned = refl }
whole_verb verb.Get = record { some = omega arith; scanned = refl }
whole_verb verb.Unget = record { some = omega arith; scanned = refl }
whole_verb verb.Start = record { some = omega arith; scanned = refl }
whole_verb verb.Stop = record { some = omega arith; scanned = refl }
whole_verb verb.Load = record { some = omega arith; scanned = refl }
whole_verb verb.Listen = record { some = omega arith; scanned = refl }
whole_verb verb.Unlisten = record { some = omega arith; scanned = refl }
whole_verb verb.Job = record { some = omega arith; scanned = refl }
whole_verb verb.Print = record { some = omega arith; scanned = refl }
whole_verb verb.Fail = record { some = omega arith; scanned = refl }

kind_sound : (word : List ℕ) (k : Kind) → kind_of word ≡ Some k → kind_word k ≡ word
kind_sound word k e = same_text (kind_word k) word (passes_found (λ k. bytes_eq (kind_word k) word) kinds k e)

kind_read : (k : Kind) → kind_of (kind_word k) ≡ Some k
kind_read kind.Service = refl
kind_read kind.All = refl
kind_read kind.Bundle = refl
kind_read kind.Framework = refl

whole_kind : (k : Kind) → IsLineWord (kind_word k)
whole_kind kind.Service = record { some = omega arith; scanned = refl }
whole_kind kind.All = record { some = omega arith; scanned = refl }
whole_kind kind.Bundle = record { some = omega arith; scanned = refl }
whole_kind kind.Framework = record { some = omega arith; scanned = refl }

-- a text whose first word is such a word has a word
some_word : (text word : List ℕ) → 0 < length word → word ≡ first_word text → 0 < length (after_spaces text)
some_word text word some is =
    omega (arith, some, ap length is, length-take (part_len 32 Bare (after_spaces text)) (after_spaces text))

-- the words of such a text
pub words_begin : (text word : List ℕ) → 0 < length word → word ≡ first_word text → words_of text ≡ word ∷ words_of (after_word text)
words_begin text word some is = (begins text (some_word text word some is)).words ∙ ap (λ l. l ∷ words_of (after_word text)) (sym is)

-- ---- the first word of what follows another, read as something

-- what a reader reads of the first word of such a text stands there, where it reads nothing of no word
read_separates : {A : Type 0} (read : List ℕ → Option A) (value : A) (IsEnd : List ℕ → Type 0) (words : List (List ℕ)) (text : List ℕ) → read [] ≡ None → EndsWord text →
    read (first_word text) ≡ Some value → IsSeparated IsEnd words (after_word text) → IsSeparated IsEnd (first_word text ∷ words) text
read_separates read value IsEnd words [] nothing with_nothing e separated = absurd (cc (nothing, e))
read_separates read value IsEnd words (b ∷ rest) nothing (with_space _ _ is) e separated =
    subst (λ l. IsSeparated IsEnd words (after_word (l ∷ rest)) → IsSeparated IsEnd (first_word (l ∷ rest) ∷ words) (l ∷ rest)) (sym is)
    (λ s. first_separates IsEnd words rest s) separated

record BeginsWithName (text var : List ℕ) : Type 0 where
  name : IsName var
  first : var ≡ first_word text
  words : words_of text ≡ var ∷ words_of (after_word text)

some_name : (name : List ℕ) → IsName name → 0 < length name
some_name [] is = absurd is
some_name (b ∷ rest) is = omega arith

begins_with_name : (text var : List ℕ) → name_of (first_word text) ≡ Some var → BeginsWithName text var
begins_with_name text var e =
    let named = name_sound (first_word text) var e in
    record { name = named.0; first = sym named.1; words = words_begin text var (some_name var named.0) (sym named.1) }

-- ---- what is read is a statement

-- the one argument that was read
pub record IsOnly (read : List ℕ → Option (List ℕ)) (words : List (List ℕ)) (value : List ℕ) : Type 0 where
  pub word : List ℕ
  pub is : words ≡ word ∷ []
  pub was : read word ≡ Some value

pub only_sound : (read : List ℕ → Option (List ℕ)) (words : List (List ℕ)) (value : List ℕ) → only_of read words ≡ Some value → IsOnly read words value
only_sound read [] value e = absurd (cc e)
only_sound read (word ∷ []) value e = record { word = word; is = refl; was = e }
only_sound read (word ∷ second ∷ rest) value e = absurd (cc e)

one_said : (name : List ℕ) (read : List ℕ → Option (List ℕ)) (make : List ℕ → Statement) (words : List (List ℕ)) (s : Statement) → option_map make (only_of read words) ≡ Some s →
    ((word value : List ℕ) → read word ≡ Some value → is_a.AreStatementWords (name ∷ word ∷ []) (make value)) → is_a.AreStatementWords (name ∷ words) s
one_said name read make words s e said =
    let made = mapped make (only_of read words) s e in
    let only = only_sound read words made.value made.was in
    subst (λ l. is_a.AreStatementWords (name ∷ l) s) (sym only.is)
    (subst (is_a.AreStatementWords (name ∷ only.word ∷ [])) made.is (said only.word made.value only.was))

-- the argument is such a word as it stands
as_it_stands : (name : List ℕ) (make : List ℕ → Statement) (Is : List ℕ → Type 0) (word value : List ℕ) → Is value × (word ≡ value) →
    ((value : List ℕ) → Is value → is_a.AreStatementWords (name ∷ value ∷ []) (make value)) → is_a.AreStatementWords (name ∷ word ∷ []) (make value)
as_it_stands name make Is word value is said = subst (λ l. is_a.AreStatementWords (name ∷ l ∷ []) (make value)) (sym is.1) (said value is.0)

registration_sound : (var : List ℕ) (words : List (List ℕ)) (s : Statement) → IsName var → registration_of var words ≡ Some s → is_a.AreStatementWords (codes "register" ∷ var ∷ words) s
registration_sound var [] s name e = absurd (cc e)
registration_sound var (names ∷ []) s name e = absurd (cc e)
registration_sound var (names ∷ quoted ∷ words) s name e =
    option_and_then_some (λ classes. option_and_then (λ object. option_map (statement.Register var classes object) (properties_of words)) (quoted_of quoted)) (classes_of names) s e
    (λ classes are after_classes.
    option_and_then_some (λ object. option_map (statement.Register var classes object) (properties_of words)) (quoted_of quoted) s after_classes
    (λ object is after_object.
    let read = mapped (statement.Register var classes object) (properties_of words) s after_object in
    rw (← read.is)
    (is_a.register name (classes_sound names classes are) (quoted_sound quoted object is) (properties_sound words read.value read.was))))

register_sound : (text : List ℕ) (s : Statement) → register_of text ≡ Some s → is_a.AreStatementWords (codes "register" ∷ words_of text) s
register_sound text s e =
    option_and_then_some (λ var. registration_of var (words_of (after_word text))) (name_of (first_word text)) s e
    (λ var named made.
    let prefix = begins_with_name text var named in
    subst (λ l. is_a.AreStatementWords (codes "register" ∷ l) s) (sym prefix.words) (registration_sound var (words_of (after_word text)) s prefix.name made))

modify_sound : (text : List ℕ) (s : Statement) → modify_of text ≡ Some s → is_a.AreStatementWords (codes "modify" ∷ words_of text) s
modify_sound text s e =
    option_and_then_some (λ var. option_map (statement.Modify var) (properties_of (words_of (after_word text)))) (name_of (first_word text)) s e
    (λ var named made.
    let prefix = begins_with_name text var named in
    let read = mapped (statement.Modify var) (properties_of (words_of (after_word text))) s made in
    subst (λ l. is_a.AreStatementWords (codes "modify" ∷ l) s) (sym prefix.words)
    (subst (is_a.AreStatementWords (codes "modify" ∷ var ∷ words_of (after_word text))) read.is
    (is_a.modify prefix.name (properties_sound (words_of (after_word text)) read.value read.was))))

-- a statement in words alone
said_in_words : (v : Verb) (line : List ℕ) (s : Statement) → verb_word v ≡ first_word line → is_a.AreStatementWords (verb_word v ∷ words_of (after_word line)) s → IsStatement line s
said_in_words v line s named are =
    is_a.in_words are
    (subst (λ l. IsSeparated AreSpaces l (32 ∷ line)) (words_begin line (verb_word v) (whole_verb v).some named) (words_separate line))

-- a name, a word, and a filter or none, that were read after the first word
record IsFiltered {A : Type 0} (second : List ℕ → Option A) (make : List ℕ → A → Option Filter → Statement) (text : List ℕ) (s : Statement) : Type 0 where
  name : List ℕ
  word : List ℕ
  item : A
  filter : Option Filter
  named : IsName name
  was : second word ≡ Some item
  separated : IsSeparated (IsFilterEnd filter) (name ∷ word ∷ []) text
  is : make name item filter ≡ s

filtered_sound : {A : Type 0} (second : List ℕ → Option A) (make : List ℕ → A → Option Filter → Statement) (text : List ℕ) (s : Statement) → second [] ≡ None → EndsWord text →
    filtered_of second make text ≡ Some s → IsFiltered second make text s
filtered_sound {A} second make text s nothing ends e =
    option_and_then_some (λ name. option_and_then (λ item. option_map (make name item) (filter_end_of (after_word (after_word text)))) (second (first_word (after_word text)))) (name_of (first_word text)) s e
    (λ name named after_name.
    option_and_then_some (λ item. option_map (make name item) (filter_end_of (after_word (after_word text)))) (second (first_word (after_word text))) s after_name
    (λ item was after_item.
    let rest : List ℕ = after_word text in
    let read = mapped (make name item) (filter_end_of (after_word rest)) s after_item in
    let prefix = begins_with_name text name named in
    let end : IsFilterEnd read.value (after_word rest) = end_sound (after_word rest) read.value (after_word-ends rest) read.was in
    let tail : IsSeparated (IsFilterEnd read.value) (first_word rest ∷ []) rest
    = read_separates second item (IsFilterEnd read.value) [] rest nothing (after_word-ends text) was end in
    record {
      name = name;
      word = first_word rest;
      item = item;
      filter = read.value;
      named = prefix.name;
      was = was;
      separated = subst (λ l. IsSeparated (IsFilterEnd read.value) (l ∷ first_word rest ∷ []) text) (sym prefix.first)
          (read_separates name_of name (IsFilterEnd read.value) (first_word rest ∷ []) text refl ends named tail);
      is = read.is;
    }))

-- with the first word before it
filtered_line : (v : Verb) (line : List ℕ) (filter : Option Filter) (name word : List ℕ) → verb_word v ≡ first_word line → IsSeparated (IsFilterEnd filter) (name ∷ word ∷ []) (after_word line) →
    IsSeparated (IsFilterEnd filter) (verb_word v ∷ name ∷ word ∷ []) (32 ∷ line)
filtered_line v line filter name word named separated =
    subst (λ l. IsSeparated (IsFilterEnd filter) (l ∷ name ∷ word ∷ []) (32 ∷ line)) (sym named) (first_separates (IsFilterEnd filter) (name ∷ word ∷ []) line separated)

find_sound : (line : List ℕ) (s : Statement) → verb_word verb.Find ≡ first_word line → filtered_of class_of statement.Find (after_word line) ≡ Some s → IsStatement line s
find_sound line s named e =
    let read = filtered_sound class_of statement.Find (after_word line) s refl (after_word-ends line) e in
    let class = class_sound read.word read.item read.was in
    let separated = subst (λ l. IsSeparated (IsFilterEnd read.filter) (read.name ∷ l ∷ []) (after_word line)) class.1 read.separated in
    subst (IsStatement line) read.is (is_a.find read.named class.0 (filtered_line verb.Find line read.filter read.name read.item named separated))

listen_sound : (line : List ℕ) (s : Statement) → verb_word verb.Listen ≡ first_word line → filtered_of kind_of statement.Listen (after_word line) ≡ Some s → IsStatement line s
listen_sound line s named e =
    let read = filtered_sound kind_of statement.Listen (after_word line) s refl (after_word-ends line) e in
    let separated = subst (λ l. IsSeparated (IsFilterEnd read.filter) (read.name ∷ l ∷ []) (after_word line)) (sym (kind_sound read.word read.item read.was)) read.separated in
    subst (IsStatement line) read.is (is_a.listen read.named (filtered_line verb.Listen line read.filter read.name (kind_word read.item) named separated))

of_name : (v : Verb) (make : List ℕ → Statement) (line : List ℕ) (s : Statement) → verb_word v ≡ first_word line → option_map make (only_of name_of (words_of (after_word line))) ≡ Some s →
    ((name : List ℕ) → IsName name → is_a.AreStatementWords (verb_word v ∷ name ∷ []) (make name)) → IsStatement line s
of_name v make line s named e said =
    said_in_words v line s named
    (one_said (verb_word v) name_of make (words_of (after_word line)) s e (λ word value is. as_it_stands (verb_word v) make IsName word value (name_sound word value is) said))

of_bundle : (v : Verb) (make : List ℕ → Statement) (line : List ℕ) (s : Statement) → verb_word v ≡ first_word line → option_map make (only_of bundle_name_of (words_of (after_word line))) ≡ Some s →
    ((name : List ℕ) → IsBundleName name → is_a.AreStatementWords (verb_word v ∷ name ∷ []) (make name)) → IsStatement line s
of_bundle v make line s named e said =
    said_in_words v line s named
    (one_said (verb_word v) bundle_name_of make (words_of (after_word line)) s e
    (λ word value is. as_it_stands (verb_word v) make IsBundleName word value (bundle_name_sound word value is) said))

of_class : (v : Verb) (make : List ℕ → Statement) (line : List ℕ) (s : Statement) → verb_word v ≡ first_word line → option_map make (only_of class_of (words_of (after_word line))) ≡ Some s →
    ((name : List ℕ) → IsClass name → is_a.AreStatementWords (verb_word v ∷ name ∷ []) (make name)) → IsStatement line s
of_class v make line s named e said =
    said_in_words v line s named
    (one_said (verb_word v) class_of make (words_of (after_word line)) s e (λ word value is. as_it_stands (verb_word v) make IsClass word value (class_sound word value is) said))

of_quoted : (v : Verb) (make : List ℕ → Statement) (line : List ℕ) (s : Statement) → verb_word v ≡ first_word line → option_map make (only_of quoted_of (words_of (after_word line))) ≡ Some s →
    ((quoted text : List ℕ) → IsQuoted quoted text → is_a.AreStatementWords (verb_word v ∷ quoted ∷ []) (make text)) → IsStatement line s
of_quoted v make line s named e said =
    said_in_words v line s named
    (one_said (verb_word v) quoted_of make (words_of (after_word line)) s e (λ word value is. said word value (quoted_sound word value is)))

says_by : (v : Verb) (line : List ℕ) (s : Statement) → verb_word v ≡ first_word line → statement_by v (after_word line) ≡ Some s → IsStatement line s
says_by verb.Register line s named e = said_in_words verb.Register line s named (register_sound (after_word line) s e)
says_by verb.Modify line s named e = said_in_words verb.Modify line s named (modify_sound (after_word line) s e)
says_by verb.Unregister line s named e = of_name verb.Unregister statement.Unregister line s named e (λ name is. is_a.unregister is)
says_by verb.Find line s named e = find_sound line s named e
says_by verb.Get line s named e = of_name verb.Get statement.Get line s named e (λ name is. is_a.get is)
says_by verb.Unget line s named e = of_name verb.Unget statement.Unget line s named e (λ name is. is_a.unget is)
says_by verb.Start line s named e = of_bundle verb.Start statement.Start line s named e (λ name is. is_a.start is)
says_by verb.Stop line s named e = of_bundle verb.Stop statement.Stop line s named e (λ name is. is_a.stop is)
says_by verb.Load line s named e = of_class verb.Load statement.Load line s named e (λ name is. is_a.load is)
says_by verb.Listen line s named e = listen_sound line s named e
says_by verb.Unlisten line s named e = of_name verb.Unlisten statement.Unlisten line s named e (λ name is. is_a.unlisten is)
says_by verb.Job line s named e = of_name verb.Job statement.Job line s named e (λ name is. is_a.job is)
says_by verb.Print line s named e = of_quoted verb.Print statement.Print line s named e (λ quoted text is. is_a.print is)
says_by verb.Fail line s named e = of_quoted verb.Fail statement.Fail line s named e (λ quoted text is. is_a.fail is)

pub statement_sound : (line : List ℕ) (s : Statement) → statement_of line ≡ Some s → IsStatement line s
statement_sound line s e =
    option_and_then_some (λ v. statement_by v (after_word line)) (verb_of (first_word line)) s e
    (λ v named by. says_by v line s (verb_sound (first_word line) v named) by)

-- ---- what is a statement is read

-- words of a statement: the first, and arguments from which the statement is read
record HasVerb (words : List (List ℕ)) (s : Statement) : Type 0 where
  verb : Verb
  arguments : List (List ℕ)
  is : words ≡ verb_word verb ∷ arguments
  read : (text : List ℕ) → IsSeparated AreSpaces arguments text → statement_by verb text ≡ Some s

one_argument : (v : Verb) (read : List ℕ → Option (List ℕ)) (make : List ℕ → Statement) (word value : List ℕ) → IsLineWord word → read word ≡ Some value →
    ((text : List ℕ) → option_map make (only_of read (words_of text)) ≡ Some (make value) → statement_by v text ≡ Some (make value)) → HasVerb (verb_word v ∷ word ∷ []) (make value)
one_argument v read make word value whole was by = record {
  verb = v;
  arguments = word ∷ [];
  is = refl;
  read = λ text separated.
      by text (ap (λ l. option_map make (only_of read l)) (separated_words (word ∷ []) text (whole, tt) separated) ∙ ap (option_map make) was);
}

-- where words part a text, the first of them a name, it is the text's first word
named_first : (IsEnd : List ℕ → Type 0) (name : List ℕ) (words : List (List ℕ)) (text : List ℕ) → ((end : List ℕ) → IsEnd end → EndsWord end) → IsName name →
    (separated : IsSeparated IsEnd (name ∷ words) text) → HasFirstWord text name separated.1
named_first IsEnd name words text end is separated = first_separated IsEnd name words text end (whole_name name is) separated

has_verb : (words : List (List ℕ)) (s : Statement) → is_a.AreStatementWords words s → HasVerb words s
has_verb words s (is_a.register {var = var} {names = names} {quoted = quoted} {words = rest} {classes = classes} {object = object} {properties = properties} name are is own) = record {
  verb = verb.Register;
  arguments = var ∷ names ∷ quoted ∷ rest;
  is = refl;
  read = λ text separated.
      let prefix = named_first AreSpaces var (names ∷ quoted ∷ rest) text ends_all name separated in
      let words : words_of separated.1 ≡ names ∷ quoted ∷ rest
      = separated_words (names ∷ quoted ∷ rest) separated.1 (whole_classes names classes are, (whole_quoted quoted object is, whole_properties rest properties own)) separated.5 in
      rw (prefix.first, prefix.remainder, name_read var name, words, classes_read names classes are, quoted_read quoted object is, properties_read rest properties own) refl;
}
has_verb words s (is_a.modify {var = var} {words = rest} {properties = properties} name own) = record {
  verb = verb.Modify;
  arguments = var ∷ rest;
  is = refl;
  read = λ text separated.
      let prefix = named_first AreSpaces var rest text ends_all name separated in
      let words : words_of separated.1 ≡ rest = separated_words rest separated.1 (whole_properties rest properties own) separated.5 in
      rw (prefix.first, prefix.remainder, name_read var name, words, properties_read rest properties own) refl;
}
has_verb words s (is_a.unregister {var = var} is) = one_argument verb.Unregister name_of statement.Unregister var var (whole_name var is) (name_read var is) (λ text e. e)
has_verb words s (is_a.get {var = var} is) = one_argument verb.Get name_of statement.Get var var (whole_name var is) (name_read var is) (λ text e. e)
has_verb words s (is_a.unget {var = var} is) = one_argument verb.Unget name_of statement.Unget var var (whole_name var is) (name_read var is) (λ text e. e)
has_verb words s (is_a.start {name = name} is) = one_argument verb.Start bundle_name_of statement.Start name name (whole_bundle_name name is) (bundle_name_read name is) (λ text e. e)
has_verb words s (is_a.stop {name = name} is) = one_argument verb.Stop bundle_name_of statement.Stop name name (whole_bundle_name name is) (bundle_name_read name is) (λ text e. e)
has_verb words s (is_a.load {class = class} is) = one_argument verb.Load class_of statement.Load class class (whole_class class is) (class_read class is) (λ text e. e)
has_verb words s (is_a.unlisten {name = name} is) = one_argument verb.Unlisten name_of statement.Unlisten name name (whole_name name is) (name_read name is) (λ text e. e)
has_verb words s (is_a.job {name = name} is) = one_argument verb.Job name_of statement.Job name name (whole_name name is) (name_read name is) (λ text e. e)
has_verb words s (is_a.print {quoted = quoted} {text = said} is) =
    one_argument verb.Print quoted_of statement.Print quoted said (whole_quoted quoted said is) (quoted_read quoted said is) (λ text e. e)
has_verb words s (is_a.fail {quoted = quoted} {text = said} is) =
    one_argument verb.Fail quoted_of statement.Fail quoted said (whole_quoted quoted said is) (quoted_read quoted said is) (λ text e. e)

-- a line's first word is this one, and so the statement is read from what follows it
read_by : (IsEnd : List ℕ → Type 0) (v : Verb) (words : List (List ℕ)) (line : List ℕ) (s : Statement) → ((end : List ℕ) → IsEnd end → EndsWord end) →
    (separated : IsSeparated IsEnd (verb_word v ∷ words) (32 ∷ line)) → statement_by v separated.1 ≡ Some s → statement_of line ≡ Some s
read_by IsEnd v words line s end separated by =
    let prefix = first_separated IsEnd (verb_word v) words (32 ∷ line) end (whole_verb v) separated in
    let first : first_word line ≡ verb_word v = prefix.first in
    let remainder : after_word line ≡ separated.1 = prefix.remainder in
    rw (first, remainder, verb_read v) by

words_read : (words : List (List ℕ)) (line : List ℕ) (s : Statement) → HasVerb words s → IsSeparated AreSpaces words (32 ∷ line) → statement_of line ≡ Some s
words_read words line s has separated =
    let named : IsSeparated AreSpaces (verb_word has.verb ∷ has.arguments) (32 ∷ line) = subst (λ l. IsSeparated AreSpaces l (32 ∷ line)) has.is separated in
    read_by AreSpaces has.verb has.arguments line s ends_all named (has.read named.1 named.5)

filtered_read : {A : Type 0} (second : List ℕ → Option A) (make : List ℕ → A → Option Filter → Statement) (name word : List ℕ) (item : A) (filter : Option Filter) (text : List ℕ) →
    IsName name → IsLineWord word → second word ≡ Some item → IsSeparated (IsFilterEnd filter) (name ∷ word ∷ []) text → filtered_of second make text ≡ Some (make name item filter)
filtered_read second make name word item filter text is whole was separated =
    let prefix = named_first (IsFilterEnd filter) name (word ∷ []) text (ends_filter filter) is separated in
    let next = first_separated (IsFilterEnd filter) word [] separated.1 (ends_filter filter) whole separated.5 in
    rw (prefix.first, prefix.remainder, name_read name is, next.first, next.remainder, was) (ap (option_map (make name item)) (end_read separated.5.1 filter separated.5.5))

pub statement_read : (line : List ℕ) (s : Statement) → IsStatement line s → statement_of line ≡ Some s
statement_read line s (is_a.in_words {words = words} are separated) = words_read words line s (has_verb words s are) separated
statement_read line s (is_a.find {var = var} {class = class} {filter = filter} name is separated) =
    read_by (IsFilterEnd filter) verb.Find (var ∷ class ∷ []) line s (ends_filter filter) separated
    (filtered_read class_of statement.Find var class class filter separated.1 name (whole_class class is) (class_read class is) separated.5)
statement_read line s (is_a.listen {name = name} {kind = kind} {filter = filter} is separated) =
    read_by (IsFilterEnd filter) verb.Listen (name ∷ kind_word kind ∷ []) line s (ends_filter filter) separated
    (filtered_read kind_of statement.Listen name (kind_word kind) kind filter separated.1 is (whole_kind kind) (kind_read kind) separated.5)
