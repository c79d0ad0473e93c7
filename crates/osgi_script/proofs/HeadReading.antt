-- Lines are read as the section whose head they are, and only as that.
use Rattle.std.proofs.Common.{◌≡◌, ℕ, ◌-◌, List, [], ◌∷◌, ◌++◌, length, take, drop, ap, sym, ◌∙◌, refl, arith, subst, zero, suc, length-append}
use Rattle.std.specs.Prelude.{Bool, true, false, Option, None, Some, option_and_then, codes}
use Rattle.std.specs.List.{AllPass}
use Rattle.std.specs.Option.{option_map}
use Rattle.std.specs.Str.{bytes_eq}
use Rattle.std.proofs.Math.Seq.{drop-append_seam, get_or-append_seam, take-append_seam}
use Rattle.std.proofs.lemmas.Bool.{cond-false, cond-true}
use Rattle.std.proofs.lemmas.List.{take-append-drop}
use Rattle.std.proofs.lemmas.Option.{option_and_then_some}
use Rattle.osgi_base.specs.declared.parts.QuoteState.TheVariants.{Bare}
use Rattle.osgi_base.specs.laws.Scans.{scan-append}
use Rattle.osgi_model.specs.laws.Made.{mapped, passes_found, same_text}
use Rattle.osgi_ops.specs.declared.section.Section.{Section}
use Rattle.osgi_ops.specs.declared.section.Section.TheVariants as sections
use Rattle.osgi_session.specs.declared.statement.Statement.TheVariants as statement
use Rattle.osgi_script.proofs.StatementReading.{only_sound, words_begin}
use Rattle.osgi_script.specs.Scripts as is_a
use Rattle.osgi_script.specs.Scripts.{IsHead}
use Rattle.osgi_script.specs.computed.HeadReader.{alone, head_by, head_named, head_of, head_word, heads, named_head_of, section_name_of}
use Rattle.osgi_script.specs.computed.StatementReader.{only_of, statement_by, statement_of, verb_of}
use Rattle.osgi_script.specs.declared.heads.HeadWord.{HeadWord}
use Rattle.osgi_script.specs.declared.heads.HeadWord.TheVariants as head
use Rattle.osgi_syntax.specs.LineWords.{AreLineWords, IsLineWord}
use Rattle.osgi_syntax.specs.Splitting.{after_spaces, after_word, first_word, words_of}
use Rattle.osgi_syntax.specs.WordReader.{name_of}
use Rattle.osgi_syntax.specs.Words.{AreSpaces, is_name_byte, IsName, IsSeparated}
use Rattle.osgi_syntax.specs.laws.Names.{name_read, name_sound, whole_name}
use Rattle.osgi_syntax.specs.laws.Separating.{words_separate}
use Rattle.osgi_syntax.specs.laws.Splitting.{begins, no_word}
use Rattle.osgi_syntax.specs.laws.Whole.{words_are}

-- ---- first words

head_sound : (word : List ℕ) (h : HeadWord) → head_named word ≡ Some h → head_word h ≡ word
head_sound word h e = same_text (head_word h) word (passes_found (λ h. bytes_eq (head_word h) word) heads h e)

whole_head : (h : HeadWord) → IsLineWord (head_word h)
whole_head head.Start = record { some = omega arith; scanned = refl }
whole_head head.Stop = record { some = omega arith; scanned = refl }
whole_head head.On = record { some = omega arith; scanned = refl }
whole_head head.Job = record { some = omega arith; scanned = refl }

-- ---- names with a `:` after them

-- a name with a `:` after it
record IsSectionName (word name : List ℕ) : Type 0 where
  named : IsName name
  is : word ≡ name ++ codes ":"

section_name_by : (word name : List ℕ) (test : Bool) → bytes_eq (drop (length word - 1) word) (codes ":") ≡ test → section_name_of word ≡ Some name → IsSectionName word name
section_name_by word name true ends e =
    let n : ℕ = length word - 1 in
    let named = name_sound (take n word) name (sym (cond-true (bytes_eq (drop n word) (codes ":")) _ _ ends) ∙ e) in
    record {
      named = named.0;
      is = sym (take-append-drop n word) ∙ ap (λ l. take n word ++ l) (same_text (drop n word) (codes ":") ends) ∙ ap (λ l. l ++ codes ":") named.1;
    }
section_name_by word name false ends e = absurd (cc (e, cond-false (bytes_eq (drop (length word - 1) word) (codes ":")) (name_of (take (length word - 1) word)) None ends))

section_name_sound : (word name : List ℕ) → section_name_of word ≡ Some name → IsSectionName word name
section_name_sound word name e = section_name_by word name (bytes_eq (drop (length word - 1) word) (codes ":")) refl e

colon_last : (name : List ℕ) → length (name ++ codes ":") - 1 ≡ length name
colon_last name = omega (arith, length-append name (codes ":"))

section_name_read : (name : List ℕ) → IsName name → section_name_of (name ++ codes ":") ≡ Some name
section_name_read name is =
    rw (colon_last name, drop-append_seam name (codes ":"), take-append_seam name (codes ":")) (name_read name is)

-- ---- what is read is a head

alone_sound : (s section : Section) (words : List (List ℕ)) → alone s words ≡ Some section → (words ≡ []) × (s ≡ section)
alone_sound s section [] e = (refl, cc e)
alone_sound s section (word ∷ words) e = absurd (cc e)

named_said : (word : List ℕ) (make : List ℕ → Section) (words : List (List ℕ)) (section : Section) → option_map make (named_head_of words) ≡ Some section →
    ((name : List ℕ) → IsName name → is_a.AreWordsOfHead (word ∷ (name ++ codes ":") ∷ []) (make name)) → is_a.AreWordsOfHead (word ∷ words) section
named_said word make words section e said =
    let made = mapped make (named_head_of words) section e in
    let only = only_sound section_name_of words made.value made.was in
    let name = section_name_sound only.word made.value only.was in
    subst (λ l. is_a.AreWordsOfHead (word ∷ l) section) (sym only.is)
    (subst (λ l. is_a.AreWordsOfHead (word ∷ l ∷ []) section) (sym name.is)
    (subst (is_a.AreWordsOfHead (word ∷ (made.value ++ codes ":") ∷ [])) made.is (said made.value name.named)))

words_by : (h : HeadWord) (words : List (List ℕ)) (section : Section) → head_by h words ≡ Some section → is_a.AreWordsOfHead (head_word h ∷ words) section
words_by head.Start words section e =
    let is = alone_sound sections.Start section words e in
    subst (λ l. is_a.AreWordsOfHead (codes "start:" ∷ l) section) (sym is.0) (subst (is_a.AreWordsOfHead (codes "start:" ∷ [])) is.1 is_a.start)
words_by head.Stop words section e =
    let is = alone_sound sections.Stop section words e in
    subst (λ l. is_a.AreWordsOfHead (codes "stop:" ∷ l) section) (sym is.0) (subst (is_a.AreWordsOfHead (codes "stop:" ∷ [])) is.1 is_a.stop)
words_by head.On words section e = named_said (codes "on") sections.On words section e (λ name is. is_a.on is)
words_by head.Job words section e = named_said (codes "job") sections.Job words section e (λ name is. is_a.job is)

pub head_of-sound : (line : List ℕ) (section : Section) → head_of line ≡ Some section → IsHead line section
head_of-sound line section e =
    option_and_then_some (λ h. head_by h (words_of (after_word line))) (head_named (first_word line)) section e
    (λ h named by.
    let word = head_sound (first_word line) h named in (
      head_word h ∷ words_of (after_word line),
      words_by h (words_of (after_word line)) section by,
      subst (λ l. IsSeparated AreSpaces l (32 ∷ line)) (words_begin line (head_word h) (whole_head h).some word) (words_separate line),
    ))

-- ---- what is a head is read

-- words of a head: the first, and others from which the section is read
record HasHead (words : List (List ℕ)) (section : Section) : Type 0 where
  head : HeadWord
  others : List (List ℕ)
  is : words ≡ head_word head ∷ others
  whole : AreLineWords words
  named : head_named (head_word head) ≡ Some head
  by : head_by head others ≡ Some section
  no_statement : (text : List ℕ) → words_of text ≡ others → option_and_then (λ v. statement_by v text) (verb_of (head_word head)) ≡ None

colon_whole : (name : List ℕ) → IsName name → IsLineWord (name ++ codes ":")
colon_whole name is =
    let whole = whole_name name is in
    record {
      some = omega (arith, length-append name (codes ":"), whole.some);
      scanned = scan-append 32 Bare Bare name (codes ":") whole.scanned;
    }

-- a `:` is in no name
last_passes : (p : ℕ → Bool) (before : List ℕ) (b : ℕ) → AllPass p (before ++ b ∷ []) → p b ≡ true
last_passes p before b all =
    ap p (sym (get_or-append_seam before b [] 0)) ∙ all (length before) 0 (omega (arith, length-append before (b ∷ [])))

no_colon : (name : List ℕ) → IsName (name ++ codes ":") → ⊥
no_colon [] is = cc is.0
no_colon (b ∷ rest) is = cc (last_passes is_name_byte rest 58 is.1)

no_name : (name : List ℕ) (read : Option (List ℕ)) → name_of (name ++ codes ":") ≡ read → name_of (name ++ codes ":") ≡ None
no_name name None e = e
no_name name (Some other) e =
    let is = name_sound (name ++ codes ":") other e in
    absurd (no_colon name (subst IsName (sym is.1) is.0))

has_head : (words : List (List ℕ)) (section : Section) → is_a.AreWordsOfHead words section → HasHead words section
has_head words section is_a.start = record { head = head.Start; others = []; is = refl; whole = (whole_head head.Start, tt); named = refl; by = refl; no_statement = λ text e. refl }
has_head words section is_a.stop = record { head = head.Stop; others = []; is = refl; whole = (whole_head head.Stop, tt); named = refl; by = refl; no_statement = λ text e. refl }
has_head words section (is_a.on {name = name} is) = record {
  head = head.On;
  others = (name ++ codes ":") ∷ [];
  is = refl;
  whole = (whole_head head.On, (colon_whole name is, tt));
  named = refl;
  by = ap (option_map sections.On) (section_name_read name is);
  no_statement = λ text e. refl;
}
has_head words section (is_a.job {name = name} is) = record {
  head = head.Job;
  others = (name ++ codes ":") ∷ [];
  is = refl;
  whole = (whole_head head.Job, (colon_whole name is, tt));
  named = refl;
  by = ap (option_map sections.Job) (section_name_read name is);
  no_statement = λ text e. ap (λ l. option_map statement.Job (only_of name_of l)) e ∙ ap (option_map statement.Job) (no_name name (name_of (name ++ codes ":")) refl);
}

-- a text's words begin with its first word
record FirstOf (text word : List ℕ) (words : List (List ℕ)) : Type 0 where
  first : first_word text ≡ word
  others : words_of (after_word text) ≡ words

first_by : (text word : List ℕ) (words : List (List ℕ)) (n : ℕ) → length (after_spaces text) ≡ n → words_of text ≡ word ∷ words → FirstOf text word words
first_by text word words zero none e = absurd (cc (e, (no_word text none).words))
first_by text word words (suc n) some e =
    let is : first_word text ∷ words_of (after_word text) ≡ word ∷ words = sym (begins text (omega (arith, some))).words ∙ e in
    record { first = cc is; others = cc is }

-- a head is no statement
pub head_no_statement : (line : List ℕ) (section : Section) → IsHead line section → statement_of line ≡ None
head_no_statement line section (words, are, separated) =
    let has = has_head words section are in
    let first = first_by line (head_word has.head) has.others (length (after_spaces line)) refl (words_are line words has.whole separated ∙ has.is) in
    rw first.first (has.no_statement (after_word line) first.others)

pub head_of-read : (line : List ℕ) (section : Section) → IsHead line section → head_of line ≡ Some section
head_of-read line section (words, are, separated) =
    let has = has_head words section are in
    let first = first_by line (head_word has.head) has.others (length (after_spaces line)) refl (words_are line words has.whole separated ∙ has.is) in
    rw (first.first, first.others, has.named) has.by
