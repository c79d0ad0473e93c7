-- The lines of a script are read as what they are.
use Rattle.std.proofs.Common.{◌≡◌, ℕ, List, [], ◌∷◌, take, add-one, ap, sym, ◌∙◌, refl, subst}
use Rattle.std.specs.Prelude.{Bool, true, false, Option, None, Some, option_and_then}
use Rattle.std.proofs.lemmas.Bool.{cond-false, cond-true, eqb-true}
use Rattle.osgi_base.specs.Parts.{part_len}
use Rattle.osgi_base.specs.declared.parts.QuoteState.TheVariants.{Bare}
use Rattle.osgi_ops.specs.declared.section.Section.{Section}
use Rattle.osgi_session.specs.declared.statement.Statement.{Statement}
use Rattle.osgi_script.proofs.HeadReading.{head_no_statement, head_of-read, head_of-sound}
use Rattle.osgi_script.proofs.StatementReading.{statement_read, statement_sound}
use Rattle.osgi_script.specs.Scripts.{IsHead}
use Rattle.osgi_script.specs.Statements.{IsStatement}
use Rattle.osgi_script.specs.computed.HeadReader.{head_by, head_named, head_of}
use Rattle.osgi_script.specs.computed.ScriptReader.{head_or_bad, line_of, statement_or}
use Rattle.osgi_script.specs.computed.StatementReader.{statement_by, statement_of, verb_of}
use Rattle.osgi_script.specs.declared.lines.ScriptLine.{ScriptLine}
use Rattle.osgi_script.specs.declared.lines.ScriptLine.TheVariants as line
use Rattle.osgi_syntax.specs.LineReader.{is_silent}
use Rattle.osgi_syntax.specs.Lines.{SaysNothing}
use Rattle.osgi_syntax.specs.Splitting.{after_spaces, after_word, first_word, words_of}
use Rattle.osgi_syntax.specs.laws.Lines.{silent_read, silent_sound}

-- ---- what is read is so

-- what is known of a line by what it is read as
IsSo : List ℕ → ScriptLine → Type 0
IsSo text line.Empty = SaysNothing text
IsSo text (line.Head section) = IsHead text section
IsSo text (line.Statement statement) = IsStatement text statement
IsSo text line.Bad = Unit {0}

so_headed : (text : List ℕ) (read : Option Section) → head_of text ≡ read → IsSo text (head_or_bad read)
unfolding IsSo
so_headed text None e = tt
so_headed text (Some section) e = head_of-sound text section e

so_said : (text : List ℕ) (read : Option Statement) → statement_of text ≡ read → IsSo text (statement_or (head_or_bad (head_of text)) read)
unfolding IsSo
so_said text None e = so_headed text (head_of text) refl
so_said text (Some statement) e = statement_sound text statement e

so_by : (text : List ℕ) (test : Bool) → is_silent (after_spaces text) ≡ test → IsSo text (line_of text)
unfolding IsSo
so_by text true silent = subst (IsSo text) (sym (cond-true (is_silent (after_spaces text)) _ _ silent)) (silent_sound text silent)
so_by text false loud = subst (IsSo text) (sym (cond-false (is_silent (after_spaces text)) _ _ loud)) (so_said text (statement_of text) refl)

so : (text : List ℕ) → IsSo text (line_of text)
so text = so_by text (is_silent (after_spaces text)) refl

pub empty_sound : (text : List ℕ) → line_of text ≡ line.Empty → SaysNothing text
unfolding IsSo
empty_sound text e = subst (IsSo text) e (so text)

pub head_sound : (text : List ℕ) (section : Section) → line_of text ≡ line.Head section → IsHead text section
unfolding IsSo
head_sound text section e = subst (IsSo text) e (so text)

pub statement_line_sound : (text : List ℕ) (statement : Statement) → line_of text ≡ line.Statement statement → IsStatement text statement
unfolding IsSo
statement_line_sound text statement e = subst (IsSo text) e (so text)

-- ---- what is so is read

pub empty_read : (text : List ℕ) → SaysNothing text → line_of text ≡ line.Empty
empty_read text nothing = cond-true (is_silent (after_spaces text)) _ _ (silent_read text nothing)

-- a line that says nothing has no first word of a statement or a head: what follows its spaces is nothing, or begins with `#`
loud_by : {A B : Type 0} (named : List ℕ → Option A) (by : A → Option B) (text remainder : List ℕ) (value : B) (test : Bool) → named [] ≡ None →
    ((rest : List ℕ) → named (35 ∷ rest) ≡ None) → after_spaces text ≡ remainder → is_silent remainder ≡ test → option_and_then by (named (first_word text)) ≡ Some value → test ≡ false
loud_by named by text [] value true nothing comment is silent e =
    let none : named (first_word text) ≡ None = ap (λ l. named (take (part_len 32 Bare l) l)) is ∙ nothing in
    absurd (cc (sym e ∙ ap (option_and_then by) none))
loud_by named by text (b ∷ rest) value true nothing comment is silent e =
    let hash : after_spaces text ≡ 35 ∷ rest = is ∙ ap (λ x. x ∷ rest) (eqb-true b 35 silent) in
    let first : first_word text ≡ 35 ∷ take (part_len 32 Bare rest) rest = ap (λ l. take (part_len 32 Bare l) l) hash ∙ rw add-one refl in
    absurd (cc (sym e ∙ ap (λ l. option_and_then by (named l)) first ∙ ap (option_and_then by) (comment (take (part_len 32 Bare rest) rest))))
loud_by named by text remainder value false nothing comment is silent e = refl

pub statement_line_read : (text : List ℕ) (statement : Statement) → IsStatement text statement → line_of text ≡ line.Statement statement
statement_line_read text statement is =
    let read = statement_read text statement is in
    let loud : is_silent (after_spaces text) ≡ false
    = loud_by verb_of (λ v. statement_by v (after_word text)) text (after_spaces text) statement (is_silent (after_spaces text)) refl (λ rest. refl) refl refl read in
    cond-false (is_silent (after_spaces text)) _ _ loud ∙ ap (statement_or (head_or_bad (head_of text))) read

pub head_line_read : (text : List ℕ) (section : Section) → IsHead text section → line_of text ≡ line.Head section
head_line_read text section is =
    let read = head_of-read text section is in
    let loud : is_silent (after_spaces text) ≡ false
    = loud_by head_named (λ h. head_by h (words_of (after_word text))) text (after_spaces text) section (is_silent (after_spaces text)) refl (λ rest. refl) refl refl read in
    cond-false (is_silent (after_spaces text)) _ _ loud ∙ rw (head_no_statement text section is) (ap head_or_bad read)
