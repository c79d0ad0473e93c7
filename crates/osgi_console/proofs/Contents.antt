-- The reader's reading of a line is its reading by the grammar, and the only one.
use Rattle.std.proofs.Common.{◌≡◌, ℕ, ◌+◌, ◌<◌, List, [], ◌∷◌, length, ap, sym, ◌∙◌, refl, arith, subst}
use Rattle.std.specs.Prelude.{◌==◌, Bool, true, false, cond, codes, Option, None, Some, Result, Ok, Err, IfOk}
use Rattle.std.specs.Str.{bytes_eq}
use Rattle.std.specs.Str.Lines.{lines}
use Rattle.std.proofs.lemmas.Bool.{cond-false, cond-true, eqb-true}
use Rattle.std.proofs.lemmas.List.{nil_from_length}
use Rattle.osgi_model.specs.laws.Made.{same_text}
use Rattle.osgi_session.specs.declared.command.Command.{Command}
use Rattle.osgi_session.specs.declared.line.Content.{Content}
use Rattle.osgi_session.specs.declared.line.Content.TheVariants.{Empty, Join, Bad, Run}
use Rattle.osgi_session.specs.declared.line.Line.{Line}
use Rattle.osgi_syntax.specs.LineReader.{is_silent}
use Rattle.osgi_syntax.specs.LineWords.{IsLineWord}
use Rattle.osgi_syntax.specs.Lines.{SaysNothing}
use Rattle.osgi_syntax.specs.Splitting.{after_spaces, after_word, first_word, words_of}
use Rattle.osgi_syntax.specs.Words.{AreSpaces, IsSeparated}
use Rattle.osgi_syntax.specs.laws.Lines.{silent_read, silent_sound}
use Rattle.osgi_syntax.specs.laws.Separating.{first_separates, words_separate}
use Rattle.osgi_syntax.specs.laws.Spaces.{EndsWord, with_nothing, with_space}
use Rattle.osgi_syntax.specs.laws.Splitting.{after_word-ends, begins}
use Rattle.osgi_syntax.specs.laws.Whole.{ends_all, first_separated, separated_words}
use Rattle.osgi_console.proofs.FirstWords.{command_loud, front, has_first, join_loud, lane_loud, other}
use Rattle.osgi_console.proofs.Lanes.{lane_read, lane_sound, whole_lane}
use Rattle.osgi_console.proofs.Verbs.{command_read, command_sound}
use Rattle.osgi_console.specs.Console.{AreLinesFrom, AreLinesOf, in_lane, in_no_lane, IsCommandEnd, IsLane, LineReads, Says, SaysIn, SaysJoin}
use Rattle.osgi_console.specs.computed.LineReader.{command_of, joined, lane_of, laned, numbered, run_in, said_in, said_of, unlaned}
use Rattle.osgi_console.specs.declared.input_lines.InLane.{InLane}

abbrev here : ℕ → Content → InLane
here lane content = record { lane = lane; content = content }

-- ---- what the grammar says is read

nothing_read : (lanes : ℕ) (line : List ℕ) → SaysNothing line → said_of lanes line ≡ unlaned Empty
nothing_read lanes line nothing = cond-true (is_silent (after_spaces line)) _ _ (silent_read line nothing)

join_word : IsLineWord (codes "join")
join_word = record { some = omega arith; scanned = refl }

lane_word : IsLineWord (codes "lane")
lane_word = record { some = omega arith; scanned = refl }

join_read : (lanes : ℕ) (line : List ℕ) → SaysJoin line → said_of lanes line ≡ unlaned Join
join_read lanes line says =
    let prefix = front AreSpaces (codes "join") [] line ends_all join_word says in
    let named : bytes_eq (first_word line) (codes "join") ≡ true = ap (λ w. bytes_eq w (codes "join")) prefix.first in
    let none : words_of (after_word line) ≡ [] = ap words_of prefix.remainder ∙ separated_words [] says.1 tt says.5 in
    cond-false _ _ _ (join_loud line named) ∙ cond-true _ _ _ named ∙ ap (λ l. unlaned (joined l)) none

unlaned_read : (lanes : ℕ) (line : List ℕ) (c : Command) → Says line c → said_of lanes line ≡ here 0 (Run c)
unlaned_read lanes line c says =
    let read = command_read line c says in
    cond-false _ _ _ (command_loud line c read) ∙ cond-false _ _ _ (other (codes "join") line c refl read) ∙ cond-false _ _ _ (other (codes "lane") line c refl read) ∙ ap (run_in 0) read

command_ends : (c : Command) (end : List ℕ) → IsCommandEnd c end → EndsWord end
command_ends c end is = subst EndsWord (sym is.is) (with_space 32 is.line refl)

command_end_read : (c : Command) (end : List ℕ) → IsCommandEnd c end → command_of end ≡ Some c
command_end_read c end is = ap command_of is.is ∙ command_read is.line c is.says

laned_read : (lanes : ℕ) (word text : List ℕ) (lane : ℕ) (c : Command) → IsLane lanes word lane → IsSeparated (IsCommandEnd c) (word ∷ []) text → laned lanes text ≡ here lane (Run c)
laned_read lanes word text lane c is separated =
    let prefix = first_separated (IsCommandEnd c) word [] text (command_ends c) (whole_lane lanes word lane is) separated in
    ap (λ w. said_in (lane_of lanes w) (after_word text)) prefix.first
    ∙ ap (λ l. said_in l (after_word text)) (lane_read lanes word lane is)
    ∙ ap (run_in lane) (ap command_of prefix.remainder ∙ command_end_read c separated.1 separated.5)

says_read : (lanes : ℕ) (line : List ℕ) (lane : ℕ) (c : Command) → SaysIn lanes line lane c → said_of lanes line ≡ here lane (Run c)
says_read lanes line lane c (in_no_lane says) = unlaned_read lanes line c says
says_read lanes line lane c (in_lane {word = word} is separated) =
    let prefix = front (IsCommandEnd c) (codes "lane") (word ∷ []) line (command_ends c) lane_word separated in
    let named : bytes_eq (first_word line) (codes "lane") ≡ true = ap (λ w. bytes_eq w (codes "lane")) prefix.first in
    let no_join : bytes_eq (first_word line) (codes "join") ≡ false = ap (λ w. bytes_eq w (codes "join")) prefix.first in
    cond-false _ _ _ (lane_loud line named) ∙ cond-false _ _ _ no_join ∙ cond-true _ _ _ named
    ∙ ap (laned lanes) prefix.remainder ∙ laned_read lanes word separated.1 lane c is separated.5

-- ---- what is read is said by the grammar

-- what is known of a line by its lane and its content
abbrev IsSo : ℕ → List ℕ → ℕ → Content → Type 0
IsSo lanes line lane Empty = (lane ≡ 0) × SaysNothing line
IsSo lanes line lane Join = (lane ≡ 0) × SaysJoin line
IsSo lanes line lane Bad = lane ≡ 0
IsSo lanes line lane (Run c) = SaysIn lanes line lane c

abbrev So : ℕ → List ℕ → InLane → Type 0
So lanes line said = IsSo lanes line said.lane said.content

join_said : (line : List ℕ) → first_word line ≡ codes "join" → words_of (after_word line) ≡ [] → SaysJoin line
join_said line first none =
    let some : 0 < length (after_spaces line) = has_first (codes "join") line first (omega arith) in
    let words : words_of line ≡ codes "join" ∷ []
    = (begins line some).words ∙ ap (λ w. w ∷ words_of (after_word line)) first ∙ ap (λ l. codes "join" ∷ l) none in
    subst (λ l. IsSeparated AreSpaces l (32 ∷ line)) words (words_separate line)

so_joined : (lanes : ℕ) (line : List ℕ) (test : Bool) → first_word line ≡ codes "join" → (length (words_of (after_word line)) == 0) ≡ test → So lanes line (unlaned (cond test Join Bad))
so_joined lanes line true first e = (refl, join_said line first (nil_from_length (words_of (after_word line)) (eqb-true _ 0 e)))
so_joined lanes line false first e = refl

so_unlaned : (lanes : ℕ) (line : List ℕ) (read : Option Command) → command_of line ≡ read → So lanes line (run_in 0 read)
so_unlaned lanes line None e = refl
so_unlaned lanes line (Some c) e = in_no_lane (command_sound line c e)

command_end : (c : Command) (text : List ℕ) → EndsWord text → command_of text ≡ Some c → IsCommandEnd c text
command_end c [] with_nothing e = absurd (cc e)
command_end c (b ∷ rest) (with_space _ _ is) e = record {
  line = rest;
  is = ap (λ x. x ∷ rest) is;
  says = command_sound rest c (ap (λ x. command_of (x ∷ rest)) (sym is) ∙ e);
}

so_run : (lanes : ℕ) (line rest : List ℕ) (lane : ℕ) (read : Option Command) → first_word line ≡ codes "lane" → after_word line ≡ 32 ∷ rest → lane_of lanes (first_word rest) ≡ Some lane →
    command_of (after_word rest) ≡ read → So lanes line (run_in lane read)
so_run lanes line rest lane None first follows is e = refl
so_run lanes line rest lane (Some c) first follows is e =
    let behind : IsSeparated (IsCommandEnd c) (first_word rest ∷ []) (32 ∷ rest)
    = first_separates (IsCommandEnd c) [] rest (command_end c (after_word rest) (after_word-ends rest) e) in
    let separated : IsSeparated (IsCommandEnd c) (first_word line ∷ first_word rest ∷ []) (32 ∷ line)
    = first_separates (IsCommandEnd c) (first_word rest ∷ []) line (subst (IsSeparated (IsCommandEnd c) (first_word rest ∷ [])) (sym follows) behind) in
    in_lane (lane_sound lanes (first_word rest) lane is) (subst (λ w. IsSeparated (IsCommandEnd c) (w ∷ first_word rest ∷ []) (32 ∷ line)) first separated)

so_said : (lanes : ℕ) (line rest : List ℕ) (lane : Option ℕ) → first_word line ≡ codes "lane" → after_word line ≡ 32 ∷ rest → lane_of lanes (first_word rest) ≡ lane →
    So lanes line (said_in lane (after_word rest))
so_said lanes line rest None first follows is = refl
so_said lanes line rest (Some lane) first follows is = so_run lanes line rest lane (command_of (after_word rest)) first follows is refl

so_laned : (lanes : ℕ) (line text : List ℕ) → first_word line ≡ codes "lane" → after_word line ≡ text → EndsWord text → So lanes line (laned lanes text)
so_laned lanes line [] first follows with_nothing = refl
so_laned lanes line (b ∷ rest) first follows (with_space _ _ is) =
    subst (λ x. So lanes line (laned lanes (x ∷ rest))) (sym is)
    (so_said lanes line rest (lane_of lanes (first_word rest)) first (follows ∙ ap (λ x. x ∷ rest) is) refl)

so_by_lane : (lanes : ℕ) (line : List ℕ) (test : Bool) → bytes_eq (first_word line) (codes "lane") ≡ test → So lanes line (cond test (laned lanes (after_word line)) (run_in 0 (command_of line)))
so_by_lane lanes line true named = so_laned lanes line (after_word line) (same_text (first_word line) (codes "lane") named) refl (after_word-ends line)
so_by_lane lanes line false named = so_unlaned lanes line (command_of line) refl

so_by_join : (lanes : ℕ) (line : List ℕ) (test : Bool) → bytes_eq (first_word line) (codes "join") ≡ test →
    So lanes line (cond test (unlaned (joined (words_of (after_word line)))) (cond (bytes_eq (first_word line) (codes "lane")) (laned lanes (after_word line)) (run_in 0 (command_of line))))
so_by_join lanes line true named = so_joined lanes line (length (words_of (after_word line)) == 0) (same_text (first_word line) (codes "join") named) refl
so_by_join lanes line false named = so_by_lane lanes line (bytes_eq (first_word line) (codes "lane")) refl

so_by : (lanes : ℕ) (line : List ℕ) (test : Bool) → is_silent (after_spaces line) ≡ test → So lanes line (said_of lanes line)
so_by lanes line true silent = subst (So lanes line) (sym (cond-true (is_silent (after_spaces line)) _ _ silent)) (refl, silent_sound line silent)
so_by lanes line false loud = subst (So lanes line) (sym (cond-false (is_silent (after_spaces line)) _ _ loud)) (so_by_join lanes line (bytes_eq (first_word line) (codes "join")) refl)

so : (lanes : ℕ) (line : List ℕ) → So lanes line (said_of lanes line)
so lanes line = so_by lanes line (is_silent (after_spaces line)) refl

-- ---- both

reads_by : (lanes : ℕ) (line : List ℕ) (lane : ℕ) (content : Content) → (said_of lanes line).content ≡ content → IsSo lanes line lane content → LineReads lanes line lane content
reads_by lanes line lane Empty e is = is
reads_by lanes line lane Join e is = is
reads_by lanes line lane Bad e is = (
  is,
  λ says. absurd (cc (e, ap (λ (s : InLane). s.content) (nothing_read lanes line says))),
  λ says. absurd (cc (e, ap (λ (s : InLane). s.content) (join_read lanes line says))),
  λ k c says. absurd (cc (e, ap (λ (s : InLane). s.content) (says_read lanes line k c says))),
)
reads_by lanes line lane (Run c) e is = is

-- the reader's content is a reading
pub reads : (lanes : ℕ) (line : List ℕ) → LineReads lanes line (said_of lanes line).lane (said_of lanes line).content
reads lanes line = reads_by lanes line (said_of lanes line).lane (said_of lanes line).content refl (so lanes line)

bad_by : (lanes : ℕ) (line : List ℕ) (lane : ℕ) (content : Content) → LineReads lanes line lane content → ¬ SaysNothing line → ¬ SaysJoin line → ((k : ℕ) (c : Command) → ¬ SaysIn lanes line k c) →
    here lane content ≡ unlaned Bad
bad_by lanes line lane Empty reads no_nothing no_join no_command = absurd (no_nothing reads.1)
bad_by lanes line lane Join reads no_nothing no_join no_command = absurd (no_join reads.1)
bad_by lanes line lane Bad reads no_nothing no_join no_command = ap (λ l. here l Bad) reads.0
bad_by lanes line lane (Run c) reads no_nothing no_join no_command = absurd (no_command lane c reads)

-- in this lane, where it is none
at_none : (lane : ℕ) (content : Content) (said : InLane) → lane ≡ 0 → said ≡ unlaned content → said ≡ here lane content
at_none lane content said none is = is ∙ ap (λ l. here l content) (sym none)

-- and the only one
pub reads_one : (lanes : ℕ) (line : List ℕ) (lane : ℕ) (content : Content) → LineReads lanes line lane content → said_of lanes line ≡ here lane content
reads_one lanes line lane Empty says = at_none lane Empty (said_of lanes line) says.0 (nothing_read lanes line says.1)
reads_one lanes line lane Join says = at_none lane Join (said_of lanes line) says.0 (join_read lanes line says.1)
reads_one lanes line lane Bad says =
    at_none lane Bad (said_of lanes line) says.0 (bad_by lanes line (said_of lanes line).lane (said_of lanes line).content (reads lanes line) says.1 says.2 says.3)
reads_one lanes line lane (Run c) says = says_read lanes line lane c says

-- the same of all lines
pub lines_read : (lanes number : ℕ) (texts : List (List ℕ)) → AreLinesFrom lanes number texts (numbered lanes number texts)
lines_read lanes number [] = tt
lines_read lanes number (text ∷ texts) = (refl, reads lanes text, lines_read lanes (number + 1) texts)

line_is : (line : Line) (number : ℕ) (said : InLane) → line.number ≡ number → said ≡ here line.lane line.content → line ≡ record { number = number; lane = said.lane; content = said.content }
line_is line number said n s = λ i. record { number = n i; lane = (sym s i).lane; content = (sym s i).content }

pub lines_read_one : (lanes number : ℕ) (texts : List (List ℕ)) (lines : List Line) → AreLinesFrom lanes number texts lines → lines ≡ numbered lanes number texts
lines_read_one lanes number [] [] read = refl
lines_read_one lanes number [] (line ∷ lines) read = absurd read
lines_read_one lanes number (text ∷ texts) [] read = absurd read
lines_read_one lanes number (text ∷ texts) (line ∷ lines) read =
    let first = line_is line number (said_of lanes text) read.0 (reads_one lanes text line.lane line.content read.1) in
    cc (first, lines_read_one lanes (number + 1) texts lines read.2)

-- what the reader answers, where it found memory
pub result_read : {E : Type 0} (lanes : ℕ) (bytes : List ℕ) (result : Result (List Line) E) → IfOk result (λ all. all ≡ numbered lanes 1 (lines bytes)) → IfOk result (AreLinesOf lanes bytes)
result_read lanes bytes (Ok all) is = subst (AreLinesOf lanes bytes) (sym is) (lines_read lanes 1 (lines bytes))
result_read lanes bytes (Err e) is = tt

pub result_only : {E : Type 0} (lanes : ℕ) (bytes : List ℕ) (result : Result (List Line) E) → IfOk result (λ all. all ≡ numbered lanes 1 (lines bytes)) → (others : List Line) → AreLinesOf lanes bytes others →
    IfOk result (λ all. all ≡ others)
result_only lanes bytes (Ok all) is others read = is ∙ sym (lines_read_one lanes 1 (lines bytes) others read)
result_only lanes bytes (Err e) is others read = tt
