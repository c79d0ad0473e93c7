-- Lines are read as the script that they are, or as its first bad line, and only as that.
use Rattle.std.proofs.Common.{◌≡◌, ℕ, ◌+◌, ◌<◌, ◌≤◌, List, [], ◌∷◌, ◌++◌, ◌-◌, length, get_or, set, take, drop, ap, sym, ◌∙◌, refl, arith, subst, append_assoc, append-nil, le-ltb, length-append, ltb-false}
use Rattle.std.specs.Prelude.{All, Bool, true, false, MatchBool, nat_lt, Option, None, Some, Result, Ok, Err, MatchResult}
use Rattle.std.specs.Option.{option_map}
use Rattle.std.proofs.Math.Seq.{take-append_seam}
use Rattle.std.proofs.lemmas.Bool.{cond-false, cond-true, lt-ltb, ltb-true}
use Rattle.std.proofs.lemmas.List.{length-set, take_all, take_more, take_more_set}
use Rattle.std.proofs.lemmas.List.Elements.{All-cons, All-head, All-tail}
use Rattle.std.proofs.lemmas.Option.{cond_some}
use Rattle.osgi_model.specs.laws.Made.{mapped}
use Rattle.osgi_ops.specs.declared.section.Section.{Section}
use Rattle.osgi_session.specs.declared.statement.Statement.{Statement}
use Rattle.osgi_script.proofs.LineReading.{empty_read, empty_sound, head_line_read, head_sound, statement_line_read, statement_line_sound}
use Rattle.osgi_script.proofs.Sections.{apart_last, apart_new, apart_push, AreApart, none_apart, same_sections}
use Rattle.osgi_script.specs.Scripts.{AreParts, AreStatements, IsFirstBadLine, IsHead, AreScriptLines, no_parts, none, part, skipped, statement}
use Rattle.osgi_script.specs.Statements.{IsStatement}
use Rattle.osgi_script.specs.computed.ScriptReader.{add_line, add_statement, AreTaken, has_section, IsAdded, line_of, opened, read_next, script_from, script_of, with_statement}
use Rattle.osgi_script.specs.declared.lines.ScriptLine.{ScriptLine}
use Rattle.osgi_script.specs.declared.lines.ScriptLine.TheVariants as line
use Rattle.osgi_session.specs.declared.script.Part.{Part}
use Rattle.osgi_session.specs.declared.script.Script.{Script}
use Rattle.osgi_script.specs.declared.script.ScriptFault.{ScriptFault}
use Rattle.osgi_script.specs.declared.taken.Taken.{Taken}
use Rattle.osgi_syntax.specs.Lines.{SaysNothing}
use Rattle.osgi_script.specs.declared.script.TheConstants.{MAX_STATEMENTS}

abbrev script : List Part → Script
script parts = record { sections = parts }

abbrev fault : ℕ → ScriptFault
fault number = record { line = number }

-- a part with more statements
abbrev with_all : Part → List Statement → Part
with_all first statements = record { section = first.section; statements = first.statements ++ statements }

-- ---- a statement more in the last part

pub add_last : (done : List Part) (last : Part) (s : Statement) → length last.statements < MAX_STATEMENTS → add_statement s (done ++ last ∷ []) ≡ Some (done ++ with_statement last s ∷ [])
add_last [] last s few = cond-true (nat_lt (length last.statements) MAX_STATEMENTS) _ _ (lt-ltb _ _ few)
add_last (first ∷ []) last s few = ap (option_map (λ rest. first ∷ rest)) (add_last [] last s few)
add_last (first ∷ next ∷ done) last s few = ap (option_map (λ rest. first ∷ rest)) (add_last (next ∷ done) last s few)

pub add_full : (done : List Part) (last : Part) (s : Statement) → MAX_STATEMENTS ≤ length last.statements → add_statement s (done ++ last ∷ []) ≡ None
add_full [] last s full = cond-false (nat_lt (length last.statements) MAX_STATEMENTS) _ _ (le-ltb _ _ full)
add_full (first ∷ []) last s full = ap (option_map (λ rest. first ∷ rest)) (add_full [] last s full)
add_full (first ∷ next ∷ done) last s full = ap (option_map (λ rest. first ∷ rest)) (add_full (next ∷ done) last s full)

-- the parts before the last of some parts
record HasLast (parts : List Part) (last : Part) : Type 0 where
  done : List Part
  is : parts ≡ done ++ last ∷ []
  set_last : (next : Part) → set parts (length parts - 1) next ≡ done ++ next ∷ []

has_last : (parts : List Part) (last : Part) → 0 < length parts → last ≡ get_or parts (length parts - 1) last → HasLast parts last
has_last parts last some at =
    let n : ℕ = length parts - 1 in
    let below : n < length parts = omega (arith, some) in
    record {
      done = take n parts;
      is = sym (take_all (n + 1) parts (omega (arith, some))) ∙ take_more parts n last below ∙ ap (λ p. take n parts ++ p ∷ []) (sym at);
      set_last = λ next. sym (take_all (n + 1) (set parts n next) (omega (arith, some, length-set parts n next))) ∙ take_more_set parts n next below;
    }

-- where there is room in the last part, the statement joins it
add_room : (parts : List Part) (last : Part) (s : Statement) → 0 < length parts → last ≡ get_or parts (length parts - 1) last → length last.statements < MAX_STATEMENTS →
    add_statement s parts ≡ Some (set parts (length parts - 1) (with_statement last s))
add_room parts last s some at few =
    let has = has_last parts last some at in
    ap (add_statement s) has.is ∙ add_last has.done last s few ∙ ap Some (sym (has.set_last (with_statement last s)))

-- and else no script goes on so
add_none : (parts : List Part) (last : Part) (s : Statement) → 0 < length parts → last ≡ get_or parts (length parts - 1) last → MAX_STATEMENTS ≤ length last.statements →
    add_statement s parts ≡ None
add_none parts last s some at full =
    let has = has_last parts last some at in
    ap (add_statement s) has.is ∙ add_full has.done last s full

-- both, by whether the statement was pushed
pub part_added : (parts : List Part) (last : Part) (s : Statement) (statements : List Statement) (added : Bool) → 0 < length parts → last ≡ get_or parts (length parts - 1) last →
    MatchBool added ((length last.statements < MAX_STATEMENTS) × (statements ≡ last.statements ++ s ∷ [])) (MAX_STATEMENTS ≤ length last.statements) →
    MatchBool added (add_statement s parts ≡ Some (set parts (length parts - 1) (record { section = last.section; statements = statements }))) (add_statement s parts ≡ None)
part_added parts last s statements true some at pushed =
    subst (λ l. add_statement s parts ≡ Some (set parts (length parts - 1) (record { section = last.section; statements = l }))) (sym pushed.1) (add_room parts last s some at pushed.0)
part_added parts last s statements false some at full = add_none parts last s some at full

-- what a statement adds
statement_added : (taken : Taken) (old new : List Part) (s : Statement) (text : List ℕ) (added : Bool) → line_of text ≡ line.Statement s → AreTaken taken old →
    MatchBool added (add_statement s old ≡ Some new) (add_statement s old ≡ None) → IsAdded taken old new (line_of text) added
statement_added taken old new s text true is are e =
    (ap (add_line old) is ∙ e, λ section. are section ∙ sym (same_sections s old new e section))
statement_added taken old new s text false is are e = ap (add_line old) is ∙ e

-- the same where the parts were changed in place
same_length : (s : Statement) (old new : List Part) → add_statement s old ≡ Some new → length new ≡ length old
same_length s [] new e = absurd (cc e)
same_length s (p ∷ []) new e =
    let read = cond_some (nat_lt (length p.statements) MAX_STATEMENTS) (with_statement p s ∷ []) new e in
    ap length (sym read.1)
same_length s (p ∷ next ∷ parts) new e =
    let read = mapped (λ rest. p ∷ rest) (add_statement s (next ∷ parts)) new e in
    let made : length new ≡ length (p ∷ read.value) = ap length (sym read.is) in
    omega (arith, made, same_length s (next ∷ parts) read.value read.was)

pub statement_in_place : (taken : Taken) (items old new : List Part) (n : ℕ) (s : Statement) (text : List ℕ) (added : Bool) → line_of text ≡ line.Statement s → old ≡ items → length old ≡ n →
    AreTaken taken items → MatchBool added (add_statement s old ≡ Some new) (add_statement s old ≡ None) →
    IsAdded taken items (take n (new ++ drop (length new) items)) (line_of text) added
statement_in_place taken items old new n s text true is same count are e =
    let in_all : add_statement s items ≡ Some new = ap (add_statement s) (sym same) ∙ e in
    let back : take n (new ++ drop (length new) items) ≡ new
    = ap (λ m. take m (new ++ drop (length new) items)) (sym count ∙ sym (same_length s old new e)) ∙ take-append_seam new (drop (length new) items) in
    subst (λ l. IsAdded taken items l (line_of text) true) (sym back) (statement_added taken items new s text true is are in_all)
statement_in_place taken items old new n s text false is same count are e =
    ap (add_line items) is ∙ ap (add_statement s) (sym same) ∙ e

-- ---- what is a script is read

-- a line more
line_more : (n : ℕ) (parts next : List Part) (text : List ℕ) (texts : List (List ℕ)) → add_line parts (line_of text) ≡ Some next →
    script_from n parts (text ∷ texts) ≡ script_from (n + 1) next texts
line_more n parts next text texts e = ap (read_next (λ more. script_from (n + 1) more texts) (n + 1)) e

silent_read_on : (n : ℕ) (parts : List Part) (text : List ℕ) (texts : List (List ℕ)) → SaysNothing text → script_from n parts (text ∷ texts) ≡ script_from (n + 1) parts texts
silent_read_on n parts text texts nothing = line_more n parts parts text texts (ap (add_line parts) (empty_read text nothing))

-- how many lines are read is of no account where a script is read
record Reads (parts : List Part) (texts : List (List ℕ)) (all : List Part) : Type 0 where
  is : (n : ℕ) → script_from n parts texts ≡ Ok (script all)

before_read : (before rest : List (List ℕ)) (all : List Part) → All SaysNothing before → Reads [] rest all → Reads [] (before ++ rest) all
before_read [] rest all nothing reads = reads
before_read (text ∷ before) rest all nothing reads =
    let more = before_read before rest all (All-tail SaysNothing text before nothing) reads in
    record { is = λ n. silent_read_on n [] text (before ++ rest) (All-head SaysNothing text before nothing) ∙ more.is (n + 1) }

same_part : (last : Part) → with_all last [] ≡ last
same_part last = λ i. record { section = last.section; statements = append-nil last.statements i }

one_statement : (last : Part) (s : Statement) (rest : List Statement) → with_all (with_statement last s) rest ≡ with_all last (s ∷ rest)
one_statement last s rest = λ i. record { section = last.section; statements = append_assoc last.statements (s ∷ []) rest i }

-- the lines of a part after its head
own_read : (done : List Part) (last : Part) {own : List (List ℕ)} {statements : List Statement} (rest : List (List ℕ)) (all : List Part) → AreStatements own statements →
    length (last.statements ++ statements) ≤ MAX_STATEMENTS → Reads (done ++ with_all last statements ∷ []) rest all → Reads (done ++ last ∷ []) (own ++ rest) all
own_read done last rest all none few reads = subst (λ p. Reads (done ++ p ∷ []) rest all) (same_part last) reads
own_read done last rest all (skipped {line = text} {lines = own} nothing more) few reads =
    let on = own_read done last rest all more few reads in
    record { is = λ n. silent_read_on n (done ++ last ∷ []) text (own ++ rest) nothing ∙ on.is (n + 1) }
own_read done last rest all (statement {line = text} {lines = own} {first = s} {statements = statements} is more) few reads =
    let on = own_read done (with_statement last s) rest all more (subst (λ (p : Part). length p.statements ≤ MAX_STATEMENTS) (sym (one_statement last s statements)) few)
    (subst (λ p. Reads (done ++ p ∷ []) rest all) (sym (one_statement last s statements)) reads) in
    let room : length last.statements < MAX_STATEMENTS = omega (arith, few, length-append last.statements (s ∷ statements)) in
    let added : add_line (done ++ last ∷ []) (line_of text) ≡ Some (done ++ with_statement last s ∷ [])
    = ap (add_line (done ++ last ∷ [])) (statement_line_read text s is) ∙ add_last done last s room in
    record { is = λ n. line_more n (done ++ last ∷ []) (done ++ with_statement last s ∷ []) text (own ++ rest) added ∙ on.is (n + 1) }

-- parts after others
parts_read : (done : List Part) {texts : List (List ℕ)} {parts : List Part} → AreParts texts parts → AreApart (done ++ parts) → Reads done texts (done ++ parts)
parts_read done no_parts apart = record { is = λ n. ap (λ l. Ok (script l)) (sym (append-nil done)) }
parts_read done (part {head = head} {own = own} {rest = rest} {first = first} {parts = parts} is statements few more) apart =
    let joined : (done ++ first ∷ []) ++ parts ≡ done ++ first ∷ parts = append_assoc done (first ∷ []) parts in
    let next : Reads (done ++ first ∷ []) rest (done ++ first ∷ parts)
    = subst (Reads (done ++ first ∷ []) rest) joined (parts_read (done ++ first ∷ []) more (subst AreApart (sym joined) apart)) in
    let on : Reads (done ++ opened first.section ∷ []) (own ++ rest) (done ++ first ∷ parts)
    = own_read done (opened first.section) rest (done ++ first ∷ parts) statements few next in
    let new : has_section done first.section ≡ false = apart_new done parts first apart in
    let added : add_line done (line_of head) ≡ Some (done ++ opened first.section ∷ [])
    = ap (add_line done) (head_line_read head first.section is) ∙ cond-false (has_section done first.section) _ _ new in
    record { is = λ n. line_more n done (done ++ opened first.section ∷ []) head (own ++ rest) added ∙ on.is (n + 1) }

pub script_read : (texts : List (List ℕ)) (other : Script) → AreScriptLines texts other → (n : ℕ) → script_from n [] texts ≡ Ok other
script_read texts other is n =
    let reads = before_read is.before is.rest other.sections is.silent (parts_read [] is.parts is.apart) in
    ap (script_from n []) is.are ∙ reads.is n

-- ---- what is read is a script

-- what a line added
data Adds (parts next : List Part) (text : List ℕ) : Type 0 where
  nothing : SaysNothing text → next ≡ parts → Adds parts next text
  head : (section : Section) → IsHead text section → has_section parts section ≡ false → next ≡ parts ++ opened section ∷ [] → Adds parts next text
  adds_statement : (s : Statement) → IsStatement text s → add_statement s parts ≡ Some next → Adds parts next text

new_head : (parts next : List Part) (text : List ℕ) (section : Section) (test : Bool) → has_section parts section ≡ test → IsHead text section →
    add_line parts (line.Head section) ≡ Some next → Adds parts next text
new_head parts next text section true e is added = absurd (cc (added, cond-true (has_section parts section) None (Some (parts ++ opened section ∷ [])) e))
new_head parts next text section false e is added =
    let same : Some (parts ++ opened section ∷ []) ≡ Some next = sym (cond-false (has_section parts section) None (Some (parts ++ opened section ∷ [])) e) ∙ added in
    head section is e (cc same)

adds_by : (parts next : List Part) (text : List ℕ) (read : ScriptLine) → line_of text ≡ read → add_line parts read ≡ Some next → Adds parts next text
adds_by parts next text line.Empty e added = nothing (empty_sound text e) (cc added)
adds_by parts next text (line.Head section) e added = new_head parts next text section (has_section parts section) refl (head_sound text section e) added
adds_by parts next text (line.Statement s) e added = adds_statement s (statement_line_sound text s e) added
adds_by parts next text line.Bad e added = absurd (cc added)

adds : (parts next : List Part) (text : List ℕ) → add_line parts (line_of text) ≡ Some next → Adds parts next text
adds parts next text added = adds_by parts next text (line_of text) refl added

err_ok : (f : ScriptFault) (s : Script) → ◌≡◌ {A = Result Script ScriptFault} (Err f) (Ok s) → ⊥
err_ok f s e = cc e

-- what is read after a line
record Goes (n : ℕ) (parts : List Part) (text : List ℕ) (texts : List (List ℕ)) (all : List Part) : Type 0 where
  next : List Part
  added : add_line parts (line_of text) ≡ Some next
  adds : Adds parts next text
  more : script_from (n + 1) next texts ≡ Ok (script all)

goes_by : (n : ℕ) (parts : List Part) (text : List ℕ) (texts : List (List ℕ)) (all : List Part) (next : Option (List Part)) → add_line parts (line_of text) ≡ next →
    script_from n parts (text ∷ texts) ≡ Ok (script all) → Goes n parts text texts all
goes_by n parts text texts all None e read = absurd (err_ok (fault (n + 1)) (script all) (sym (ap (read_next (λ more. script_from (n + 1) more texts) (n + 1)) e) ∙ read))
goes_by n parts text texts all (Some next) e read = record { next = next; added = e; adds = adds parts next text e; more = sym (line_more n parts next text texts e) ∙ read }

goes : (n : ℕ) (parts : List Part) (text : List ℕ) (texts : List (List ℕ)) (all : List Part) → script_from n parts (text ∷ texts) ≡ Ok (script all) → Goes n parts text texts all
goes n parts text texts all read = goes_by n parts text texts all (add_line parts (line_of text)) refl read

-- what is read of no line
sections_same : (parts all : List Part) → script_from 0 parts [] ≡ Ok (script all) → all ≡ parts
sections_same parts all e = ap sections_in (sym e)
  where
    sections_in : Result Script ScriptFault → List Part
    sections_in (Ok s) = s.sections
    sections_in (Err f) = parts

-- what is read where the last part is not done: its statements, and further parts
record Continues (done : List Part) (last : Part) (texts : List (List ℕ)) (all : List Part) : Type 0 where
  own : List (List ℕ)
  rest : List (List ℕ)
  statements : List Statement
  parts : List Part
  are : texts ≡ own ++ rest
  own_are : AreStatements own statements
  few : length (last.statements ++ statements) ≤ MAX_STATEMENTS
  rest_are : AreParts rest parts
  is : all ≡ done ++ with_all last statements ∷ parts
  apart : AreApart all

added_by : (done : List Part) (last : Part) (s : Statement) (next : List Part) (room : Bool) → nat_lt (length last.statements) MAX_STATEMENTS ≡ room → add_statement s (done ++ last ∷ []) ≡ Some next →
    (length last.statements < MAX_STATEMENTS) × (next ≡ done ++ with_statement last s ∷ [])
added_by done last s next true room added =
    let few : length last.statements < MAX_STATEMENTS = ltb-true _ _ room in
    (few, cc (sym added ∙ add_last done last s few))
added_by done last s next false room added = absurd (cc (added, add_full done last s (ltb-false _ _ room)))

next_part : (done : List Part) (last : Part) (parts : List Part) → (done ++ last ∷ []) ++ parts ≡ done ++ with_all last [] ∷ parts
next_part done last parts = append_assoc done (last ∷ []) parts ∙ ap (λ p. done ++ p ∷ parts) (sym (same_part last))

next_statement : (done : List Part) (last : Part) (s : Statement) (rest : List Statement) (parts : List Part) →
    done ++ with_all (with_statement last s) rest ∷ parts ≡ done ++ with_all last (s ∷ rest) ∷ parts
next_statement done last s rest parts = ap (λ p. done ++ p ∷ parts) (one_statement last s rest)

-- the last part continues
Continue : List (List ℕ) → List Part → Type 0
Continue texts all = (n : ℕ) (done : List Part) (last : Part) → length last.statements ≤ MAX_STATEMENTS → AreApart (done ++ last ∷ []) → script_from n (done ++ last ∷ []) texts ≡ Ok (script all) → Continues done last texts all

continues_by : (n : ℕ) (done : List Part) (last : Part) (text : List ℕ) (texts : List (List ℕ)) (all next : List Part) → length last.statements ≤ MAX_STATEMENTS → AreApart (done ++ last ∷ []) →
    Adds (done ++ last ∷ []) next text → script_from (n + 1) next texts ≡ Ok (script all) → Continue texts all → Continues done last (text ∷ texts) all
unfolding Continue
continues_by n done last text texts all next few apart (nothing says same) read on =
    let more = on (n + 1) done last few apart (subst (λ p. script_from (n + 1) p texts ≡ Ok (script all)) same read) in
    record {
      own = text ∷ more.own;
      rest = more.rest;
      statements = more.statements;
      parts = more.parts;
      are = λ i. text ∷ more.are i;
      own_are = skipped says more.own_are;
      few = more.few;
      rest_are = more.rest_are;
      is = more.is;
      apart = more.apart;
    }
continues_by n done last text texts all next few apart (head section is new same) read on =
    let more = on (n + 1) (done ++ last ∷ []) (opened section) (omega arith) (apart_push (done ++ last ∷ []) (opened section) apart new) (subst (λ p. script_from (n + 1) p texts ≡ Ok (script all)) same read) in
    record {
      own = [];
      rest = text ∷ texts;
      statements = [];
      parts = with_all (opened section) more.statements ∷ more.parts;
      are = refl;
      own_are = none;
      few = rw (append-nil last.statements) few;
      rest_are = subst (λ l. AreParts (text ∷ l) (with_all (opened section) more.statements ∷ more.parts)) (sym more.are) (part is more.own_are more.few more.rest_are);
      is = more.is ∙ next_part done last (with_all (opened section) more.statements ∷ more.parts);
      apart = more.apart;
    }
continues_by n done last text texts all next few apart (adds_statement s is added) read on =
    let (room, same) = added_by done last s next (nat_lt (length last.statements) MAX_STATEMENTS) refl added in
    let more = on (n + 1) done (with_statement last s) (omega (arith, room, length-append last.statements (s ∷ [])))
    (apart_last done last (with_statement last s) refl apart) (subst (λ p. script_from (n + 1) p texts ≡ Ok (script all)) same read) in
    record {
      own = text ∷ more.own;
      rest = more.rest;
      statements = s ∷ more.statements;
      parts = more.parts;
      are = λ i. text ∷ more.are i;
      own_are = statement is more.own_are;
      few = subst (λ (p : Part). length p.statements ≤ MAX_STATEMENTS) (one_statement last s more.statements) more.few;
      rest_are = more.rest_are;
      is = more.is ∙ next_statement done last s more.statements more.parts;
      apart = more.apart;
    }

continues : (texts : List (List ℕ)) (all : List Part) → Continue texts all
unfolding Continue
continues [] all n done last few apart read = record {
  own = [];
  rest = [];
  statements = [];
  parts = [];
  are = refl;
  own_are = none;
  few = rw (append-nil last.statements) few;
  rest_are = no_parts;
  is = sections_same (done ++ last ∷ []) all read ∙ ap (λ p. done ++ p ∷ []) (sym (same_part last));
  apart = subst AreApart (sym (sections_same (done ++ last ∷ []) all read)) apart;
}
continues (text ∷ texts) all n done last few apart read =
    let next = goes n (done ++ last ∷ []) text texts all read in
    continues_by n done last text texts all next.next few apart next.adds next.more (continues texts all)

-- what is read before the first part
record Begins (texts : List (List ℕ)) (all : List Part) : Type 0 where
  before : List (List ℕ)
  rest : List (List ℕ)
  are : texts ≡ before ++ rest
  silent : All SaysNothing before
  parts : AreParts rest all
  apart : AreApart all

begins_by : (n : ℕ) (text : List ℕ) (texts : List (List ℕ)) (all next : List Part) → Adds [] next text → script_from (n + 1) next texts ≡ Ok (script all) →
    ((n : ℕ) → script_from n [] texts ≡ Ok (script all) → Begins texts all) → Begins (text ∷ texts) all
unfolding Continue
begins_by n text texts all next (nothing says same) read on =
    let more = on (n + 1) (subst (λ p. script_from (n + 1) p texts ≡ Ok (script all)) same read) in
    record { before = text ∷ more.before; rest = more.rest; are = λ i. text ∷ more.are i; silent = All-cons SaysNothing text more.before says more.silent; parts = more.parts; apart = more.apart }
begins_by n text texts all next (head section is new same) read on =
    let more = continues texts all (n + 1) [] (opened section) (omega arith) (apart_push [] (opened section) none_apart new) (subst (λ p. script_from (n + 1) p texts ≡ Ok (script all)) same read) in
    record {
      before = [];
      rest = text ∷ texts;
      are = refl;
      silent = λ k d below. absurd (omega arith);
      parts = subst (AreParts (text ∷ texts)) (sym more.is)
          (subst (λ l. AreParts (text ∷ l) (with_all (opened section) more.statements ∷ more.parts)) (sym more.are) (part is more.own_are more.few more.rest_are));
      apart = more.apart;
    }
begins_by n text texts all next (adds_statement s is added) read on = absurd (cc added)

begins : (n : ℕ) (texts : List (List ℕ)) (all : List Part) → script_from n [] texts ≡ Ok (script all) → Begins texts all
begins n [] all read = record {
  before = [];
  rest = [];
  are = refl;
  silent = λ k d below. absurd (omega arith);
  parts = subst (AreParts []) (sym (sections_same [] all read)) no_parts;
  apart = subst AreApart (sym (sections_same [] all read)) none_apart;
}
begins n (text ∷ texts) all read =
    let next = goes n [] text texts all read in
    begins_by n text texts all next.next next.adds next.more (λ m. begins m texts all)

pub script_sound : (n : ℕ) (texts : List (List ℕ)) (s : Script) → script_from n [] texts ≡ Ok s → AreScriptLines texts s
script_sound n texts s read =
    let prefix = begins n texts s.sections read in
    record { before = prefix.before; rest = prefix.rest; are = prefix.are; silent = prefix.silent; parts = prefix.parts; apart = prefix.apart }

-- ---- the first bad line

-- what is read of lines that follow others
extend : (n m : ℕ) (parts made : List Part) (before rest : List (List ℕ)) → m ≡ n + length before → script_from n parts before ≡ Ok (script made) →
    script_from n parts (before ++ rest) ≡ script_from m made rest
extend n m parts made [] rest count read =
    let same : m ≡ n = omega (arith, count) in
    rw (same, sections_same parts made read) refl
extend n m parts made (text ∷ before) rest count read =
    let next = goes n parts text before made read in
    line_more n parts next.next text (before ++ rest) next.added ∙ extend (n + 1) m next.next made before rest (omega (arith, count)) next.more

-- and of a line at which no script goes on
stopped : (made : List Part) (before : List (List ℕ)) (text : List ℕ) (more : List (List ℕ)) → script_from 0 [] before ≡ Ok (script made) → add_line made (line_of text) ≡ None →
    script_of (before ++ text ∷ more) ≡ Err (fault (length before + 1))
stopped made before text more read bad =
    extend 0 (length before) [] made before (text ∷ more) (omega arith) read
    ∙ ap (read_next (λ next. script_from (length before + 1) next more) (length before + 1)) bad

-- where reading stops
record Stops (n : ℕ) (parts : List Part) (texts : List (List ℕ)) (f : ScriptFault) : Type 0 where
  before : List (List ℕ)
  text : List ℕ
  rest : List (List ℕ)
  made : List Part
  are : texts ≡ before ++ text ∷ rest
  number : f.line ≡ n + length before + 1
  read : script_from n parts before ≡ Ok (script made)
  bad : add_line made (line_of text) ≡ None

line_at : (n : ℕ) (f : ScriptFault) → ◌≡◌ {A = Result Script ScriptFault} (Err (fault n)) (Err f) → f.line ≡ n
line_at n f e = ap number_of (sym e)
  where
    number_of : Result Script ScriptFault → ℕ
    number_of (Ok s) = n
    number_of (Err other) = other.line

ok_err : (f : ScriptFault) (s : Script) → ◌≡◌ {A = Result Script ScriptFault} (Ok s) (Err f) → ⊥
ok_err f s e = cc e

stops_by : (n : ℕ) (parts : List Part) (text : List ℕ) (texts : List (List ℕ)) (f : ScriptFault) (next : Option (List Part)) → add_line parts (line_of text) ≡ next →
    script_from n parts (text ∷ texts) ≡ Err f → ((next : List Part) → script_from (n + 1) next texts ≡ Err f → Stops (n + 1) next texts f) → Stops n parts (text ∷ texts) f
stops_by n parts text texts f None e read on =
    let number : f.line ≡ n + 1 = line_at (n + 1) f (sym (ap (read_next (λ more. script_from (n + 1) more texts) (n + 1)) e) ∙ read) in
    record { before = []; text = text; rest = texts; made = parts; are = refl; number = omega (arith, number); read = refl; bad = e }
stops_by n parts text texts f (Some next) e read on =
    let more = on next (sym (line_more n parts next text texts e) ∙ read) in
    record {
      before = text ∷ more.before;
      text = more.text;
      rest = more.rest;
      made = more.made;
      are = λ i. text ∷ more.are i;
      number = omega (arith, more.number);
      read = line_more n parts next text more.before e ∙ more.read;
      bad = more.bad;
    }

stops : (texts : List (List ℕ)) (n : ℕ) (parts : List Part) (f : ScriptFault) → script_from n parts texts ≡ Err f → Stops n parts texts f
stops [] n parts f read = absurd (ok_err f (script parts) read)
stops (text ∷ texts) n parts f read = stops_by n parts text texts f (add_line parts (line_of text)) refl read (λ next more. stops texts (n + 1) next f more)

pub fault_sound : (texts : List (List ℕ)) (f : ScriptFault) → script_of texts ≡ Err f → IsFirstBadLine texts f
fault_sound texts f read =
    let at = stops texts 0 [] f read in
    record {
      before = at.before;
      line = at.text;
      rest = at.rest;
      are = at.are;
      number = omega (arith, at.number);
      script = script at.made;
      reads = script_sound 0 at.before (script at.made) at.read;
      stops = λ more other is. err_ok (fault (length at.before + 1)) other (sym (stopped at.made at.before at.text more at.read at.bad) ∙ script_read (at.before ++ at.text ∷ more) other is 0);
    }

fault_by : (texts : List (List ℕ)) (f : ScriptFault) (is : IsFirstBadLine texts f) (next : Option (List Part)) → add_line is.script.sections (line_of is.line) ≡ next → script_of texts ≡ Err f
fault_by texts f is None bad =
    let same : fault (length is.before + 1) ≡ f = λ i. record { line = sym is.number i } in
    ap script_of is.are ∙ stopped is.script.sections is.before is.line is.rest (script_read is.before is.script is.reads 0) bad ∙ ap Err same
fault_by texts f is (Some next) good =
    let read : script_from 0 [] (is.before ++ is.line ∷ []) ≡ Ok (script next)
    = extend 0 (length is.before) [] is.script.sections is.before (is.line ∷ []) (omega arith) (script_read is.before is.script is.reads 0)
    ∙ line_more (length is.before) is.script.sections next is.line [] good in
    absurd (is.stops [] (script next) (script_sound 0 (is.before ++ is.line ∷ []) (script next) read))

pub fault_read : (texts : List (List ℕ)) (f : ScriptFault) → IsFirstBadLine texts f → script_of texts ≡ Err f
fault_read texts f is = fault_by texts f is (add_line is.script.sections (line_of is.line)) refl

-- ---- both

abbrev pub IsAnswer : List (List ℕ) → Result Script ScriptFault → Type 0
IsAnswer texts answer = MatchResult answer (AreScriptLines texts) (IsFirstBadLine texts)

pub answer_sound : (texts : List (List ℕ)) (answer : Result Script ScriptFault) → answer ≡ script_of texts → IsAnswer texts answer
answer_sound texts (Ok s) e = script_sound 0 texts s (sym e)
answer_sound texts (Err f) e = fault_sound texts f (sym e)
