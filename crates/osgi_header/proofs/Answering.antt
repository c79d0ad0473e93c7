-- A value is read as the clauses that it says, or as the fault that it has, and as nothing else.
use Rattle.std.proofs.Common.{◌≡◌, ℕ, ◌+◌, ◌<◌, List, [], ◌∷◌, ◌++◌, length, ap, sym, ◌∙◌, refl, arith, append-nil, append_assoc, length-append, zero-add, subst}
use Rattle.std.specs.Prelude.{All, Bool, true, false, map, not, None, Some, Option, Result, Ok, Err}
use Rattle.std.specs.List.{AllPass, concat, join_with_byte, list_all}
use Rattle.std.proofs.lemmas.Bool.{and_left, and_right, cond-false, cond-true}
use Rattle.std.proofs.lemmas.List.Folds.{list_all-append}
use Rattle.std.proofs.lemmas.List.Elements.{All-cons, All-nil}
use Rattle.std.proofs.lemmas.List.Sums.{AllPass-from_list_all, list_all-from_AllPass}
use Rattle.osgi_header.specs.declared.clause.Clause.{Clause}
use Rattle.osgi_header.specs.declared.clause.ClauseAt.{ClauseAt}
use Rattle.osgi_header.specs.declared.clause.ReadClauses.{ReadClauses}
use Rattle.osgi_header.specs.declared.fault.HeaderFault.{HeaderFault}
use Rattle.osgi_header.specs.declared.fault.HeaderKind.{HeaderKind}
use Rattle.osgi_header.specs.declared.fault.HeaderKind.TheVariants.{BadClause, OpenQuote}
use Rattle.osgi_base.specs.declared.parts.QuoteState.{QuoteState}
use Rattle.osgi_base.specs.declared.parts.QuoteState.TheVariants.{Bare, Escaped, Quoted}
use Rattle.osgi_header.proofs.Closing.{closed_scan, is_open-scan, open_scan, scan_closed, scan_open}
use Rattle.osgi_header.proofs.Gathering.{clause_read, clause_scan, clause_sound}
use Rattle.osgi_base.specs.Parts.{is_bare, scan}
use Rattle.osgi_header.proofs.Splitting.{AreWhole, cut_ended, cut_is, cut_joined, cut_last, cut_some, IsCut, join-cons, joined_cut, last, more}
use Rattle.osgi_header.specs.ClauseFaults.{bad, IsClosedText, IsFaulty, more as more_behind, nothing as nothing_behind, FollowsText, unended, with_comma}
use Rattle.osgi_header.specs.computed.ClauseReader.{clause_of, clause_or_kind, ok_or_bad, read_by, read_from, read_of}
use Rattle.osgi_header.specs.Clauses.{ArePaths, IsClause, IsPath}
use Rattle.osgi_header.specs.computed.Cutting.{cut, is_open}
use Rattle.osgi_header.specs.Spaces.{is_space_or_tab}
use Rattle.osgi_header.specs.ReadClauses.{AreClausesFrom, AreReadFrom, blank as read_blank, faulty as read_faulty, whole as read_whole}

-- ---- one text

-- what a text is read as: a clause or a kind of fault
clause_kind_by : (text : List ℕ) (kind : HeaderKind) (o : Option Clause) → clause_of text ≡ o → ok_or_bad o ≡ Err kind → (kind ≡ BadClause) × (clause_of text ≡ None)
clause_kind_by text kind None is e = (cc e, is)
clause_kind_by text kind (Some clause) is e = absurd (cc e)

clause_is_by : (text : List ℕ) (clause : Clause) (o : Option Clause) → clause_of text ≡ o → ok_or_bad o ≡ Ok clause → clause_of text ≡ Some clause
clause_is_by text clause None is e = absurd (cc e)
clause_is_by text clause (Some one) is e =
    let same : one ≡ clause = cc e in
    is ∙ ap Some same

ok_by : (text : List ℕ) (clause : Clause) (test : Bool) → is_open text ≡ test → clause_or_kind text ≡ Ok clause → IsClause text clause
ok_by text clause true is e = absurd (cc (e, cond-true (is_open text) (Err OpenQuote) (ok_or_bad (clause_of text)) is))
ok_by text clause false is e =
    clause_sound text clause (clause_is_by text clause (clause_of text) refl (sym (cond-false (is_open text) (Err OpenQuote) (ok_or_bad (clause_of text)) is) ∙ e))

ok_sound : (text : List ℕ) (clause : Clause) → clause_or_kind text ≡ Ok clause → IsClause text clause
ok_sound text clause e = ok_by text clause (is_open text) refl e

not_open : (text : List ℕ) → scan 44 Bare text ≡ Some Bare → is_open text ≡ false
not_open text scanned = is_open-scan text Bare scanned

ok_read : (text : List ℕ) (clause : Clause) → IsClause text clause → clause_or_kind text ≡ Ok clause
ok_read text clause is =
    cond-false (is_open text) _ _ (not_open text (clause_scan text clause is)) ∙ ap ok_or_bad (clause_read text clause is)

no_clause : (text : List ℕ) → clause_of text ≡ None → (clause : Clause) → ¬ IsClause text clause
no_clause text none clause is = cc (none, clause_read text clause is)

-- a text with a fault, by where a scan of it ends
closed_kind : (text : List ℕ) (kind : HeaderKind) (rest : List ℕ) → FollowsText rest → scan 44 Bare text ≡ Some Bare → clause_or_kind text ≡ Err kind → IsFaulty text rest kind
closed_kind text kind rest stands scanned e =
    let is = clause_kind_by text kind (clause_of text) refl (sym (cond-false (is_open text) (Err OpenQuote) (ok_or_bad (clause_of text)) (not_open text scanned)) ∙ e) in
    rw is.0 (bad (scan_closed text scanned) stands (no_clause text is.1))

same_kinds : (answer : Result Clause HeaderKind) (first second : HeaderKind) → answer ≡ Err first → answer ≡ Err second → first ≡ second
same_kinds answer first second e f = cc

open_kind : (text : List ℕ) (kind : HeaderKind) (end : QuoteState) → scan 44 Bare text ≡ Some end → is_bare end ≡ false → clause_or_kind text ≡ Err kind → IsFaulty text [] kind
open_kind text kind end scanned within e =
    let unclosed : is_open text ≡ true = is_open-scan text end scanned ∙ ap not within in
    rw (← same_kinds (clause_or_kind text) OpenQuote kind (cond-true (is_open text) (Err OpenQuote) (ok_or_bad (clause_of text)) unclosed) e) (unended (scan_open text end scanned within))

last_kind : (text : List ℕ) (kind : HeaderKind) (end : QuoteState) → scan 44 Bare text ≡ Some end → clause_or_kind text ≡ Err kind → IsFaulty text [] kind
last_kind text kind Bare scanned e = closed_kind text kind [] nothing_behind scanned e
last_kind text kind Quoted scanned e = open_kind text kind Quoted scanned refl e
last_kind text kind Escaped scanned e = open_kind text kind Escaped scanned refl e

none_by : (text : List ℕ) (o : Option Clause) → clause_of text ≡ o → ((clause : Clause) → ¬ IsClause text clause) → ok_or_bad o ≡ Err BadClause
none_by text None is none = refl
none_by text (Some clause) is none = absurd (none clause (clause_sound text clause is))

bad_read : (text : List ℕ) → IsClosedText text → ((clause : Clause) → ¬ IsClause text clause) → clause_or_kind text ≡ Err BadClause
bad_read text closed none =
    cond-false (is_open text) _ _ (not_open text (closed_scan closed)) ∙ none_by text (clause_of text) refl none

open_read : (text : List ℕ) (end : QuoteState) → scan 44 Bare text ≡ Some end → is_bare end ≡ false → clause_or_kind text ≡ Err OpenQuote
open_read text end scanned within = cond-true (is_open text) _ _ (is_open-scan text end scanned ∙ ap not within)

-- ---- what is read of the texts of a value is what they say

-- clauses at these places, and then a fault
record FaultFrom (at : ℕ) (value : List ℕ) (clauses : List ClauseAt) (fault : HeaderFault) : Type 0 where
  before : List (List ℕ)
  text : List ℕ
  rest : List ℕ
  is : value ≡ concat (map with_comma before) ++ (text ++ rest)
  are : AreClausesFrom at before clauses
  faulty : IsFaulty text rest fault.kind
  place : fault.at ≡ at + length (concat (map with_comma before))

-- what is read of a value whose texts are these, of which the first begins at this place
data ReadsFrom (at : ℕ) (value : List ℕ) (texts : List (List ℕ)) : ReadClauses → Type 0 where
  to_end : {clauses : List ClauseAt} → AreClausesFrom at texts clauses → ReadsFrom at value texts (record { clauses = clauses; fault = None })
  to_fault : {clauses : List ClauseAt} {fault : HeaderFault} → FaultFrom at value clauses fault → ReadsFrom at value texts (record { clauses = clauses; fault = Some fault })

fault_here : (at : ℕ) (text rest : List ℕ) (texts : List (List ℕ)) (kind : HeaderKind) → IsFaulty text rest kind →
    ReadsFrom at (text ++ rest) texts (record { clauses = []; fault = Some (record { kind = kind; at = at }) })
fault_here at text rest texts kind faulty =
    to_fault (record { before = []; text = text; rest = rest; is = refl; are = tt; faulty = faulty; place = omega arith })

comma_assoc : (text others remainder : List ℕ) → (with_comma text ++ others) ++ remainder ≡ text ++ 44 ∷ (others ++ remainder)
comma_assoc text others remainder = append_assoc (text ++ 44 ∷ []) others remainder ∙ append_assoc text (44 ∷ []) (others ++ remainder)

-- after a clause
after_clause : (at : ℕ) (text rest : List ℕ) (texts : List (List ℕ)) (clause : Clause) (others : ReadClauses) → IsClause text clause →
    ReadsFrom (at + (length text + 1)) rest texts others → ReadsFrom at (text ++ 44 ∷ rest) (text ∷ texts) (read_by at (Ok clause) others)
after_clause at text rest texts clause others is (to_end are) = to_end (refl, is, are)
after_clause at text rest texts clause others is (to_fault found) =
    let prefix : List ℕ = concat (map with_comma found.before) in
    to_fault (record {
      before = text ∷ found.before;
      text = found.text;
      rest = found.rest;
      is = ap (λ l. text ++ 44 ∷ l) found.is ∙ sym (comma_assoc text prefix (found.text ++ found.rest));
      are = (refl, is, found.are);
      faulty = found.faulty;
      place = omega (arith, found.place, length-append (with_comma text) prefix, length-append text (44 ∷ []));
    })

last_by : (at : ℕ) (text : List ℕ) (end : QuoteState) (read : Result Clause HeaderKind) → scan 44 Bare text ≡ Some end → clause_or_kind text ≡ read →
    ReadsFrom at text (text ∷ []) (read_by at read (record { clauses = []; fault = None }))
last_by at text end (Ok clause) scanned is = to_end (refl, ok_sound text clause is, tt)
last_by at text end (Err kind) scanned is =
    subst (λ l. ReadsFrom at l (text ∷ []) (record { clauses = []; fault = Some (record { kind = kind; at = at }) })) (append-nil text)
    (fault_here at text [] (text ∷ []) kind (last_kind text kind end scanned is))

more_by : (at : ℕ) (text rest : List ℕ) (texts : List (List ℕ)) (read : Result Clause HeaderKind) (others : ReadClauses) → scan 44 Bare text ≡ Some Bare →
    clause_or_kind text ≡ read → ReadsFrom (at + (length text + 1)) rest texts others → ReadsFrom at (text ++ 44 ∷ rest) (text ∷ texts) (read_by at read others)
more_by at text rest texts (Ok clause) others scanned is others_read = after_clause at text rest texts clause others (ok_sound text clause is) others_read
more_by at text rest texts (Err kind) others scanned is others_read =
    fault_here at text (44 ∷ rest) (text ∷ texts) kind (closed_kind text kind (44 ∷ rest) more_behind scanned is)

reads_from : (at : ℕ) (place : QuoteState) {value : List ℕ} {parts : List (List ℕ)} → place ≡ Bare → IsCut 44 place value parts → ReadsFrom at value parts (read_from at parts)
reads_from at place is_bare (last {text = text} end scanned) =
    last_by at text end (clause_or_kind text) (rw is_bare at scanned) refl
reads_from at place is_bare (more {part = part} {rest = rest} {parts = parts} scanned are) =
    more_by at part rest parts (clause_or_kind part) (read_from (at + (length part + 1)) parts) (rw is_bare at scanned) refl
    (reads_from (at + (length part + 1)) Bare refl are)

-- ---- and all that they say is read

same_place : (clause : ClauseAt) (at : ℕ) → clause.at ≡ at → ◌≡◌ {A = ClauseAt} (record { at = at; clause = clause.clause }) clause
same_place clause at is = ap (λ n. record { at = n; clause = clause.clause }) (sym is)

clauses_read : (at : ℕ) (texts : List (List ℕ)) (clauses : List ClauseAt) → AreClausesFrom at texts clauses →
    read_from at texts ≡ record { clauses = clauses; fault = None }
clauses_read at [] [] are = refl
clauses_read at [] (clause ∷ clauses) are = absurd are
clauses_read at (text ∷ texts) [] are = absurd are
clauses_read at (text ∷ texts) (clause ∷ clauses) are =
    rw (ok_read text clause.clause are.1, clauses_read (at + (length text + 1)) texts clauses are.2)
    (ap (λ c. record { clauses = c ∷ clauses; fault = None }) (same_place clause at are.0))

whole_clauses : (at : ℕ) (texts : List (List ℕ)) (clauses : List ClauseAt) → AreClausesFrom at texts clauses → AreWhole 44 texts
whole_clauses at [] clauses are = tt
whole_clauses at (text ∷ texts) [] are = absurd are
whole_clauses at (text ∷ texts) (clause ∷ clauses) are =
    (clause_scan text clause.clause are.1, whole_clauses (at + (length text + 1)) texts clauses are.2)

faulty_read : (at : ℕ) (text rest : List ℕ) (kind : HeaderKind) → IsFaulty text rest kind →
    read_from at (cut 44 (text ++ rest)) ≡ record { clauses = []; fault = Some (record { kind = kind; at = at }) }
faulty_read at text rest kind (unended is) =
    let scanned = open_scan text is in
    ap (λ l. read_from at (cut 44 l)) (append-nil text)
    ∙ ap (read_from at) (cut_last 44 Bare scanned.end text scanned.scanned)
    ∙ ap (λ r. read_by at r (record { clauses = []; fault = None })) (open_read text scanned.end scanned.scanned scanned.within)
faulty_read at text rest kind (bad closed nothing_behind none) =
    ap (λ l. read_from at (cut 44 l)) (append-nil text)
    ∙ ap (read_from at) (cut_last 44 Bare Bare text (closed_scan closed))
    ∙ ap (λ r. read_by at r (record { clauses = []; fault = None })) (bad_read text closed none)
faulty_read at text rest kind (bad closed (more_behind {rest = remainder}) none) =
    ap (read_from at) (cut_ended 44 Bare text remainder (closed_scan closed))
    ∙ ap (λ r. read_by at r (read_from (at + (length text + 1)) (cut 44 remainder))) (bad_read text closed none)

fault_read : (at : ℕ) (before : List (List ℕ)) (clauses : List ClauseAt) (text rest : List ℕ) (kind : HeaderKind) → AreClausesFrom at before clauses →
    IsFaulty text rest kind →
    read_from at (cut 44 (concat (map with_comma before) ++ (text ++ rest)))
    ≡ record { clauses = clauses; fault = Some (record { kind = kind; at = at + length (concat (map with_comma before)) }) }
fault_read at [] [] text rest kind are faulty =
    faulty_read at text rest kind faulty ∙ ap (λ n. record { clauses = []; fault = Some (record { kind = kind; at = n }) }) (omega arith)
fault_read at [] (clause ∷ clauses) text rest kind are faulty = absurd are
fault_read at (first ∷ before) [] text rest kind are faulty = absurd are
fault_read at (first ∷ before) (clause ∷ clauses) text rest kind are faulty =
    let prefix : List ℕ = concat (map with_comma before) in
    let next : ℕ = at + (length first + 1) in
    ap (λ l. read_from at (cut 44 l)) (comma_assoc first prefix (text ++ rest))
    ∙ ap (read_from at) (cut_ended 44 Bare first (prefix ++ (text ++ rest)) (clause_scan first clause.clause are.1))
    ∙ ap (λ r. read_by at r (read_from next (cut 44 (prefix ++ (text ++ rest))))) (ok_read first clause.clause are.1)
    ∙ ap (read_by at (Ok clause.clause)) (fault_read next before clauses text rest kind are.2 faulty)
    ∙ ap (λ c. record { clauses = c ∷ clauses; fault = Some (record { kind = kind; at = next + length prefix }) }) (same_place clause at are.0)
    ∙ ap (λ n. record { clauses = clause ∷ clauses; fault = Some (record { kind = kind; at = n }) })
    (omega (arith, length-append (with_comma first) prefix, length-append first (44 ∷ [])))

-- ---- values of blanks alone

not_blank-front : (prefix rest : List ℕ) → list_all is_space_or_tab prefix ≡ false → list_all is_space_or_tab (prefix ++ rest) ≡ false
not_blank-front prefix rest some = list_all-append is_space_or_tab prefix rest ∙ and_left (list_all is_space_or_tab prefix) (list_all is_space_or_tab rest) some

not_blank-behind : (prefix rest : List ℕ) → list_all is_space_or_tab rest ≡ false → list_all is_space_or_tab (prefix ++ rest) ≡ false
not_blank-behind prefix rest some = list_all-append is_space_or_tab prefix rest ∙ and_right (list_all is_space_or_tab prefix) (list_all is_space_or_tab rest) some

path_not_blank : (text path : List ℕ) → IsPath text path → list_all is_space_or_tab text ≡ false
path_not_blank text [] is = absurd (omega (arith, is.some))
path_not_blank text (b ∷ path) is =
    ap (list_all is_space_or_tab) is.trimmed.is
    ∙ not_blank-behind is.trimmed.before ((b ∷ path) ++ is.trimmed.remainder)
    (not_blank-front (b ∷ path) is.trimmed.remainder (and_left (is_space_or_tab b) (list_all is_space_or_tab path) (is.trimmed.first b path refl)))

paths_not_blank : (texts paths others : List (List ℕ)) → ArePaths texts paths → 0 < length texts → list_all is_space_or_tab (join_with_byte 59 (texts ++ others)) ≡ false
paths_not_blank [] paths others are some = absurd (omega (arith, some))
paths_not_blank (text ∷ texts) [] others are some = absurd are
paths_not_blank (text ∷ texts) (path ∷ paths) others are some =
    ap (list_all is_space_or_tab) (join-cons 59 text (texts ++ others))
    ∙ not_blank-front text (concat (map (λ p. 59 ∷ p) (texts ++ others))) (path_not_blank text path are.0)

clauses_not_blank : (at : ℕ) (texts : List (List ℕ)) (clauses : List ClauseAt) → AreClausesFrom at texts clauses → 0 < length texts →
    list_all is_space_or_tab (join_with_byte 44 texts) ≡ false
clauses_not_blank at [] clauses are some = absurd (omega (arith, some))
clauses_not_blank at (text ∷ texts) [] are some = absurd are
clauses_not_blank at (text ∷ texts) (clause ∷ clauses) are some =
    let is = are.1 in
    ap (list_all is_space_or_tab) (join-cons 44 text texts)
    ∙ not_blank-front text (concat (map (λ p. 44 ∷ p) texts))
    (ap (list_all is_space_or_tab) is.is ∙ paths_not_blank is.paths clause.clause.paths is.parameters is.are_paths is.some)

-- ---- the whole value

-- the texts before a fault are clauses
all_clauses : (at : ℕ) (texts : List (List ℕ)) (clauses : List ClauseAt) → AreClausesFrom at texts clauses → All (λ t. (clause : Clause) × IsClause t clause) texts
all_clauses at [] clauses are = All-nil (λ t. (clause : Clause) × IsClause t clause)
all_clauses at (text ∷ texts) [] are = absurd are
all_clauses at (text ∷ texts) (clause ∷ clauses) are =
    All-cons (λ t. (c : Clause) × IsClause t c) text texts (clause.clause, are.1) (all_clauses (at + (length text + 1)) texts clauses are.2)

whole_by : (value : List ℕ) (read : ReadClauses) → list_all is_space_or_tab value ≡ false → ReadsFrom 0 value (cut 44 value) read → AreReadFrom value read
whole_by value read some (to_end are) =
    let parts = cut_is 44 Bare value in
    read_whole (cut 44 value) (cut_some parts) (cut_joined parts) are
whole_by value read some (to_fault found) =
    read_faulty (record {
      before = found.before;
      text = found.text;
      rest = found.rest;
      is = found.is;
      clauses = all_clauses 0 found.before _ found.are;
      faulty = found.faulty;
      at = found.place ∙ zero-add (length (concat (map with_comma found.before)));
      not_blank = λ all. cc (some, list_all-from_AllPass is_space_or_tab value all);
    }) found.are

value_by : (value : List ℕ) (test : Bool) → list_all is_space_or_tab value ≡ test → AreReadFrom value (read_of value)
value_by value true is =
    rw (cond-true (list_all is_space_or_tab value) (record { clauses = []; fault = None }) (read_from 0 (cut 44 value)) is)
    (read_blank (AllPass-from_list_all is_space_or_tab value is))
value_by value false is =
    rw (cond-false (list_all is_space_or_tab value) (record { clauses = []; fault = None }) (read_from 0 (cut 44 value)) is)
    (whole_by value (read_from 0 (cut 44 value)) is (reads_from 0 Bare refl (cut_is 44 Bare value)))

pub value_reads : (value : List ℕ) → AreReadFrom value (read_of value)
value_reads value = value_by value (list_all is_space_or_tab value) refl

not_all : (value : List ℕ) (test : Bool) → list_all is_space_or_tab value ≡ test → ¬ AllPass is_space_or_tab value → test ≡ false
not_all value true is not = absurd (not (AllPass-from_list_all is_space_or_tab value is))
not_all value false is not = refl

pub value_read : (value : List ℕ) (read : ReadClauses) → AreReadFrom value read → read_of value ≡ read
value_read value read (read_blank is) = cond-true (list_all is_space_or_tab value) _ _ (list_all-from_AllPass is_space_or_tab value is)
value_read value read (read_whole {clauses = clauses} texts some is are) =
    cond-false (list_all is_space_or_tab value) _ _ (ap (list_all is_space_or_tab) is ∙ clauses_not_blank 0 texts clauses are some)
    ∙ ap (read_from 0) (ap (cut 44) is ∙ joined_cut 44 texts some (whole_clauses 0 texts clauses are))
    ∙ clauses_read 0 texts clauses are
value_read value read (read_faulty {clauses = clauses} {fault = fault} is are) =
    cond-false (list_all is_space_or_tab value) _ _ (not_all value (list_all is_space_or_tab value) refl is.not_blank)
    ∙ ap (λ l. read_from 0 (cut 44 l)) is.is
    ∙ fault_read 0 is.before clauses is.text is.rest fault.kind are is.faulty
    ∙ ap (λ n. record { clauses = clauses; fault = Some (record { kind = fault.kind; at = n }) })
    (zero-add (length (concat (map with_comma is.before))) ∙ sym is.at)
