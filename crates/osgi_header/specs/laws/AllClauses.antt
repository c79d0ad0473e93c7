-- All clauses of a value, or its fault, by what is read of it up to its first fault.
use Rattle.std.proofs.Common.{◌≡◌, ℕ, ◌+◌, List, [], ◌∷◌, length, ap, ◌∙◌, refl}
use Rattle.std.specs.Prelude.{All, map, None, Some, Ok, Err, MatchResult}
use Rattle.std.proofs.lemmas.List.Elements.{All-head, All-tail}
use Rattle.osgi_header.specs.declared.clause.Clause.{Clause}
use Rattle.osgi_header.specs.declared.clause.ClauseAt.{ClauseAt}
use Rattle.osgi_header.specs.declared.clause.ReadClauses.{ReadClauses}
use Rattle.osgi_header.specs.declared.fault.HeaderFault.{HeaderFault}
use Rattle.osgi_header.specs.ClauseFaults.{IsClauseFault}
use Rattle.osgi_header.specs.computed.ClauseReader.{all_or_fault}
use Rattle.osgi_header.specs.Clauses.{AreClauses, AreClausesOf, blank, IsClause, joined}
use Rattle.osgi_header.specs.ReadClauses.{AreClausesFrom, AreReadFrom, blank as read_blank, faulty as read_faulty, whole as read_whole}

are_clauses : (at : ℕ) (texts : List (List ℕ)) (clauses : List ClauseAt) → AreClausesFrom at texts clauses → AreClauses texts (map (λ c. c.clause) clauses)
are_clauses at [] [] are = tt
are_clauses at [] (clause ∷ clauses) are = absurd are
are_clauses at (text ∷ texts) [] are = absurd are
are_clauses at (text ∷ texts) (clause ∷ clauses) are = (are.1, are_clauses (at + (length text + 1)) texts clauses are.2)

pub all_reads : (value : List ℕ) (read : ReadClauses) → AreReadFrom value read → MatchResult (all_or_fault read) (AreClausesOf value) (IsClauseFault value)
all_reads value read (read_blank is) = blank is
all_reads value read (read_whole {clauses = clauses} texts some is are) = joined texts some is (are_clauses 0 texts clauses are)
all_reads value read (read_faulty is are) = is

-- clauses, with the place of each
record Placed (at : ℕ) (texts : List (List ℕ)) (all : List Clause) : Type 0 where
  clauses : List ClauseAt
  are : AreClausesFrom at texts clauses
  same : map (λ c. c.clause) clauses ≡ all

placed : (at : ℕ) (texts : List (List ℕ)) (all : List Clause) → AreClauses texts all → Placed at texts all
placed at [] [] are = record { clauses = []; are = tt; same = refl }
placed at [] (clause ∷ all) are = absurd are
placed at (text ∷ texts) [] are = absurd are
placed at (text ∷ texts) (clause ∷ all) are =
    let others = placed (at + (length text + 1)) texts all are.1 in
    record { clauses = record { at = at; clause = clause } ∷ others.clauses; are = (refl, are.0, others.are); same = ap (λ l. clause ∷ l) others.same }

record Found (texts : List (List ℕ)) : Type 0 where
  all : List Clause
  are : AreClauses texts all

found_all : (texts : List (List ℕ)) → All (λ t. (clause : Clause) × IsClause t clause) texts → Found texts
found_all [] clauses = record { all = []; are = tt }
found_all (text ∷ texts) clauses =
    let head = All-head (λ t. (clause : Clause) × IsClause t clause) text texts clauses in
    let tail = found_all texts (All-tail (λ t. (clause : Clause) × IsClause t clause) text texts clauses) in
    record { all = head.0 ∷ tail.all; are = (head.1, tail.are) }

-- the one reading of a value, by what else is said of the value
pub all_only : (value : List ℕ) (read : ReadClauses) (others : List Clause) → ((other : ReadClauses) → AreReadFrom value other → read ≡ other) → AreClausesOf value others →
    all_or_fault read ≡ Ok others
all_only value read others only (blank is) = ap all_or_fault (only (record { clauses = []; fault = None }) (read_blank is))
all_only value read others only (joined texts some is are) =
    let at = placed 0 texts others are in
    ap all_or_fault (only (record { clauses = at.clauses; fault = None }) (read_whole texts some is at.are)) ∙ ap Ok at.same

pub fault_only : (value : List ℕ) (read : ReadClauses) (fault : HeaderFault) → ((other : ReadClauses) → AreReadFrom value other → read ≡ other) → IsClauseFault value fault →
    all_or_fault read ≡ Err fault
fault_only value read fault only is =
    let found = found_all is.before is.clauses in
    let at = placed 0 is.before found.all found.are in
    ap all_or_fault (only (record { clauses = at.clauses; fault = Some fault }) (read_faulty is at.are))
