-- The clauses of a header's value before its first fault, and where each begins.
use Rattle.std.specs.Prelude.{ℕ, ◌≡◌, ◌+◌, ◌<◌, List, [], ◌∷◌, length, None, Some}
use Rattle.std.specs.List.{AllPass, join_with_byte}
use Rattle.osgi_header.specs.declared.clause.ClauseAt.{ClauseAt}
use Rattle.osgi_header.specs.declared.clause.ReadClauses.{ReadClauses}
use Rattle.osgi_header.specs.declared.fault.HeaderFault.{HeaderFault}
use Rattle.osgi_header.specs.ClauseFaults.{IsClauseFault}
use Rattle.osgi_header.specs.Clauses.{IsClause}
use Rattle.osgi_header.specs.Spaces.{is_space_or_tab}

-- each text is one of the clauses, in order. The first text begins at this place, and each other one right after the `,`
-- that ends the text before it
abbrev pub AreClausesFrom : ℕ → List (List ℕ) → List ClauseAt → Type 0
AreClausesFrom at [] [] = Unit {0}
AreClausesFrom at (text ∷ texts) (clause ∷ clauses) =
    (clause.at ≡ at) × IsClause text clause.clause × AreClausesFrom (at + (length text + 1)) texts clauses
AreClausesFrom at _ _ = ⊥

-- what a value says up to its first fault: spaces and tabs alone say nothing; a value whose texts are all clauses says these and
-- has no fault; any other says the clauses before its first text that is none, and has that fault
pub data AreReadFrom : List ℕ → ReadClauses → Type 0 where
  blank : {value : List ℕ} → AllPass is_space_or_tab value → AreReadFrom value (record { clauses = []; fault = None })
  whole : {value : List ℕ} {clauses : List ClauseAt} (texts : List (List ℕ)) → 0 < length texts → value ≡ join_with_byte 44 texts → AreClausesFrom 0 texts clauses →
      AreReadFrom value (record { clauses = clauses; fault = None })
  faulty : {value : List ℕ} {clauses : List ClauseAt} {fault : HeaderFault} (is : IsClauseFault value fault) → AreClausesFrom 0 is.before clauses →
      AreReadFrom value (record { clauses = clauses; fault = Some fault })
