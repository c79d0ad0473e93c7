-- What clauses make, or the first faulty one of them.
use Rattle.std.specs.Prelude.{◌≡◌, ⊤, List, ◌∷◌, ◌++◌, Ok, Err, Result}
use Rattle.osgi_base.specs.Verdict.{Gives, refuses}
use Rattle.osgi_header.specs.declared.clause.Clause.{Clause}
use Rattle.osgi_header.specs.declared.clause.ClauseAt.{ClauseAt}
use Rattle.osgi_world.specs.declared.manifest_fault.ManifestKind.{ManifestKind}
use Rattle.osgi_package.specs.Only.{IsOnly}
use Rattle.osgi_clause.specs.ClauseFaults.{AreFine, clauses_of}
use Rattle.osgi_clause.specs.declared.fault.ClauseFault.{ClauseFault}

-- the conditions call for this refusal first, and for no other
abbrev pub IsTheFirst : {R : Type 0} → List (R → Type 0) → R → Type 0
IsTheFirst conditions refusal = IsOnly (Gives conditions (λ (fine : Unit {0}). ⊤)) (refuses refusal)

-- the first faulty one of clauses, and its first fault
pub record IsFirstFaulty (faults : List Clause → Clause → List (ManifestKind → Type 0)) (clauses : List ClauseAt) (fault : ClauseFault) : Type 0 where
  pub before : List ClauseAt
  pub clause : ClauseAt
  pub rest : List ClauseAt
  pub is : clauses ≡ before ++ clause ∷ rest
  pub fine : AreFine faults (clauses_of before)
  pub first : IsTheFirst (faults (clauses_of before) clause.clause) fault.kind
  pub at : fault.at ≡ clause.at

-- what clauses make, where none of them has a fault
abbrev pub Walked : {A : Type 0} → (List Clause → Clause → List (ManifestKind → Type 0)) → (List Clause → A → Type 0) → List ClauseAt → Result A ClauseFault → Type 0
Walked faults Makes clauses (Ok made) = AreFine faults (clauses_of clauses) × IsOnly (Makes (clauses_of clauses)) made
Walked faults Makes clauses (Err fault) = IsFirstFaulty faults clauses fault
