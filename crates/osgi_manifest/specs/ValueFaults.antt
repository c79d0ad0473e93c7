-- The first fault of a header's value, and where the faulty clause begins.
use Rattle.std.specs.Prelude.{ℕ, ◌≡◌, List, ◌∷◌, ◌++◌, Some}
use Rattle.osgi_header.specs.declared.clause.Clause.{Clause}
use Rattle.osgi_header.specs.declared.clause.ClauseAt.{ClauseAt}
use Rattle.osgi_header.specs.declared.clause.ReadClauses.{ReadClauses}
use Rattle.osgi_header.specs.declared.fault.HeaderFault.{HeaderFault}
use Rattle.osgi_header.specs.ReadClauses.{AreReadFrom}
use Rattle.osgi_world.specs.declared.manifest_fault.ManifestKind.{ManifestKind}
use Rattle.osgi_clause.specs.ClauseFaults.{AreFine, IsFirstOf, clauses_of}

-- the first clause of a value that is at fault: one that has a fault, or one outside the grammar, whose kind is `outside`
pub data IsValueFault (faults : List Clause → Clause → List (ManifestKind → Type 0)) (outside : ManifestKind) (value : List ℕ) : ManifestKind → ℕ → Type 0 where
  clause : {read : ReadClauses} {kind : ManifestKind} (before rest : List ClauseAt) (clause : ClauseAt) → AreReadFrom value read → read.clauses ≡ before ++ clause ∷ rest →
      AreFine faults (clauses_of before) → IsFirstOf (faults (clauses_of before) clause.clause) kind → IsValueFault faults outside value kind clause.at
  text : {read : ReadClauses} {fault : HeaderFault} → AreReadFrom value read → read.fault ≡ Some fault → AreFine faults (clauses_of read.clauses) →
      IsValueFault faults outside value outside fault.at
