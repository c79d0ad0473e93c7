-- What is computed of the clauses of package headers. No public promise speaks of this.
use Rattle.std.specs.Prelude.{ℕ, ◌≡◌, ◌≤◌, All, List, [], ◌∷◌, drop, length, take, None, Option, Some, Result, Ok, Err, slice_get}
use Rattle.osgi_header.specs.declared.clause.ClauseAt.{ClauseAt}
use Rattle.osgi_world.specs.declared.manifest_fault.ManifestKind.{ManifestKind}
use Rattle.osgi_world.specs.declared.manifest_fault.ManifestKind.TheVariants as fault
use Rattle.osgi_package.specs.declared.fault.PackageFault.{PackageFault}
use Rattle.osgi_clause.specs.Faults.{kind_of}
use Rattle.osgi_clause.specs.Directives.{Repeats}
use Rattle.osgi_clause.specs.declared.fault.ClauseFault.{ClauseFault}

-- so many clauses stand before the first that repeats an attribute or a directive
pub record IsPlainLen (clauses : List ClauseAt) (n : ℕ) : Type 0 where
  pub within : n ≤ length clauses
  pub before : All (λ (c : ClauseAt). ¬ Repeats c.clause) (take n clauses)
  pub at : (clause : ClauseAt) (rest : List ClauseAt) → drop n clauses ≡ clause ∷ rest → Repeats clause.clause

abbrev pub clause_place : Option ClauseAt → ℕ
clause_place None = 0
clause_place (Some clause) = clause.at

-- the fault, where the faulty clause begins
abbrev pub fault_in : List ClauseAt → ManifestKind → PackageFault → ClauseFault
fault_in clauses unversioned found = record { kind = kind_of unversioned found.kind; at = clause_place (slice_get clauses found.clause) }

-- a clause that repeats something follows, or none
abbrev pub or_repeated_of : {A : Type 0} → List ClauseAt → A → Result A ClauseFault
or_repeated_of [] made = Ok made
or_repeated_of (clause ∷ rest) made = Err (record { kind = fault.BadClause; at = clause.at })
