-- The first fault of a clause, and clauses without one.
use Rattle.std.specs.Prelude.{◌≡◌, ⊤, List, ◌∷◌, ◌++◌, map}
use Rattle.osgi_base.specs.Verdict.{Gives, answers, refuses}
use Rattle.osgi_header.specs.declared.clause.Clause.{Clause}
use Rattle.osgi_header.specs.declared.clause.ClauseAt.{ClauseAt}
use Rattle.osgi_world.specs.declared.manifest_fault.ManifestKind.{ManifestKind}

-- the first of these faults in order
abbrev pub IsFirstOf : List (ManifestKind → Type 0) → ManifestKind → Type 0
IsFirstOf faults kind = Gives faults (λ (fine : Unit {0}). ⊤) (refuses kind)

-- none of them
abbrev pub HasNone : List (ManifestKind → Type 0) → Type 0
HasNone faults = Gives faults (λ (fine : Unit {0}). ⊤) (answers tt)

-- no clause has a fault; `faults` are those of a clause in order, where the clauses before it are these
abbrev pub AreFine : (List Clause → Clause → List (ManifestKind → Type 0)) → List Clause → Type 0
AreFine faults clauses = (before rest : List Clause) (clause : Clause) → clauses ≡ before ++ clause ∷ rest → HasNone (faults before clause)

abbrev pub clauses_of : List ClauseAt → List Clause
clauses_of clauses = map (λ (c : ClauseAt). c.clause) clauses
