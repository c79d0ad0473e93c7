-- Answers that are the only ones. No public promise speaks of this.
use Rattle.std.specs.Prelude.{List, MatchResult, Result}
use Rattle.osgi_base.specs.Verdict.{Verdict}
use Rattle.osgi_header.specs.declared.clause.Clause.{Clause}
use Rattle.osgi_package.specs.declared.fault.PackageFault.{PackageFault}
use Rattle.osgi_package.specs.declared.fault.PackageKind.{PackageKind}
use Rattle.osgi_package.specs.Only.{IsOnly}
use Rattle.osgi_package.specs.Faults.{AreGiven, IsFirstFault}

-- what clauses give, or the first fault of them
abbrev pub IsAnswer : {X : Type 0} → (List Clause → Clause → Verdict PackageKind (List X) → Type 0) → List Clause → Result (List X) PackageFault → Type 0
IsAnswer Says clauses answer = MatchResult answer (AreGiven Says clauses) (IsFirstFault Says clauses)

abbrev pub IsTheAnswer : {X : Type 0} → (List Clause → Clause → Verdict PackageKind (List X) → Type 0) → List Clause → Result (List X) PackageFault → Type 0
IsTheAnswer Says clauses = IsOnly (IsAnswer Says clauses)
