-- What clauses give one after another, and the first of them that is at fault.
use Rattle.std.specs.Prelude.{◌≡◌, List, [], ◌∷◌, ◌++◌, length}
use Rattle.osgi_base.specs.Verdict.{Verdict, answers, refuses}
use Rattle.osgi_header.specs.declared.clause.Clause.{Clause}
use Rattle.osgi_package.specs.declared.fault.PackageFault.{PackageFault}
use Rattle.osgi_package.specs.declared.fault.PackageKind.{PackageKind}

-- `Says` is what a clause says where those before it are these: some items, or that it is at fault

-- what clauses give: the items of each, one clause after another
pub data AreGiven {X : Type 0} (Says : List Clause → Clause → Verdict PackageKind (List X) → Type 0) : List Clause → List X → Type 0 where
  none : AreGiven Says [] []
  more : {before : List Clause} {clause : Clause} {items others : List X} → AreGiven Says before items → Says before clause (answers others) →
      AreGiven Says (before ++ clause ∷ []) (items ++ others)

-- the first clause that is at fault
pub record IsFirstFault {X : Type 0} (Says : List Clause → Clause → Verdict PackageKind (List X) → Type 0) (clauses : List Clause) (fault : PackageFault) : Type 0 where
  pub before : List Clause
  pub clause : Clause
  pub rest : List Clause
  pub is : clauses ≡ before ++ clause ∷ rest
  pub items : List X
  pub given : AreGiven Says before items
  pub faulty : Says before clause (refuses fault.kind)
  pub at : fault.clause ≡ length before
