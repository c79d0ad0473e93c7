-- Clauses without a fault, and one with a fault.
use Rattle.std.proofs.Common.{◌≡◌, List, ◌∷◌, ◌++◌, ap, ◌∙◌}
use Rattle.std.specs.Prelude.{⊤}
use Rattle.std.proofs.lemmas.List.{map-append}
use Rattle.osgi_header.specs.declared.clause.Clause.{Clause}
use Rattle.osgi_header.specs.declared.clause.ClauseAt.{ClauseAt}
use Rattle.osgi_world.specs.declared.manifest_fault.ManifestKind.{ManifestKind}
use Rattle.osgi_clause.specs.ClauseFaults.{AreFine, HasNone, IsFirstOf, clauses_of}
use Rattle.osgi_clause.specs.laws.FirstFaults.{not_both}

module _ (faults : List Clause → Clause → List (ManifestKind → Type 0)) where
  -- a clause has no fault and has one
  pub clash : (before : List Clause) (clause : Clause) (kind : ManifestKind) → HasNone (faults before clause) → IsFirstOf (faults before clause) kind → ⊥
  clash before clause kind none first = not_both (faults before clause) (λ (fine : Unit {0}). ⊤) (λ (fine : Unit {0}). ⊤) kind tt first none

  -- a clause among those that have no fault
  pub among : (items before : List ClauseAt) (item : ClauseAt) (rest : List ClauseAt) → AreFine faults (clauses_of items) → items ≡ before ++ item ∷ rest →
      HasNone (faults (clauses_of before) item.clause)
  among items before item rest fine e =
      fine (clauses_of before) (clauses_of rest) item.clause (ap clauses_of e ∙ map-append (λ (c : ClauseAt). c.clause) before (item ∷ rest))
