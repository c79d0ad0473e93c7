-- Clauses one after another, up to the first faulty one.
use Rattle.std.proofs.Common.{◌≡◌, ◌<◌, ◌+◌, ℕ, List, [], ◌∷◌, ◌++◌, length, take, drop, get_or, ap, sym, ◌∙◌, subst}
use Rattle.std.proofs.lemmas.List.{map-append}
use Rattle.osgi_header.specs.declared.clause.Clause.{Clause}
use Rattle.osgi_header.specs.declared.clause.ClauseAt.{ClauseAt}
use Rattle.osgi_world.specs.declared.manifest_fault.ManifestKind.{ManifestKind}
use Rattle.osgi_package.specs.laws.Splits.{earlier, later, no_item, same, split_at, splits, take_next}
use Rattle.osgi_clause.specs.ClauseFaults.{AreFine, HasNone, clauses_of}
use Rattle.osgi_clause.specs.Walks.{IsFirstFaulty, IsTheFirst}
use Rattle.osgi_clause.specs.declared.fault.ClauseFault.{ClauseFault}

module _ (faults : List Clause → Clause → List (ManifestKind → Type 0)) where
  pub fine_none : AreFine faults []
  fine_none before rest clause e = absurd (no_item before clause rest e)

  pub fine_more : (xs : List Clause) (x : Clause) → AreFine faults xs → HasNone (faults xs x) → AreFine faults (xs ++ x ∷ [])
  fine_more xs x fine none before rest clause e =
      elim (splits xs x [] before clause rest e) [
        | earlier mid is ↦ fine before mid clause is
        | same is at ↦ subst (λ c. HasNone (faults before c)) (sym at) (subst (λ l. HasNone (faults l x)) (sym is) none)
        | later mid is more ↦ absurd (no_item mid clause rest more)
      ]

  pub clauses_push : (items : List ClauseAt) (i : ℕ) (item : ClauseAt) → i < length items → item ≡ get_or items i item →
      clauses_of (take (i + 1) items) ≡ clauses_of (take i items) ++ item.clause ∷ []
  clauses_push items i item below is = ap clauses_of (take_next items i item below is) ∙ map-append (λ (c : ClauseAt). c.clause) (take i items) (item ∷ [])

  pub fine_next : (items : List ClauseAt) (i : ℕ) (item : ClauseAt) → i < length items → item ≡ get_or items i item → AreFine faults (clauses_of (take i items)) →
      HasNone (faults (clauses_of (take i items)) item.clause) → AreFine faults (clauses_of (take (i + 1) items))
  fine_next items i item below is fine none =
      subst (AreFine faults) (sym (clauses_push items i item below is)) (fine_more (clauses_of (take i items)) item.clause fine none)

  pub faulty_at : (items : List ClauseAt) (i : ℕ) (item : ClauseAt) (fault : ClauseFault) → i < length items → item ≡ get_or items i item → AreFine faults (clauses_of (take i items)) →
      IsTheFirst (faults (clauses_of (take i items)) item.clause) fault.kind → fault.at ≡ item.at → IsFirstFaulty faults items fault
  faulty_at items i item fault below is fine first at =
      record { before = take i items; clause = item; rest = drop (i + 1) items; is = sym (split_at items i item below is); fine = fine; first = first; at = at }
