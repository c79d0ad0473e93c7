-- The first faulty clause is the fault of the header's value.
use Rattle.std.proofs.Common.{◌≡◌, ℕ, List, ◌∷◌, ◌++◌, ap, sym, ◌∙◌, refl, subst}
use Rattle.std.specs.Prelude.{None, Some, Option}
use Rattle.osgi_base.specs.Verdict.{Verdict, refuses}
use Rattle.osgi_header.specs.declared.clause.Clause.{Clause}
use Rattle.osgi_header.specs.declared.clause.ClauseAt.{ClauseAt}
use Rattle.osgi_header.specs.declared.clause.ReadClauses.{ReadClauses}
use Rattle.osgi_header.specs.declared.fault.HeaderFault.{HeaderFault}
use Rattle.osgi_header.specs.ReadClauses.{AreReadFrom}
use Rattle.osgi_world.specs.declared.manifest_fault.ManifestKind.{ManifestKind}
use Rattle.osgi_package.specs.Only.{IsOnly}
use Rattle.osgi_package.specs.laws.Splits.{earlier, later, same, splits}
use Rattle.osgi_clause.specs.ClauseFaults.{AreFine, IsFirstOf, clauses_of}
use Rattle.osgi_manifest.specs.ValueFaults.{IsValueFault, clause as at_clause, text as at_text}
use Rattle.osgi_clause.specs.Walks.{IsFirstFaulty}
use Rattle.osgi_clause.specs.declared.fault.ClauseFault.{ClauseFault}
use Rattle.osgi_clause.specs.laws.Faultless.{clash, among}

same_kind : (k l : ManifestKind) → ◌≡◌ {A = Verdict ManifestKind (Unit {0})} (refuses k) (refuses l) → k ≡ l
same_kind k l e = cc e

module _ (faults : List Clause → Clause → List (ManifestKind → Type 0)) where
  module _ (outside : ManifestKind) (value : List ℕ) (read : ReadClauses) (is : IsOnly (AreReadFrom value) read) where
    abbrev Same : ClauseFault → ManifestKind → ℕ → Type 0
    Same fault kind at = (kind ≡ fault.kind) × (at ≡ fault.at)

    abbrev IsTheFault : ClauseFault → Type 0
    IsTheFault fault = IsValueFault faults outside value fault.kind fault.at × ((kind : ManifestKind) (at : ℕ) → IsValueFault faults outside value kind at → Same fault kind at)

    clause_one : (fault : ClauseFault) (found : IsFirstFaulty faults read.clauses fault) {kind : ManifestKind} {at : ℕ} → IsValueFault faults outside value kind at → Same fault kind at
    clause_one fault found {kind} (at_clause {read = other} before rest item reads split fine first) =
        let split_here : read.clauses ≡ before ++ item ∷ rest = ap (λ (r : ReadClauses). r.clauses) (sym (is.only other reads)) ∙ split in
        elim (splits found.before found.clause found.rest before item rest (sym found.is ∙ split_here)) [
          | earlier mid e ↦ absurd (clash faults (clauses_of before) item.clause kind (among faults found.before before item mid found.fine e) first)
          | same e at ↦
              let here : IsFirstOf (faults (clauses_of found.before) found.clause.clause) kind
              = subst (λ (c : ClauseAt). IsFirstOf (faults (clauses_of found.before) c.clause) kind) at (subst (λ l. IsFirstOf (faults (clauses_of l) item.clause) kind) e first) in
              (same_kind kind fault.kind (found.first.only (refuses kind) here), ap (λ (c : ClauseAt). c.at) at ∙ sym found.at)
          | later mid e more ↦
              absurd (clash faults (clauses_of found.before) found.clause.clause fault.kind (among faults before found.before found.clause mid fine e) found.first.holds)
        ]
    clause_one fault found (at_text {read = other} reads has fine) =
        let split : other.clauses ≡ found.before ++ found.clause ∷ found.rest = ap (λ (r : ReadClauses). r.clauses) (is.only other reads) ∙ found.is in
        absurd (clash faults (clauses_of found.before) found.clause.clause fault.kind (among faults other.clauses found.before found.clause found.rest fine split) found.first.holds)

    pub clause_fault : (fault : ClauseFault) → IsFirstFaulty faults read.clauses fault → IsTheFault fault
    clause_fault fault found = (
      subst (IsValueFault faults outside value fault.kind) (sym found.at) (at_clause found.before found.rest found.clause is.holds found.is found.fine found.first.holds),
      λ kind at has. clause_one fault found has,
    )

    text_one : (fault : HeaderFault) → read.fault ≡ Some fault → AreFine faults (clauses_of read.clauses) → {kind : ManifestKind} {at : ℕ} → IsValueFault faults outside value kind at →
        Same (record { kind = outside; at = fault.at }) kind at
    text_one fault has fine {kind} (at_clause {read = other} before rest item reads split fine_before first) =
        let split_here : read.clauses ≡ before ++ item ∷ rest = ap (λ (r : ReadClauses). r.clauses) (sym (is.only other reads)) ∙ split in
        absurd (clash faults (clauses_of before) item.clause kind (among faults read.clauses before item rest fine split_here) first)
    text_one fault has fine (at_text {read = other} {fault = found} reads has_found fine_all) =
        let both : ◌≡◌ {A = Option HeaderFault} (Some found) (Some fault) = sym has_found ∙ ap (λ (r : ReadClauses). r.fault) (is.only other reads) ∙ has in
        let one : found ≡ fault = cc both in
        (refl, ap (λ (f : HeaderFault). f.at) one)

    pub text_fault : (fault : HeaderFault) → read.fault ≡ Some fault → AreFine faults (clauses_of read.clauses) → IsTheFault (record { kind = outside; at = fault.at })
    text_fault fault has fine = (at_text is.holds has fine, λ kind at found. text_one fault has fine found)

    pub no_fault : read.fault ≡ None → AreFine faults (clauses_of read.clauses) → (kind : ManifestKind) (at : ℕ) → ¬ IsValueFault faults outside value kind at
    no_fault none fine kind at (at_clause {read = other} before rest item reads split fine_before first) =
        let split_here : read.clauses ≡ before ++ item ∷ rest = ap (λ (r : ReadClauses). r.clauses) (sym (is.only other reads)) ∙ split in
        clash faults (clauses_of before) item.clause kind (among faults read.clauses before item rest fine split_here) first
    no_fault none fine kind at (at_text {read = other} {fault = found} reads has_found fine_all) =
        let both : ◌≡◌ {A = Option HeaderFault} (Some found) None = sym has_found ∙ ap (λ (r : ReadClauses). r.fault) (is.only other reads) ∙ none in
        absurd (cc both)
