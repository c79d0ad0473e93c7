-- The clauses of a package header, one after another, up to the first faulty one.
use Rattle.std.proofs.Common.{◌≡◌, ◌<◌, ℕ, List, [], ◌∷◌, ◌++◌, length, take, drop, get_or, ap, sym, ◌∙◌, refl, subst, inl, inr, arith, append_assoc, append-nil, length-append}
use Rattle.std.specs.Prelude.{⊤, All, Some, Result, Ok, Err, MatchResult, slice_get}
use Rattle.std.proofs.lemmas.List.{length-map, take-append-drop}
use Rattle.std.proofs.lemmas.Option.{slice_get_read}
use Rattle.std.proofs.Math.Seq.{get_or-append_seam}
use Rattle.osgi_base.specs.Verdict.{Gives, Verdict, Where, answers, refuses}
use Rattle.osgi_base.specs.laws.Verdicts.{gives_rest}
use Rattle.osgi_header.specs.declared.clause.Clause.{Clause}
use Rattle.osgi_header.specs.declared.clause.ClauseAt.{ClauseAt}
use Rattle.osgi_world.specs.declared.manifest_fault.ManifestKind.{ManifestKind}
use Rattle.osgi_world.specs.declared.manifest_fault.ManifestKind.TheVariants as fault
use Rattle.osgi_world.specs.declared.capability.Capability.{Capability}
use Rattle.osgi_world.specs.declared.requirement.Requirement.{Requirement}
use Rattle.osgi_package.specs.Only.{IsOnly}
use Rattle.osgi_package.specs.declared.fault.PackageFault.{PackageFault}
use Rattle.osgi_package.specs.declared.fault.PackageKind.{PackageKind}
use Rattle.osgi_package.specs.Exports.{SaysExports, AreExportsOf, export_faults}
use Rattle.osgi_package.specs.Faults.{AreGiven, IsFirstFault, more, none}
use Rattle.osgi_package.specs.Imports.{SaysImports, AreImportsOf, import_faults}
use Rattle.osgi_package.specs.laws.Splits.{no_item}
use Rattle.osgi_package.specs.laws.Verdicts.{first_only, rest_only}
use Rattle.osgi_clause.specs.ClauseFaults.{AreFine, HasNone, clauses_of}
use Rattle.osgi_clause.specs.Walks.{IsFirstFaulty, IsTheFirst, Walked}
use Rattle.osgi_clause.specs.computed.Packages.{IsPlainLen, fault_in, or_repeated_of, clause_place}
use Rattle.osgi_clause.specs.Faults.{kind_of}
use Rattle.osgi_clause.specs.Directives.{Repeats}
use Rattle.osgi_clause.proofs.Made.{heads, tails}
use Rattle.osgi_clause.specs.laws.FirstFaults.{called_only, not_both, same_refusal}
use Rattle.osgi_clause.proofs.Walks.{fine_more, fine_none}

-- ---- conditions that each call for one refusal

abbrev Ones : {R : Type 0} → List (R → Type 0) → Type 0
Ones [] = Unit {0}
Ones {R} (condition ∷ rest) = ((r s : R) → condition r → condition s → r ≡ s) × Ones rest

one_refusal : {R A : Type 0} (conditions : List (R → Type 0)) (answer : A → Type 0) (p q : R) → Ones conditions → Gives conditions answer (refuses p) → Gives conditions answer (refuses q) → p ≡ q
one_refusal [] answer p q ones first second = absurd first
one_refusal (condition ∷ rest) answer p q ones (inl (r, called, e)) (inl (s, also, f)) = same_refusal p r e ∙ ones.0 r s called also ∙ sym (same_refusal q s f)
one_refusal (condition ∷ rest) answer p q ones (inl (r, called, e)) (inr (uncalled, second)) = absurd (uncalled r called)
one_refusal (condition ∷ rest) answer p q ones (inr (uncalled, first)) (inl (s, also, f)) = absurd (uncalled s also)
one_refusal (condition ∷ rest) answer p q ones (inr (uncalled, first)) (inr (un, second)) = one_refusal rest answer p q ones.1 first second

-- ---- clauses with their places

record SplitAt (items : List ClauseAt) (before : List Clause) (clause : Clause) : Type 0 where
  first : List ClauseAt
  item : ClauseAt
  others : List ClauseAt
  is : items ≡ first ++ item ∷ others
  before_is : clauses_of first ≡ before
  clause_is : item.clause ≡ clause

split_places : (items : List ClauseAt) (before : List Clause) (clause : Clause) (rest : List Clause) → clauses_of items ≡ before ++ clause ∷ rest → SplitAt items before clause
split_places [] before clause rest e = absurd (no_item before clause rest e)
split_places (item ∷ items) [] clause rest e =
    record { first = []; item = item; others = items; is = refl; before_is = refl; clause_is = heads item.clause clause (clauses_of items) rest e }
split_places (item ∷ items) (b ∷ before) clause rest e =
    let here : item.clause ≡ b = heads item.clause b (clauses_of items) (before ++ clause ∷ rest) e in
    let split = split_places items before clause rest (tails item.clause b (clauses_of items) (before ++ clause ∷ rest) e) in
    record {
      first = item ∷ split.first;
      item = split.item;
      others = split.others;
      is = ap (λ l. item ∷ l) split.is;
      before_is = λ i. here i ∷ split.before_is i;
      clause_is = split.clause_is;
    }

got_at : (items first : List ClauseAt) (item : ClauseAt) (others : List ClauseAt) → items ≡ first ++ item ∷ others → slice_get items (length first) ≡ Some item
got_at items first item others is =
    ap (λ l. slice_get l (length first)) is
    ∙ slice_get_read (first ++ item ∷ others) (length (first ++ item ∷ others)) (length first) item refl (omega (arith, length-append first (item ∷ others)))
    (sym (get_or-append_seam first item others item))

abbrev pub Once : List Clause → Type 0
Once clauses = (before rest : List Clause) (clause : Clause) → clauses ≡ before ++ clause ∷ rest → ¬ Repeats clause

once_all : (items : List ClauseAt) → All (λ (c : ClauseAt). ¬ Repeats c.clause) items → Once (clauses_of items)
once_all items all before rest clause e =
    let split = split_places items before clause rest e in
    let within : length split.first < length items = omega (arith, ap length split.is, length-append split.first (split.item ∷ split.others)) in
    let here : get_or items (length split.first) split.item ≡ split.item
    = ap (λ l. get_or l (length split.first) split.item) split.is ∙ get_or-append_seam split.first split.item split.others split.item in
    subst (λ c. ¬ Repeats c) split.clause_is (subst (λ (c : ClauseAt). ¬ Repeats c.clause) here (all (length split.first) split.item within))

-- ---- the clauses of a package header

module _ {X : Type 0} (Says : List Clause → Clause → Verdict PackageKind (List X) → Type 0) (unversioned : ManifestKind)
    (both : (before : List Clause) (clause : Clause) (p : PackageKind) (xs : List X) → Says before clause (refuses p) → Says before clause (answers xs) → ⊥)
    (one : (before : List Clause) (clause : Clause) (p q : PackageKind) → Says before clause (refuses p) → Says before clause (refuses q) → p ≡ q) where
  abbrev says_fault : List Clause → Clause → ManifestKind → Type 0
  says_fault before clause kind = (p : PackageKind) × Says before clause (refuses p) × (kind ≡ kind_of unversioned p)

  abbrev faults : List Clause → Clause → List (ManifestKind → Type 0)
  faults before clause = Where fault.BadClause (Repeats clause) ∷ says_fault before clause ∷ []

  clause_none : (before : List Clause) (clause : Clause) (xs : List X) → ¬ Repeats clause → Says before clause (answers xs) → HasNone (faults before clause)
  clause_none before clause xs once said =
      gives_rest fault.BadClause (Repeats clause) (says_fault before clause ∷ []) (λ (fine : Unit {0}). ⊤) (answers tt) once
      (inr ((λ kind called. both before clause called.0 xs called.1 said), tt))

  given_fine : {clauses : List Clause} {items : List X} → AreGiven Says clauses items → Once clauses → AreFine faults clauses
  given_fine none once = fine_none faults
  given_fine (more {before = before} {clause = clause} {others = others} given said) once =
      fine_more faults before clause
      (given_fine given (λ b r c e. once b (r ++ clause ∷ []) c (ap (λ l. l ++ clause ∷ []) e ∙ append_assoc b (c ∷ r) (clause ∷ []))))
      (clause_none before clause others (once before [] clause refl) said)

  clause_first : (before : List Clause) (clause : Clause) (p : PackageKind) → ¬ Repeats clause → Says before clause (refuses p) → IsTheFirst (faults before clause) (kind_of unversioned p)
  clause_first before clause p once said =
      rest_only fault.BadClause (Repeats clause) (says_fault before clause ∷ []) (λ (fine : Unit {0}). ⊤) (refuses (kind_of unversioned p)) once
      (called_only (says_fault before clause) [] (λ (fine : Unit {0}). ⊤) (kind_of unversioned p) (record {
        holds = (p, said, refl);
        only = λ kind called. called.2 ∙ ap (kind_of unversioned) (one before clause called.0 p called.1 said);
      }))

  repeated_first : (before : List Clause) (clause : Clause) → Repeats clause → IsTheFirst (faults before clause) fault.BadClause
  repeated_first before clause twice = first_only fault.BadClause (Repeats clause) (says_fault before clause ∷ []) (λ (fine : Unit {0}). ⊤) twice

  faulty_in : (items rest : List ClauseAt) (found : PackageFault) → IsFirstFault Says (clauses_of items) found → Once (clauses_of items) →
      IsFirstFaulty faults (items ++ rest) (fault_in items unversioned found)
  faulty_in items rest found is once =
      let split = split_places items is.before is.clause is.rest is.is in
      let once_before : Once is.before = λ b r c e. once b (r ++ is.clause ∷ is.rest) c (is.is ∙ ap (λ l. l ++ is.clause ∷ is.rest) e ∙ append_assoc b (c ∷ r) (is.clause ∷ is.rest)) in
      let first : IsTheFirst (faults is.before is.clause) (kind_of unversioned found.kind)
      = clause_first is.before is.clause found.kind (once is.before is.rest is.clause is.is) is.faulty in
      let number : found.clause ≡ length split.first
      = is.at ∙ ap length (sym split.before_is) ∙ length-map split.first (λ (c : ClauseAt). c.clause) in
      record {
        before = split.first;
        clause = split.item;
        rest = split.others ++ rest;
        is = ap (λ l. l ++ rest) split.is ∙ append_assoc split.first (split.item ∷ split.others) rest;
        fine = subst (AreFine faults) (sym split.before_is) (given_fine is.given once_before);
        first = subst (λ l. IsTheFirst (faults l split.item.clause) (kind_of unversioned found.kind)) (sym split.before_is)
            (subst (λ c. IsTheFirst (faults is.before c) (kind_of unversioned found.kind)) (sym split.clause_is) first);
        at = ap clause_place (ap (slice_get items) number ∙ got_at items split.first split.item split.others split.is);
      }

  repeated_in : (clauses before rest : List ClauseAt) (made : List X) → clauses ≡ before ++ rest → Once (clauses_of before) →
      ((clause : ClauseAt) (more : List ClauseAt) → rest ≡ clause ∷ more → Repeats clause.clause) → IsOnly (AreGiven Says (clauses_of before)) made →
      Walked faults (AreGiven Says) clauses (or_repeated_of rest made)
  repeated_in clauses before [] made is once at given =
      let all : before ≡ clauses = sym (append-nil before) ∙ sym is in
      (subst (λ l. AreFine faults (clauses_of l)) all (given_fine given.holds once), subst (λ l. IsOnly (AreGiven Says (clauses_of l)) made) all given)
  repeated_in clauses before (clause ∷ rest) made is once at given = record {
    before = before;
    clause = clause;
    rest = rest;
    is = is;
    fine = given_fine given.holds once;
    first = repeated_first (clauses_of before) clause.clause (at clause rest refl);
    at = refl;
  }

  -- ---- what was read of the clauses before the first that repeats something

  module _ (clauses before rest : List ClauseAt) (n : ℕ) (all : List Clause) (len : IsPlainLen clauses n) (before_is : before ≡ take n clauses) (rest_is : rest ≡ drop n clauses)
      (all_is : all ≡ clauses_of before) where
    whole : clauses ≡ before ++ rest
    whole = sym (take-append-drop n clauses) ∙ (λ i. sym before_is i ++ sym rest_is i)

    once_before : Once (clauses_of before)
    once_before = subst (λ l. Once (clauses_of l)) (sym before_is) (once_all (take n clauses) len.before)

    pub walked_made : (r : Result (List X) PackageFault) (made : List X) → r ≡ Ok made → MatchResult r (AreGiven Says all) (IsFirstFault Says all) →
        ((others : List X) → AreGiven Says all others → r ≡ Ok others) → Walked faults (AreGiven Says) clauses (or_repeated_of rest made)
    walked_made r made is reads only =
        let given : AreGiven Says all made = subst (λ a. MatchResult a (AreGiven Says all) (IsFirstFault Says all)) is reads in
        repeated_in clauses before rest made whole once_before (λ clause more e. len.at clause more (sym rest_is ∙ e))
        (record {
          holds = subst (λ l. AreGiven Says l made) all_is given;
          only = λ others has. sym (same_ok made others (sym is ∙ only others (subst (λ l. AreGiven Says l others) (sym all_is) has)));
        })
      where
        same_ok : (a b : List X) → ◌≡◌ {A = Result (List X) PackageFault} (Ok a) (Ok b) → a ≡ b
        same_ok a b e = cc e

    pub walked_fault : (r : Result (List X) PackageFault) (found : PackageFault) → r ≡ Err found → MatchResult r (AreGiven Says all) (IsFirstFault Says all) →
        Walked faults (AreGiven Says) clauses (Err (fault_in before unversioned found))
    walked_fault r found is reads =
        let faulty : IsFirstFault Says all found = subst (λ a. MatchResult a (AreGiven Says all) (IsFirstFault Says all)) is reads in
        subst (λ l. IsFirstFaulty faults l (fault_in before unversioned found)) (sym whole)
        (faulty_in before rest found (subst (λ l. IsFirstFault Says l found) all_is faulty) once_before)

-- ---- imports and exports

pub imports_both : (before : List Clause) (clause : Clause) (p : PackageKind) (xs : List Requirement) → SaysImports before clause (refuses p) → SaysImports before clause (answers xs) → ⊥
imports_both before clause p xs = not_both (import_faults before clause) (AreImportsOf clause) (AreImportsOf clause) p xs

pub imports_one : (before : List Clause) (clause : Clause) (p q : PackageKind) → SaysImports before clause (refuses p) → SaysImports before clause (refuses q) → p ≡ q
imports_one before clause p q =
    one_refusal (import_faults before clause) (AreImportsOf clause) p q
    ((λ r s a b. a.0 ∙ sym b.0), ((λ r s a b. a.0 ∙ sym b.0), ((λ r s a b. a.0 ∙ sym b.0), ((λ r s a b. a.0 ∙ sym b.0), tt))))

pub exports_both : (before : List Clause) (clause : Clause) (p : PackageKind) (xs : List Capability) → SaysExports before clause (refuses p) → SaysExports before clause (answers xs) → ⊥
exports_both before clause p xs = not_both (export_faults clause) (AreExportsOf clause) (AreExportsOf clause) p xs

pub exports_one : (before : List Clause) (clause : Clause) (p q : PackageKind) → SaysExports before clause (refuses p) → SaysExports before clause (refuses q) → p ≡ q
exports_one before clause p q =
    one_refusal (export_faults clause) (AreExportsOf clause) p q
    ((λ r s a b. a.0 ∙ sym b.0), ((λ r s a b. a.0 ∙ sym b.0), ((λ r s a b. a.0 ∙ sym b.0), ((λ r s a b. a.0 ∙ sym b.0), ((λ r s a b. a.0 ∙ sym b.0), tt)))))
