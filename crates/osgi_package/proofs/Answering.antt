-- Clauses give one answer, which the answer of each clause in order makes.
use Rattle.std.proofs.Common.{◌≡◌, ◌<◌, ℕ, ◌+◌, List, [], ◌∷◌, ◌++◌, length, take, drop, get_or, ap, sym, ◌∙◌, refl, subst, arith, append_assoc}
use Rattle.std.specs.Prelude.{Result, Ok, Err, IfOk}
use Rattle.std.proofs.lemmas.List.{length-take-le, same_from_push}
use Rattle.osgi_base.specs.Verdict.{Verdict, answers, refuses}
use Rattle.osgi_header.specs.declared.clause.Clause.{Clause}
use Rattle.osgi_package.specs.computed.Answers.{IsAnswer, IsTheAnswer}
use Rattle.osgi_package.specs.Only.{IsOnly}
use Rattle.osgi_package.specs.declared.fault.PackageFault.{PackageFault}
use Rattle.osgi_package.specs.declared.fault.PackageKind.{PackageKind}
use Rattle.osgi_package.specs.Faults.{AreGiven, IsFirstFault, more, none}
use Rattle.osgi_package.specs.laws.Splits.{earlier, later, no_item, same, split_at, splits, take_next}

module _ {X : Type 0} (Says : List Clause → Clause → Verdict PackageKind (List X) → Type 0) where
  -- ---- what clauses give, taken apart

  given_nil : {xs : List Clause} {items : List X} → AreGiven Says xs items → xs ≡ [] → items ≡ []
  given_nil none e = refl
  given_nil (more {before} {clause} g s) e = absurd (no_item before clause [] (sym e))

  record Last (before : List Clause) (clause : Clause) (items : List X) : Type 0 where
    earlier_items : List X
    others : List X
    given : AreGiven Says before earlier_items
    said : Says before clause (answers others)
    is : items ≡ earlier_items ++ others

  given_last : {xs : List Clause} {items : List X} → AreGiven Says xs items → (before : List Clause) (clause : Clause) → xs ≡ before ++ clause ∷ [] → Last before clause items
  given_last none before clause e = absurd (no_item before clause [] e)
  given_last (more {before = b} {clause = c} {items = items} {others = others} g s) before clause e =
      let parts = same_from_push b before c clause e in
      record {
        earlier_items = items;
        others = others;
        given = subst (λ l. AreGiven Says l items) parts.0 g;
        said = subst (λ l. Says l clause (answers others)) parts.0 (subst (λ d. Says b d (answers others)) parts.1 s);
        is = refl;
      }

  Some_given : List Clause → Type 0
  Some_given xs = (items : List X) × AreGiven Says xs items

  given_front : {zs : List Clause} {items : List X} → AreGiven Says zs items → (xs : List Clause) (y : Clause) (ys : List Clause) → zs ≡ xs ++ y ∷ ys → Some_given xs
  unfolding Some_given
  given_front none xs y ys e = absurd (no_item xs y ys e)
  given_front (more {before = b} {clause = c} {items = items} g s) xs y ys e =
      elim (splits b c [] xs y ys e) [
        | earlier mid is ↦ given_front g xs y mid is
        | same is at ↦ (items, subst (λ l. AreGiven Says l items) (sym is) g)
        | later mid is rest ↦ absurd (no_item mid y ys rest)
      ]

  -- clauses of which one is at fault give nothing
  given_none : {zs : List Clause} {items : List X} → AreGiven Says zs items → (before : List Clause) (clause : Clause) (rest : List Clause) (kind : PackageKind) →
      zs ≡ before ++ clause ∷ rest → IsOnly (Says before clause) (refuses kind) → ⊥
  unfolding Some_given
  given_none {zs} {items} g before clause [] kind e is =
      let last = given_last g before clause e in
      cc (is.only (answers last.others) last.said)
  given_none {zs} {items} g before clause (next ∷ rest) kind e is =
      let front = given_front g (before ++ clause ∷ []) next rest (e ∙ sym (append_assoc before (clause ∷ []) (next ∷ rest))) in
      let last = given_last front.1 before clause refl in
      cc (is.only (answers last.others) last.said)

  -- ---- the answer, from the first clause on

  pub starts : IsTheAnswer Says [] (Ok [])
  starts = record { holds = none; only = only }
    where
      only : (other : Result (List X) PackageFault) → IsAnswer Says [] other → other ≡ Ok []
      only (Ok items) g = ap Ok (given_nil g refl)
      only (Err fault) f = absurd (no_item f.before f.clause f.rest f.is)

  -- no clause of those that gave items is at fault
  no_fault : (before : List Clause) (items : List X) (fault : PackageFault) (mid : List Clause) → IsTheAnswer Says before (Ok items) →
      {clauses : List Clause} (f : IsFirstFault Says clauses fault) → before ≡ f.before ++ f.clause ∷ mid → ⊥
  no_fault before items fault mid is f e =
      let found : IsFirstFault Says before fault = record { before = f.before; clause = f.clause; rest = mid; is = e; items = f.items; given = f.given; faulty = f.faulty; at = f.at } in
      cc (is.only (Err fault) found)

  pub goes_on : (before : List Clause) (items : List X) (clause : Clause) (others : List X) → IsTheAnswer Says before (Ok items) → IsOnly (Says before clause) (answers others) →
      IsTheAnswer Says (before ++ clause ∷ []) (Ok (items ++ others))
  goes_on before items clause others is said = record { holds = more is.holds said.holds; only = only }
    where
      only : (other : Result (List X) PackageFault) → IsAnswer Says (before ++ clause ∷ []) other → other ≡ Ok (items ++ others)
      only (Ok all) g =
          let last = given_last g before clause refl in
          let first : last.earlier_items ≡ items = cc (is.only (Ok last.earlier_items) last.given) in
          let second : last.others ≡ others = cc (said.only (answers last.others) last.said) in
          ap Ok (last.is ∙ (λ i. first i ++ second i))
      only (Err fault) f =
          elim (splits before clause [] f.before f.clause f.rest f.is) [
            | earlier mid e ↦ absurd (no_fault before items fault mid is f e)
            | same e at ↦ absurd (cc (said.only (refuses fault.kind) (subst (λ l. Says l clause (refuses fault.kind)) e (subst (λ d. Says f.before d (refuses fault.kind)) at f.faulty))))
            | later mid e rest ↦ absurd (no_item mid f.clause f.rest rest)
          ]

  pub stops : (before : List Clause) (items : List X) (clause : Clause) (rest : List Clause) (kind : PackageKind) → IsTheAnswer Says before (Ok items) →
      IsOnly (Says before clause) (refuses kind) → IsTheAnswer Says (before ++ clause ∷ rest) (Err (record { kind = kind; clause = length before }))
  stops before items clause rest kind is said = record {
    holds = record { before = before; clause = clause; rest = rest; is = refl; items = items; given = is.holds; faulty = said.holds; at = refl };
    only = only;
  }
    where
      only : (other : Result (List X) PackageFault) → IsAnswer Says (before ++ clause ∷ rest) other → other ≡ Err (record { kind = kind; clause = length before })
      only (Ok all) g = absurd (given_none g before clause rest kind refl said)
      only (Err fault) f =
          elim (splits before clause rest f.before f.clause f.rest f.is) [
            | earlier mid e ↦ absurd (no_fault before items fault mid is f e)
            | same e at ↦
                let kinds : fault.kind ≡ kind
                = cc (said.only (refuses fault.kind) (subst (λ l. Says l clause (refuses fault.kind)) e (subst (λ d. Says f.before d (refuses fault.kind)) at f.faulty))) in
                let places : fault.clause ≡ length before = f.at ∙ ap length e in
                λ i. Err (record { kind = kinds i; clause = places i })
            | later mid e more_rest ↦ absurd (given_none f.given before clause mid kind e said)
          ]

  -- ---- a clause more

  pub answer_more : (clauses : List Clause) (n : ℕ) (clause : Clause) (old new others : List X) → n < length clauses → clause ≡ get_or clauses n clause → new ≡ old ++ others →
      IsTheAnswer Says (take n clauses) (Ok old) → IsOnly (Says (take n clauses) clause) (answers others) → IsTheAnswer Says (take (n + 1) clauses) (Ok new)
  answer_more clauses n clause old new others below is made answer said =
      subst (λ l. IsTheAnswer Says l (Ok new)) (sym (take_next clauses n clause below is))
      (subst (λ r. IsTheAnswer Says (take n clauses ++ clause ∷ []) (Ok r)) (sym made) (goes_on (take n clauses) old clause others answer said))

  pub answer_stops : (clauses : List Clause) (n : ℕ) (clause : Clause) (items : List X) (kind : PackageKind) → n < length clauses → clause ≡ get_or clauses n clause →
      IsTheAnswer Says (take n clauses) (Ok items) → IsOnly (Says (take n clauses) clause) (refuses kind) → IsTheAnswer Says clauses (Err (record { kind = kind; clause = n }))
  answer_stops clauses n clause items kind below is answer faulty =
      subst (λ m. IsTheAnswer Says clauses (Err (record { kind = kind; clause = m }))) (length-take-le n clauses (omega arith))
      (subst (λ l. IsTheAnswer Says l (Err (record { kind = kind; clause = length (take n clauses) }))) (split_at clauses n clause below is)
      (stops (take n clauses) items clause (drop (n + 1) clauses) kind answer faulty))

  -- ---- an answer that may run out of memory

  pub answer_reads : {E : Type 0} (items clauses : List Clause) → items ≡ clauses → (r : Result (Result (List X) PackageFault) E) → IfOk r (IsTheAnswer Says items) → IfOk r (IsAnswer Says clauses)
  answer_reads items clauses same_items (Ok answer) is = subst (λ l. IsAnswer Says l answer) same_items is.holds
  answer_reads items clauses same_items (Err e) is = tt

  pub answer_only : {E : Type 0} (items clauses : List Clause) → items ≡ clauses → (r : Result (Result (List X) PackageFault) E) (other : Result (List X) PackageFault) →
      IfOk r (IsTheAnswer Says items) → IsAnswer Says clauses other → IfOk r (λ answer. answer ≡ other)
  answer_only items clauses same_items (Ok answer) other is are = sym (is.only other (subst (λ l. IsAnswer Says l other) (sym same_items) are))
  answer_only items clauses same_items (Err e) other is are = tt
