-- Facts of exports and uses, when rows and names are added.
use Rattle.std.proofs.Common.{◌≡◌, ◌↔◌, ◌⊎◌, inl, inr, ℕ, zero, suc, ◌+◌, ◌<◌, ◌≤◌, List, [], ◌∷◌, ◌++◌, length, get_or, take, refl, sym, ◌∙◌, ap, subst, arith, length-append, Contains}
use Rattle.std.specs.Prelude.{slice_get}
use Rattle.std.proofs.lemmas.List.{take_more}
use Rattle.std.proofs.lemmas.List.Elements.{All-contains, All-push, All-weaker, Contains-append_left, Contains-push, Contains-push_cases}
use Rattle.osgi_world.specs.Lists.{In}
use Rattle.osgi_space_rows.specs.Names.{AreOnce, HasNumber, Interns}
use Rattle.osgi_space_rows.specs.Rows.{RowLists, with_export, with_use}
use Rattle.osgi_space_rows.specs.Worlds.{AreNumbered, AreNamed}
use Rattle.osgi_space_rows.specs.computed.Payloads.{Adds, Exported, Fact, HasFact, OneSays, Used, exporting, using}
use Rattle.osgi_space_rows.specs.declared.named.Named.{Named}
use Rattle.osgi_space_rows.specs.declared.rows.Export.{Export}
use Rattle.osgi_space_rows.specs.declared.rows.Import.{Import}
use Rattle.osgi_space_rows.specs.declared.rows.Use.{Use}
use Rattle.osgi_space_rows.proofs.Places.{get-append, get-push_cases, some-same}
use Rattle.osgi_space_rows.proofs.Stepped.{in-append, in-append_cases, in-one, in-push}

-- ---- names that were added

interned-kept : (old new : List (List ℕ)) (name : List ℕ) → Interns old new name → (text : List ℕ) (number : ℕ) → HasNumber old text number → HasNumber new text number
interned-kept old new name (inl same) text number has = subst (λ n. HasNumber n text number) (sym same.2) has
interned-kept old new name (inr more) text number has = subst (λ n. HasNumber n text number) (sym more.1) (get-append old (name ∷ []) number text has)

interned-back : (old new : List (List ℕ)) (name : List ℕ) → Interns old new name → (text : List ℕ) (number : ℕ) → number < length old → HasNumber new text number → HasNumber old text number
interned-back old new name (inl same) text number within has = subst (λ n. HasNumber n text number) same.2 has
interned-back old new name (inr more) text number within has = elim (get-push_cases old name number text (subst (λ n. HasNumber n text number) more.1 has)) [
  | inl before ↦ before
  | inr last ↦ absurd (omega (arith, last.0, within))
]

interned-le : (old new : List (List ℕ)) (name : List ℕ) → Interns old new name → length old ≤ length new
interned-le old new name (inl same) = omega (arith, ap length same.2)
interned-le old new name (inr more) = omega (arith, ap length more.1, length-append old (name ∷ []))

numbered-le : (old new : List (List ℕ)) (R : RowLists) → length old ≤ length new → AreNumbered old R → AreNumbered new R
numbered-le old new R le are = record {
  imports = All-weaker (λ (row : Import). row.imported < length old) (λ (row : Import). row.imported < length new) (λ row within. omega (arith, le, within)) R.imports are.imports;
  exports = All-weaker (λ (row : Export). row.exported < length old) (λ (row : Export). row.exported < length new) (λ row within. omega (arith, le, within)) R.exports are.exports;
  uses = All-weaker (λ (row : Use). (row.exported < length old) × (row.used < length old)) (λ (row : Use). (row.exported < length new) × (row.used < length new))
      (λ row within. (omega (arith, le, within.0), omega (arith, le, within.1))) R.uses are.uses;
}

-- what rows say stays, when names are added
module _ (R : RowLists) (old new : List (List ℕ)) (name : List ℕ) (are : AreNumbered old R) (interns : Interns old new name) where
  abbrev before : Named
  before = record { names = old; rows = R }

  abbrev after : Named
  after = record { names = new; rows = R }

  facts-kept : (y : Fact) → HasFact before y → HasFact after y
  facts-kept (exporting o p) has = (has.0, interned-kept old new name interns p has.0 has.1, has.2)
  facts-kept (using o p u) has = (has.0, has.1, interned-kept old new name interns p has.0 has.2, interned-kept old new name interns u has.1 has.3, has.4)

  facts-back : (y : Fact) → HasFact after y → HasFact before y
  facts-back (exporting o p) has =
      let within : has.0 < length old = All-contains (λ (row : Export). row.exported < length old) R.exports _ are.exports has.2 in
      (has.0, interned-back old new name interns p has.0 within has.1, has.2)
  facts-back (using o p u) has =
      let within = All-contains (λ (row : Use). (row.exported < length old) × (row.used < length old)) R.uses _ are.uses has.4 in
      (has.0, has.1, interned-back old new name interns p has.0 within.0 has.2, interned-back old new name interns u has.1 within.1 has.3, has.4)

same-text : (names : List (List ℕ)) (a b : List ℕ) (i j : ℕ) → HasNumber names a i → HasNumber names b j → i ≡ j → a ≡ b
same-text names a b i j at other same = some-same a b (sym at ∙ ap (slice_get names) same ∙ other)

-- ---- one row more

module _ (R : RowLists) (names : List (List ℕ)) (owner number : ℕ) (name : List ℕ) (has_number : HasNumber names name number) where
  abbrev export_row : Export
  export_row = record { owner = owner; exported = number }

  export-more : (y : Fact) → HasFact (record { names = names; rows = with_export R export_row }) y ↔ (HasFact (record { names = names; rows = R }) y ⊎ Exported owner name y)
  export-more (exporting o p) = (
    λ has. elim (Contains-push_cases R.exports export_row (record { owner = o; exported = has.0 }) has.2) [
      | inl old ↦ inl (has.0, has.1, old)
      | inr same ↦ inr (ap (λ (row : Export). row.owner) same, same-text names name p number has.0 has_number has.1 (ap (λ (row : Export). row.exported) same))
    ],
    λ either. elim either [
      | inl old ↦ (old.0, old.1, Contains-append_left R.exports (export_row ∷ []) _ old.2)
      | inr new ↦ (
        number,
        subst (λ t. HasNumber names t number) new.1 has_number,
        subst (Contains (R.exports ++ export_row ∷ [])) (λ i. record { owner = new.0 i; exported = number }) (Contains-push R.exports export_row),
      )
    ],
  )
  export-more (using o p u) = (λ has. inl has, λ either. elim either [ inl old ↦ old | inr none ↦ absurd none ])

module _ (R : RowLists) (names : List (List ℕ)) (owner exported used : ℕ) (name text : List ℕ) (has_name : HasNumber names name exported) (has_text : HasNumber names text used) where
  abbrev use_row : Use
  use_row = record { owner = owner; exported = exported; used = used }

  use-more : (y : Fact) → HasFact (record { names = names; rows = with_use R use_row }) y ↔ (HasFact (record { names = names; rows = R }) y ⊎ Used owner name (text ∷ []) y)
  use-more (exporting o p) = (λ has. inl has, λ either. elim either [ inl old ↦ old | inr none ↦ absurd none ])
  use-more (using o p u) = (
    λ has. elim (Contains-push_cases R.uses use_row (record { owner = o; exported = has.0; used = has.1 }) has.4) [
      | inl old ↦ inl (has.0, has.1, has.2, has.3, old)
      | inr same ↦ inr (
        ap (λ (row : Use). row.owner) same,
        same-text names name p exported has.0 has_name has.2 (ap (λ (row : Use). row.exported) same),
        inl (sym (same-text names text u used has.1 has_text has.3 (ap (λ (row : Use). row.used) same))),
      )
    ],
    λ either. elim either [
      | inl old ↦ (old.0, old.1, old.2, old.3, Contains-append_left R.uses (use_row ∷ []) _ old.4)
      | inr new ↦ (
        exported,
        used,
        subst (λ t. HasNumber names t exported) new.1 has_name,
        subst (λ t. HasNumber names t used) (sym (in-one u text new.2)) has_text,
        subst (Contains (R.uses ++ use_row ∷ [])) (λ i. record { owner = new.0 i; exported = exported; used = used }) (Contains-push R.uses use_row),
      )
    ],
  )

pub within-names : (names : List (List ℕ)) (text : List ℕ) (number : ℕ) → HasNumber names text number → number < length names
within-names [] text number has = absurd (cc has)
within-names (name ∷ names) text zero has = omega arith
within-names (name ∷ names) text (suc number) has = omega (arith, within-names names text number has)

-- an export with its name
pub export-added : (old : Named) (names : List (List ℕ)) (owner number : ℕ) (name : List ℕ) → AreNamed old → Interns old.names names name → AreOnce names → HasNumber names name number →
    Adds old (record { names = names; rows = with_export old.rows (record { owner = owner; exported = number }) }) (Exported owner name)
export-added old names owner number name named interns once has =
    let are = numbered-le old.names names old.rows (interned-le old.names names name interns) named.numbered in
    record {
      named = record {
        numbered = record {
          imports = are.imports;
          exports = All-push (λ (row : Export). row.exported < length names) old.rows.exports (record { owner = owner; exported = number }) are.exports (within-names names name number has);
          uses = are.uses;
        };
        once = once;
      };
      kept = interned-kept old.names names name interns;
      facts = λ y.
          let more = export-more old.rows names owner number name has y in (
            λ f. elim (more.0 f) [ inl before ↦ inl (facts-back old.rows old.names names name named.numbered interns y before) | inr new ↦ inr new ],
            λ either. more.1 (elim either [ inl before ↦ inl (facts-kept old.rows old.names names name named.numbered interns y before) | inr new ↦ inr new ]),
          );
      imports = refl;
      required = refl;
      attached = refl;
    }

-- a use with its name
pub use-added : (old : Named) (names : List (List ℕ)) (owner exported used : ℕ) (name text : List ℕ) → AreNamed old → HasNumber old.names name exported → Interns old.names names text → AreOnce names → HasNumber names text used →
    Adds old (record { names = names; rows = with_use old.rows (record { owner = owner; exported = exported; used = used }) }) (Used owner name (text ∷ []))
use-added old names owner exported used name text named has_name interns once has =
    let are = numbered-le old.names names old.rows (interned-le old.names names text interns) named.numbered in
    let has_new = interned-kept old.names names text interns name exported has_name in
    record {
      named = record {
        numbered = record {
          imports = are.imports;
          exports = are.exports;
          uses = All-push (λ (row : Use). (row.exported < length names) × (row.used < length names)) old.rows.uses (record { owner = owner; exported = exported; used = used }) are.uses
              (within-names names name exported has_new, within-names names text used has);
        };
        once = once;
      };
      kept = interned-kept old.names names text interns;
      facts = λ y.
          let more = use-more old.rows names owner exported used name text has_new has y in (
            λ f. elim (more.0 f) [ inl before ↦ inl (facts-back old.rows old.names names text named.numbered interns y before) | inr new ↦ inr new ],
            λ either. more.1 (elim either [ inl before ↦ inl (facts-kept old.rows old.names names text named.numbered interns y before) | inr new ↦ inr new ]),
          );
      imports = refl;
      required = refl;
      attached = refl;
    }

-- ---- additions one after another

pub adds-none : (n : Named) (P : Fact → Type 0) → AreNamed n → ((y : Fact) → ¬ P y) → Adds n n P
adds-none n P named none = record {
  named = named;
  kept = λ text number has. has;
  facts = λ y. (λ has. inl has, λ either. elim either [ inl has ↦ has | inr p ↦ absurd (none y p) ]);
  imports = refl;
  required = refl;
  attached = refl;
}

pub adds-then : (a b d : Named) (P Q S : Fact → Type 0) → Adds a b P → Adds b d Q → ((y : Fact) → S y ↔ (P y ⊎ Q y)) → Adds a d S
adds-then a b d P Q S first second both = record {
  named = second.named;
  kept = λ text number has. second.kept text number (first.kept text number has);
  facts = λ y. (
    λ has. elim ((second.facts y).0 has) [
      | inl mid ↦ elim ((first.facts y).0 mid) [ inl old ↦ inl old | inr p ↦ inr ((both y).1 (inl p)) ]
      | inr q ↦ inr ((both y).1 (inr q))
    ],
    λ either. elim either [
      | inl old ↦ (second.facts y).1 (inl ((first.facts y).1 (inl old)))
      | inr s ↦ elim ((both y).0 s) [ inl p ↦ (second.facts y).1 (inl ((first.facts y).1 (inr p))) | inr q ↦ (second.facts y).1 (inr q) ]
    ],
  );
  imports = second.imports ∙ first.imports;
  required = second.required ∙ first.required;
  attached = second.attached ∙ first.attached;
}

-- ---- loops

pub in-more : {X : Type 0} (x u : X) (xs : List X) (i : ℕ) → i < length xs → x ≡ get_or xs i x → In u (take (i + 1) xs) ↔ (In u (take i xs) ⊎ In u (x ∷ []))
in-more x u xs i within at =
    let more : take (i + 1) xs ≡ take i xs ++ x ∷ [] = take_more xs i x within ∙ ap (λ z. take i xs ++ z ∷ []) (sym at) in
    rw more (in-append_cases u (take i xs) (x ∷ []), λ either. elim either [ inl old ↦ in-append u (take i xs) (x ∷ []) old | inr new ↦ subst (λ v. In v (take i xs ++ x ∷ [])) (sym (in-one u x new)) (in-push x (take i xs)) ])

-- one use more
pub used-more : (owner : ℕ) (name x : List ℕ) (uses : List (List ℕ)) (i : ℕ) → i < length uses → x ≡ get_or uses i x → (y : Fact) → Used owner name (take (i + 1) uses) y ↔ (Used owner name (take i uses) y ⊎ Used owner name (x ∷ []) y)
used-more owner name x uses i within at (exporting o p) = (λ none. absurd none, λ either. elim either [ inl none ↦ none | inr none ↦ none ])
used-more owner name x uses i within at (using o p u) =
    let more = in-more x u uses i within at in (
      λ s. elim (more.0 s.2) [ inl old ↦ inl (s.0, s.1, old) | inr new ↦ inr (s.0, s.1, new) ],
      λ either. elim either [ inl old ↦ (old.0, old.1, more.1 (inl old.2)) | inr new ↦ (new.0, new.1, more.1 (inr new.2)) ],
    )

-- one item more
pub says-more : {X : Type 0} (P : X → Fact → Type 0) (x : X) (xs : List X) (i : ℕ) → i < length xs → x ≡ get_or xs i x → (y : Fact) → OneSays P (take (i + 1) xs) y ↔ (OneSays P (take i xs) y ⊎ P x y)
says-more P x xs i within at y = (
  λ s. elim ((in-more x s.item xs i within at).0 s.stands) [
    | inl old ↦ inl (record { item = s.item; stands = old; says = s.says })
    | inr new ↦ inr (subst (λ z. P z y) (in-one s.item x new) s.says)
  ],
  λ either. elim either [
    | inl old ↦ record { item = old.item; stands = (in-more x old.item xs i within at).1 (inl old.stands); says = old.says }
    | inr p ↦ record { item = x; stands = (in-more x x xs i within at).1 (inr (inl refl)); says = p }
  ],
)

pub unused : (owner : ℕ) (name : List ℕ) (y : Fact) → ¬ Used owner name [] y
unused owner name (exporting o p) none = none
unused owner name (using o p u) s = s.2

pub none-says : {X : Type 0} (P : X → Fact → Type 0) (y : Fact) → ¬ OneSays P [] y
none-says P y s = s.stands
