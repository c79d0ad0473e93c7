-- What clauses make is determined, where what each makes of a path is.
use Rattle.std.proofs.Common.{◌≡◌, ℕ, List, [], ◌∷◌, ◌++◌, ap, sym, ◌∙◌, refl, subst, append_assoc, append-nil}
use Rattle.std.specs.Prelude.{IfOk, Bool, true, false, cond, filter, map, Result, Ok, Err}
use Rattle.std.specs.List.{AllZip}
use Rattle.std.proofs.lemmas.Bool.{cond-false, cond-true}
use Rattle.std.proofs.lemmas.List.Elements.{filter-append}
use Rattle.osgi_header.specs.declared.clause.Clause.{Clause}
use Rattle.osgi_header.specs.declared.clause.ClauseAt.{ClauseAt}
use Rattle.osgi_world.specs.declared.manifest_fault.ManifestKind.{ManifestKind}
use Rattle.osgi_package.specs.Only.{IsOnly}
use Rattle.osgi_clause.specs.ClauseFaults.{clauses_of}
use Rattle.osgi_clause.specs.Walks.{Walked}
use Rattle.osgi_clause.specs.declared.fault.ClauseFault.{ClauseFault}
use Rattle.osgi_clause.specs.Members.{AreMade, more, none}

-- an answer is the only one along an equation
pub along : {A B : Type 0} (P : A → B → Type 0) (a b : A) (x : B) → a ≡ b → IsOnly (P a) x → IsOnly (P b) x
along P a b x e is = subst (λ c. IsOnly (P c) x) e is

pub heads : {A : Type 0} (a b : A) (xs ys : List A) → a ∷ xs ≡ b ∷ ys → a ≡ b
heads a b xs ys e = cc e

pub tails : {A : Type 0} (a b : A) (xs ys : List A) → a ∷ xs ≡ b ∷ ys → xs ≡ ys
tails a b xs ys e = cc e

-- each path makes one item
module _ {X : Type 0} (Makes : List ℕ → X → Type 0) (named : List ℕ → X) (each : (path : List ℕ) → IsOnly (Makes path) (named path)) where
  zip_holds : (paths : List (List ℕ)) → AllZip Makes paths (map named paths)
  zip_holds [] = tt
  zip_holds (path ∷ paths) = ((each path).holds, zip_holds paths)

  zip_one : (paths : List (List ℕ)) (others : List X) → AllZip Makes paths others → others ≡ map named paths
  zip_one [] [] are = refl
  zip_one [] (x ∷ others) are = absurd are
  zip_one (path ∷ paths) [] are = absurd are
  zip_one (path ∷ paths) (x ∷ others) are =
      let first : x ≡ named path = (each path).only x are.0 in
      let rest : others ≡ map named paths = zip_one paths others are.1 in
      λ i. first i ∷ rest i

  pub zip_only : (paths : List (List ℕ)) → IsOnly (AllZip Makes paths) (map named paths)
  zip_only paths = record { holds = zip_holds paths; only = zip_one paths }

module _ {X : Type 0} (Makes : Clause → List ℕ → X → Type 0) where
  made_none : {clauses : List Clause} {items : List X} → AreMade Makes clauses items → clauses ≡ [] → items ≡ []
  made_none none e = refl
  made_none (more items zip rest) e = absurd (cc e)

  pub none_only : IsOnly (AreMade Makes []) []
  none_only = record { holds = none; only = λ other made. made_none made refl }

  -- one clause
  one_made : {clauses : List Clause} {all : List X} (clause : Clause) (items : List X) → IsOnly (AllZip (Makes clause) clause.paths) items → AreMade Makes clauses all →
      clauses ≡ clause ∷ [] → all ≡ items
  one_made clause items is none e = absurd (cc e)
  one_made clause items is (more {clause = first} {clauses = rest} {others = others} made zip made_rest) e =
      let here : made ≡ items = is.only made (subst (λ c. AllZip (Makes c) c.paths made) (heads first clause rest [] e) zip) in
      ap (λ l. made ++ l) (made_none made_rest (tails first clause rest [] e)) ∙ append-nil made ∙ here

  pub one_only : (clause : Clause) (items : List X) → IsOnly (AllZip (Makes clause) clause.paths) items → IsOnly (AreMade Makes (clause ∷ [])) items
  one_only clause items is = record {
    holds = subst (AreMade Makes (clause ∷ [])) (append-nil items) (more items is.holds none);
    only = λ other made. one_made clause items is made refl;
  }

  -- clauses and others after them
  made_append : {xs ys : List Clause} {some others : List X} → AreMade Makes xs some → AreMade Makes ys others → AreMade Makes (xs ++ ys) (some ++ others)
  made_append none made = made
  made_append {ys = ys} {others = others} (more {clause = clause} {clauses = clauses} {others = rest} items zip made_rest) made =
      subst (AreMade Makes (clause ∷ (clauses ++ ys))) (sym (append_assoc items rest others)) (more items zip (made_append made_rest made))

  record Parts (xs ys : List Clause) (all : List X) : Type 0 where
    some : List X
    others : List X
    made : AreMade Makes xs some
    made_others : AreMade Makes ys others
    is : all ≡ some ++ others

  made_parts : (xs ys : List Clause) {clauses : List Clause} {all : List X} → AreMade Makes clauses all → clauses ≡ xs ++ ys → Parts xs ys all
  made_parts [] ys {all = all} made e = record { some = []; others = all; made = none; made_others = subst (λ l. AreMade Makes l all) e made; is = refl }
  made_parts (x ∷ xs) ys none e = absurd (cc e)
  made_parts (x ∷ xs) ys (more {clause = clause} {clauses = clauses} items zip made) e =
      let rest = made_parts xs ys made (tails clause x clauses (xs ++ ys) e) in
      record {
        some = items ++ rest.some;
        others = rest.others;
        made = more items (subst (λ c. AllZip (Makes c) c.paths items) (heads clause x clauses (xs ++ ys) e) zip) rest.made;
        made_others = rest.made_others;
        is = ap (λ l. items ++ l) rest.is ∙ sym (append_assoc items rest.some rest.others);
      }

  pub append_only : (xs ys : List Clause) (some others : List X) → IsOnly (AreMade Makes xs) some → IsOnly (AreMade Makes ys) others → IsOnly (AreMade Makes (xs ++ ys)) (some ++ others)
  append_only xs ys some others first second = record { holds = made_append first.holds second.holds; only = only }
    where
      only : (all : List X) → AreMade Makes (xs ++ ys) all → all ≡ some ++ others
      only all made =
          let parts = made_parts xs ys made refl in
          let before : parts.some ≡ some = first.only parts.some parts.made in
          let after : parts.others ≡ others = second.only parts.others parts.made_others in
          parts.is ∙ (λ i. before i ++ after i)

  -- a clause that makes nothing, and one that does
  pub left_out : (takes : Clause → Bool) (clause : Clause) → takes clause ≡ false → IsOnly (AreMade Makes (filter takes (clause ∷ []))) []
  left_out takes clause e = along (AreMade Makes) [] (filter takes (clause ∷ [])) [] (sym (cond-false (takes clause) (clause ∷ []) [] e)) none_only

  pub taken_in : (takes : Clause → Bool) (clause : Clause) (items : List X) → takes clause ≡ true → IsOnly (AllZip (Makes clause) clause.paths) items →
      IsOnly (AreMade Makes (filter takes (clause ∷ []))) items
  taken_in takes clause items e is =
      along (AreMade Makes) (clause ∷ []) (filter takes (clause ∷ [])) items (sym (cond-true (takes clause) (clause ∷ []) [] e)) (one_only clause items is)

  pub filter_only : (takes : Clause → Bool) (xs ys : List Clause) (some others : List X) → IsOnly (AreMade Makes (filter takes xs)) some → IsOnly (AreMade Makes (filter takes ys)) others →
      IsOnly (AreMade Makes (filter takes (xs ++ ys))) (some ++ others)
  filter_only takes xs ys some others first second =
      along (AreMade Makes) (filter takes xs ++ filter takes ys) (filter takes (xs ++ ys)) (some ++ others) (sym (filter-append takes xs ys))
      (append_only (filter takes xs) (filter takes ys) some others first second)

  made_by : (takes : Clause → Bool) (clause : Clause) (items : List X) (test : Bool) → takes clause ≡ test → IsOnly (AllZip (Makes clause) clause.paths) items →
      IsOnly (AreMade Makes (filter takes (clause ∷ []))) (cond test items [])
  made_by takes clause items true e is = taken_in takes clause items e is
  made_by takes clause items false e is = left_out takes clause e

  pub template_only : (takes : Clause → Bool) (clause : Clause) (named : List ℕ → X) → ((path : List ℕ) → IsOnly (Makes clause path) (named path)) →
      IsOnly (AreMade Makes (filter takes (clause ∷ []))) (cond (takes clause) (map named clause.paths) [])
  template_only takes clause named each = made_by takes clause (map named clause.paths) (takes clause) refl (zip_only (Makes clause) named each clause.paths)

-- ---- where each clause makes something

filter_all : (clauses : List Clause) → filter (λ (c : Clause). true) clauses ≡ clauses
filter_all [] = refl
filter_all (clause ∷ clauses) = ap (λ l. clause ∷ l) (filter_all clauses)

all_taken : {X : Type 0} (faults : List Clause → Clause → List (ManifestKind → Type 0)) (Makes : Clause → List ℕ → X → Type 0) (clauses : List ClauseAt)
    (r : Result (List X) ClauseFault) → Walked faults (λ all. AreMade Makes (filter (λ (c : Clause). true) all)) clauses r → Walked faults (AreMade Makes) clauses r
all_taken faults Makes clauses (Ok made) walked =
    (walked.0, along (AreMade Makes) (filter (λ (c : Clause). true) (clauses_of clauses)) (clauses_of clauses) made (filter_all (clauses_of clauses)) walked.1)
all_taken faults Makes clauses (Err fault) walked = walked

pub all_taken_if : {X E : Type 0} (faults : List Clause → Clause → List (ManifestKind → Type 0)) (Makes : Clause → List ℕ → X → Type 0) (clauses : List ClauseAt)
    (r : Result (Result (List X) ClauseFault) E) → IfOk r (Walked faults (λ all. AreMade Makes (filter (λ (c : Clause). true) all)) clauses) → IfOk r (Walked faults (AreMade Makes) clauses)
all_taken_if faults Makes clauses (Ok walked) is = all_taken faults Makes clauses walked is
all_taken_if faults Makes clauses (Err e) is = tt
