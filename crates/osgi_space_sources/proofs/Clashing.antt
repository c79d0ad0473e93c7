-- Two revisions clash where each has a source that the other lacks.
use Rattle.std.proofs.Common.{◌≡◌, ◌≢◌, ◌==◌, ◌↔◌, Bool, true, false, not, IsTrue, ℕ, inl, inr, List, [], ◌∷◌, length, get_or, refl, sym, ◌∙◌, ap, subst, arith, Any, Contains}
use Rattle.std.proofs.lemmas.Bool.{eqb-true, eq-eqb, false≢true}
use Rattle.osgi_space_rows.specs.Rows.{RowLists, Imports, imports_for}
use Rattle.osgi_space_rows.specs.declared.rows.Import.{Import}
use Rattle.osgi_space_sources.specs.computed.Clashes.{IsOnlySource, Lacks}
use Rattle.osgi_space_sources.specs.computed.Givens.{IsSourceOf}
use Rattle.osgi_space_sources.specs.computed.RowSources.{Clash}
use Rattle.osgi_space_sources.specs.declared.given.Given.{Given}
use Rattle.osgi_space_sources.specs.laws.Adding.{any-in, any-of}
use Rattle.osgi_space_sources.specs.laws.Members.{cons-cases, here}
use Rattle.osgi_space_sources.proofs.Rows.{some-import}

module _ (R : RowLists) (r e u : ℕ) (ours theirs : List Given) (mine : (g : Given) → Contains ours g ↔ IsSourceOf R r u g) (other : (g : Given) → Contains theirs g ↔ IsSourceOf R e u g) where
  pub clash-made : Lacks theirs ours → Lacks ours theirs → Clash R r e u
  clash-made a b =
      let here = (mine a.0).0 a.1 in
      let there = (other b.0).0 b.1 in
      record {
        ours = a.0.source;
        ours_in = here.1;
        ours_out = λ s. a.2 ((other a.0).1 (here.0, s));
        theirs = b.0.source;
        theirs_in = there.1;
        theirs_out = λ s. b.2 ((mine b.0).1 (there.0, s));
      }

  pub clash-ours : Clash R r e u → Lacks theirs ours
  clash-ours c = (record { «package» = u; source = c.ours }, (mine _).1 (refl, c.ours_in), λ t. c.ours_out ((other _).0 t).1)

  pub clash-theirs : Clash R r e u → Lacks ours theirs
  clash-theirs c = (record { «package» = u; source = c.theirs }, (other _).1 (refl, c.theirs_in), λ t. c.theirs_out ((mine _).0 t).1)

-- where each has one source they clash if these differ
module _ (R : RowLists) (r e u x y : ℕ) (mine : IsOnlySource R r u x) (other : IsOnlySource R e u y) where
  clash-differ : x ≢ y → Clash R r e u
  clash-differ differ = record {
    ours = x;
    ours_in = (mine x).1 refl;
    ours_out = λ s. differ ((other x).0 s);
    theirs = y;
    theirs_in = (other y).1 refl;
    theirs_out = λ s. differ (sym ((mine y).0 s));
  }

  differ-clash : Clash R r e u → x ≢ y
  differ-clash c same = c.ours_out ((other c.ours).1 ((mine c.ours).0 c.ours_in ∙ same))

-- the rows of a look-up that finds a single wire
single : (R : RowLists) (r p x : ℕ) (imports : List Import) → imports ≡ imports_for R r p → (only : Import) → imports ≡ only ∷ [] → Imports R r p x ↔ (x ≡ only.provider)
single R r p x imports is only one =
    let some = some-import R (λ y. y ≡ x) r p in
    let rows : imports_for R r p ≡ only ∷ [] = sym is ∙ one in (
      λ at.
          let any = subst (λ xs. Any (λ (row : Import). row.provider ≡ x) xs) rows (some.1 (x, at, refl)) in
          elim (cons-cases only [] any.1 (any-in (λ (row : Import). row.provider ≡ x) (only ∷ []) any)) [
            | inl e ↦ sym any.4 ∙ sym (ap (λ (row : Import). row.provider) e)
            | inr none ↦ absurd (omega (arith, none.1))
          ],
      λ e.
          let any = subst (λ xs. Any (λ (row : Import). row.provider ≡ x) xs) (sym rows) (any-of (λ (row : Import). row.provider ≡ x) (only ∷ []) only (here only [] only refl) (sym e)) in
          let w = some.0 any in subst (λ y. Imports R r p y) w.2 w.1,
    )

-- the provider of a single wire is the only source
pub only-provider : (R : RowLists) (r p : ℕ) (imports : List Import) → imports ≡ imports_for R r p → (only : Import) → imports ≡ only ∷ [] → IsOnlySource R r p only.provider
only-provider R r p imports is only one x =
    let wire = single R r p x imports is only one in
    let there = single R r p only.provider imports is only one in (
      λ s. elim s [ inl at ↦ wire.0 at | inr rest ↦ absurd (rest.0 (only.provider, there.1 refl)) ],
      λ e. inl (wire.1 e),
    )

-- a list of one item
pub one-item : {X : Type 0} (xs : List X) (x : X) → length xs ≡ 1 → xs ≡ get_or xs 0 x ∷ []
one-item [] x one = absurd (omega (arith, one))
one-item (y ∷ []) x one = refl
one-item (y ∷ z ∷ zs) x one = absurd (omega (arith, one))

differs : (m n : ℕ) (b : Bool) → (m == n) ≡ b → IsTrue (not b) ↔ (m ≢ n)
differs m n true is = (λ t. absurd (false≢true t), λ differ. absurd (differ (eqb-true m n is)))
differs m n false is = (λ t e. false≢true (sym is ∙ eq-eqb m n e), λ differ. refl)

-- the answer where each has one source
pub differ-answer : (R : RowLists) (r e u x y : ℕ) → IsOnlySource R r u x → IsOnlySource R e u y → IsTrue (not (x == y)) ↔ Clash R r e u
differ-answer R r e u x y mine other =
    let is = differs x y (x == y) refl in
    (λ t. clash-differ R r e u x y mine other (is.0 t), λ clash. is.1 (differ-clash R r e u x y mine other clash))
