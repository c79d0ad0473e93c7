-- Which exporters may use packages, and how this is seen in the rows.
use Rattle.std.proofs.Common.{◌≡◌, ◌==◌, ◌↔◌, Bool, not, IsTrue, ℕ, inl, inr, List, [], ◌∷◌, length, refl, subst, Any}
use Rattle.osgi_space_rows.specs.Rows.{RowLists, Attaches, OwnUse, attached_to, uses_for}
use Rattle.osgi_space_sources.specs.computed.Pairs.{IsUse, MayUse}
use Rattle.osgi_space_sources.specs.declared.given.Given.{Given}
use Rattle.osgi_space_sources.specs.laws.Adding.{any-none, any-of}
use Rattle.osgi_space_sources.specs.laws.Members.{here}
use Rattle.osgi_space_sources.proofs.Lengths.{not_empty, some_item}
use Rattle.osgi_space_sources.proofs.Rows.{some-attached, some-use}

some-there : {X : Type 0} (xs : List X) → ¬ (xs ≡ []) → Any (λ (x : X). Unit {0}) xs
some-there [] some = absurd (some refl)
some-there {X} (x ∷ xs) some = any-of (λ (y : X). Unit {0}) (x ∷ xs) x (here x xs x refl) tt

none-there : {X : Type 0} (xs : List X) → Any (λ (x : X). Unit {0}) xs → ¬ (xs ≡ [])
none-there {X} xs any none = any-none (λ (x : X). Unit {0}) (subst (λ ys. Any (λ (x : X). Unit {0}) ys) none any)

filled : {X : Type 0} (xs : List X) (b : Bool) → b ≡ (length xs == 0) → IsTrue (not b) ↔ Any (λ (x : X). Unit {0}) xs
filled xs b is = (λ t. some-there xs (not_empty xs b is t), λ any. some_item xs b is (none-there xs any))

module _ (R : RowLists) (e : ℕ) where
  pub uses-filled : (p : ℕ) (b : Bool) → b ≡ (length (uses_for R e p) == 0) → IsTrue (not b) ↔ ((u : ℕ) × OwnUse R e p u)
  uses-filled p b is =
      let some = some-use R (λ u. Unit {0}) e p in
      let rows = filled (uses_for R e p) b is in
      (λ t. let w = some.0 (rows.0 t) in (w.0, w.1), λ w. rows.1 (some.1 (w.0, w.1, tt)))

  pub attached-filled : (b : Bool) → b ≡ (length (attached_to R e) == 0) → IsTrue (not b) ↔ ((f : ℕ) × Attaches R e f)
  attached-filled b is =
      let some = some-attached R (λ f. Unit {0}) e in
      let rows = filled (attached_to R e) b is in
      (λ t. let w = some.0 (rows.0 t) in (w.0, w.1), λ w. rows.1 (some.1 (w.0, w.1, tt)))

  -- who uses a package may use one
  pub use-may : (p : ℕ) (g : Given) → IsUse R e p g → MayUse R e p
  use-may p g (same, uses) = elim uses.1 [
    | inl own ↦ inl (g.package, subst (λ o. OwnUse R o p g.package) own uses.2)
    | inr attached ↦ inr (uses.0, attached)
  ]
