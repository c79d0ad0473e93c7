-- A set beside a list of the same values, when a value is added to both.
use Rattle.std.proofs.lemmas.Bool.{false≢true}
use Rattle.std.proofs.Common.{◌≡◌, ◌↔◌, ◌⊎◌, inl, inr, List, [], ◌∷◌, ◌++◌, Bool, true, false, cond, refl, sym, ◌∙◌, subst, Contains, IsTrue}
use Rattle.std.proofs.lemmas.List.Elements.{Contains-append_left, Contains-push, Contains-push_cases}
use Rattle.std.specs.BTreeSet.{BTreeSet, IsEmpty, contains, Updates}
use Rattle.std.specs.Bool.{Decides}
use Rattle.std.specs.Ordering.{eq_by_cmp}
use Rattle.std.specs.declared.cmp.Ordering.{Ordering}

abbrev with_keys : {T : Type 0} → List T → BTreeSet T
with_keys ks = record { keys = ks }

pub none_in : {T : Type 0} (cmp : T → T → Ordering) (set : BTreeSet T) → IsEmpty set → (x : T) → ¬ IsTrue (contains cmp set x)
none_in {T} cmp set empty x t = false≢true (subst (λ (ks : List T). IsTrue (contains cmp (with_keys ks) x)) empty t)

module _ {T : Type 0} (cmp : T → T → Ordering) (exact : (a b : T) → Decides (eq_by_cmp cmp a b) (a ≡ b)) (old new : BTreeSet T) (items : List T) (node : T) where
  set_push_by : (x : T) (here : Bool) → eq_by_cmp cmp node x ≡ here → contains cmp new x ≡ cond here true (contains cmp old x)
      → IsTrue (contains cmp old x) ↔ Contains items x → IsTrue (contains cmp new x) ↔ Contains (items ++ node ∷ []) x
  set_push_by x true same is before =
      let e : node ≡ x = (exact node x).0 same in
      (λ t. subst (Contains (items ++ node ∷ [])) e (Contains-push items node), λ at. is)
  set_push_by x false differs is before = (
    λ t. Contains-append_left items (node ∷ []) x (before.0 (sym is ∙ t)),
    λ at. is ∙ before.1 (elim (Contains-push_cases items node x at) [
      | inl old_one ↦ old_one
      | inr e ↦ let same = (exact node x).1 e in let clash : true ≡ false = sym same ∙ differs in cc
    ]),
  )

  pub set_push : Updates cmp old new node true → ((x : T) → IsTrue (contains cmp old x) ↔ Contains items x) → (x : T) → IsTrue (contains cmp new x) ↔ Contains (items ++ node ∷ []) x
  set_push updates before x = set_push_by x (eq_by_cmp cmp node x) refl (updates.0 x) (before x)

-- the set has what it had, and the value
module _ {T : Type 0} (cmp : T → T → Ordering) (exact : (a b : T) → Decides (eq_by_cmp cmp a b) (a ≡ b)) (old new : BTreeSet T) (node : T) where
  set_put_by : (x : T) (here : Bool) → eq_by_cmp cmp node x ≡ here → contains cmp new x ≡ cond here true (contains cmp old x) → IsTrue (contains cmp new x) ↔ (IsTrue (contains cmp old x) ⊎ (node ≡ x))
  set_put_by x true same is = (λ t. inr ((exact node x).0 same), λ either. is)
  set_put_by x false differs is = (
    λ t. inl (sym is ∙ t),
    λ either. elim either [
      | inl before ↦ is ∙ before
      | inr e ↦ let same = (exact node x).1 e in let clash : true ≡ false = sym same ∙ differs in cc
    ],
  )

  pub set_put : Updates cmp old new node true → (x : T) → IsTrue (contains cmp new x) ↔ (IsTrue (contains cmp old x) ⊎ (node ≡ x))
  set_put updates x = set_put_by x (eq_by_cmp cmp node x) refl (updates.0 x)
