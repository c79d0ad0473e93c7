-- The order of pairs: by the package's name, then by the revision that sees it.
use Rattle.std.proofs.Common.{◌≡◌, ◌↔◌, ◌⊎◌, inl, inr, ℕ, ◌<◌, List, refl, sym, ◌∙◌, ap, subst, arith, IsTrue, nat_lt}
use Rattle.std.proofs.lemmas.Bool.{false≢true}
use Rattle.std.proofs.lemmas.Bool.Decides.{nat_tests}
use Rattle.std.proofs.lemmas.Map.Text.{is_eq-slice_cmp}
use Rattle.std.proofs.lemmas.Slice.Eq.{bytes_eq-Decides}
use Rattle.std.specs.Cmp.Lexicographic.{nat_list_cmp_total}
use Rattle.std.specs.Ordering.{is_eq, is_lt}
use Rattle.std.specs.declared.cmp.Ordering.{Ordering}
use Rattle.std.specs.declared.cmp.Ordering.TheVariants.{Less, Equal, Greater}
use Rattle.osgi_base.specs.computed.Texts.{text_cmp}
use Rattle.osgi_space_rows.specs.Names.{name_numbered}
use Rattle.osgi_space_sources.specs.declared.given.Given.{Given}
use Rattle.osgi_space.specs.Violations.{IsBelow}
use Rattle.osgi_space.specs.computed.Firsts.{IsBefore}

less : (r : Ordering) → IsTrue (is_lt r) → r ≡ Less
less Less t = refl
less Equal t = absurd (false≢true t)
less Greater t = absurd (false≢true t)

equal : (r : Ordering) → IsTrue (is_eq r) → r ≡ Equal
equal Less t = absurd (false≢true t)
equal Equal t = refl
equal Greater t = absurd (false≢true t)

same_text : (a b : List ℕ) → text_cmp a b ≡ Equal → a ≡ b
same_text a b e = (bytes_eq-Decides a b).0 (sym (is_eq-slice_cmp a b) ∙ ap is_eq e)

ties : (a b : List ℕ) → a ≡ b → IsTrue (is_eq (text_cmp a b))
ties a b e = is_eq-slice_cmp a b ∙ (bytes_eq-Decides a b).1 e

lt-true : (a b : ℕ) → IsTrue (nat_lt a b) → a < b
lt-true a b t = grind (arith, nat_tests)

true-lt : (a b : ℕ) → a < b → IsTrue (nat_lt a b)
true-lt a b h = grind (arith, nat_tests)

module _ (a b : List ℕ) (s t : ℕ) where
  pub equal-before : text_cmp a b ≡ Equal → IsTrue (nat_lt s t) ↔ (IsBelow a b ⊎ (a ≡ b) × (s < t))
  equal-before e = (
    λ yes. inr (same_text a b e, lt-true s t yes),
    λ either. elim either [ inl below ↦ absurd (false≢true (sym (ap is_lt e) ∙ below)) | inr both ↦ true-lt s t both.1 ],
  )

  pub greater-before : text_cmp a b ≡ Greater → ¬ (IsBelow a b ⊎ (a ≡ b) × (s < t))
  greater-before e either = elim either [
    | inl below ↦ false≢true (sym (ap is_lt e) ∙ below)
    | inr both ↦ false≢true (sym (ap is_eq e) ∙ ties a b both.0)
  ]

below-trans : (a b c : List ℕ) → IsBelow a b → IsBelow b c → IsBelow a c
below-trans a b c h k = ap is_lt (nat_list_cmp_total.trans a b c (less (text_cmp a b) h) (less (text_cmp b c) k))

pub before-trans : (names : List (List ℕ)) (f g h : Given) → IsBefore names f g → IsBefore names g h → IsBefore names f h
before-trans names f g h (inl below) (inl more) = inl (below-trans (name_numbered names f.package) (name_numbered names g.package) (name_numbered names h.package) below more)
before-trans names f g h (inl below) (inr same) = let P : List ℕ → Type 0 = λ t. IsBelow (name_numbered names f.package) t in inl (subst P same.0 below)
before-trans names f g h (inr same) (inl below) = let P : List ℕ → Type 0 = λ t. IsBelow t (name_numbered names h.package) in inl (subst P (sym same.0) below)
before-trans names f g h (inr same) (inr more) = inr (same.0 ∙ more.0, omega (arith, same.1, more.1))

pub not-before-itself : (names : List (List ℕ)) (g : Given) → ¬ IsBefore names g g
not-before-itself names g (inl below) =
    let name = name_numbered names g.package in
    false≢true (sym (ap is_lt (equal (text_cmp name name) (ties name name refl))) ∙ below)
not-before-itself names g (inr same) = absurd (omega (arith, same.1))
