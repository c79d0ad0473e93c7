-- The nodes once one is taken out or put back, by their fields.
use Prim.Native.Nat.{zero, suc}
use Rattle.std.proofs.Common.{◌≡◌, ℕ, ◌<◌, Bool, cond, inl, inr, List, [], ◌∷◌, length, set, refl, sym, ap, ◌∙◌, subst, arith}
use Rattle.std.proofs.lemmas.Bool.{cases_eq}
use Rattle.std.proofs.lemmas.List.{length-set, get_or-set_same, get_or-set_other}
use Rattle.osgi_links.specs.computed.Chain.{Link, no_link, link_at, next_at, prev_at, under_at, row_at, value_at, values_of, with_next, with_prev, with_linked}

-- what a write leaves as it was
kept : (f : Link → ℕ) (links : List Link) (k : ℕ) (y : Link) → f y ≡ f (link_at links k) → (j : ℕ) → f (link_at (set links k y) j) ≡ f (link_at links j)
kept f [] k y e j = refl
kept f (x ∷ links) zero y e zero = e
kept f (x ∷ links) zero y e (suc j) = refl
kept f (x ∷ links) (suc k) y e zero = refl
kept f (x ∷ links) (suc k) y e (suc j) = kept f links k y e j

kept_map : (links : List Link) (k : ℕ) (y : Link) → y.value ≡ value_at links k → values_of (set links k y) ≡ values_of links
kept_map [] k y e = refl
kept_map (x ∷ links) zero y e = ap (λ v. v ∷ values_of links) e
kept_map (x ∷ links) (suc k) y e = ap (λ vs. x.value ∷ vs) (kept_map links k y e)

module _ (links : List Link) (at : ℕ) (is_linked : Bool) (under row : ℕ) where
  abbrev a : ℕ
  a = prev_at links at

  abbrev b : ℕ
  b = next_at links at

  abbrev first : List Link
  first = with_next links a (cond is_linked at b)

  abbrev second : List Link
  second = with_prev first b (cond is_linked at a)

  abbrev all : List Link
  all = with_linked links at is_linked under row

  pub linked-length : length all ≡ length links
  linked-length = length-set second at _ ∙ length-set first b _ ∙ length-set links a _

  pub linked-values : values_of all ≡ values_of links
  linked-values = kept_map second at _ refl ∙ kept_map first b _ refl ∙ kept_map links a _ refl

  pub linked-value : (k : ℕ) → value_at all k ≡ value_at links k
  linked-value k = kept (λ x. x.value) second at _ refl k ∙ kept (λ x. x.value) first b _ refl k ∙ kept (λ x. x.value) links a _ refl k

  next_is : (k : ℕ) → next_at all k ≡ next_at first k
  next_is k = kept (λ x. x.next) second at _ refl k ∙ kept (λ x. x.next) first b _ refl k

  prev_is : (k : ℕ) → prev_at all k ≡ prev_at second k
  prev_is k = kept (λ x. x.prev) second at _ refl k

  pub linked-next : a < length links → next_at all a ≡ cond is_linked at b
  linked-next h = next_is a ∙ ap (λ (x : Link). x.next) (get_or-set_same links a _ no_link h)

  pub linked-next_other : (k : ℕ) → (k ≡ a → ⊥) → next_at all k ≡ next_at links k
  linked-next_other k n = next_is k ∙ ap (λ (x : Link). x.next) (get_or-set_other links a k _ no_link n)

  pub linked-prev : b < length links → prev_at all b ≡ cond is_linked at a
  linked-prev h = prev_is b ∙ ap (λ (x : Link). x.prev) (get_or-set_same first b _ no_link (omega (arith, h, length-set links a (record (link_at links a) { next = cond is_linked at b }))))

  pub linked-prev_other : (k : ℕ) → (k ≡ b → ⊥) → prev_at all k ≡ prev_at links k
  linked-prev_other k n = prev_is k ∙ ap (λ (x : Link). x.prev) (get_or-set_other first b k _ no_link n) ∙ kept (λ x. x.prev) links a _ refl k

  under_before : (k : ℕ) → under_at second k ≡ under_at links k
  under_before k = kept (λ x. x.under) first b _ refl k ∙ kept (λ x. x.under) links a _ refl k

  row_before : (k : ℕ) → row_at second k ≡ row_at links k
  row_before k = kept (λ x. x.row) first b _ refl k ∙ kept (λ x. x.row) links a _ refl k

  inside : at < length links → at < length second
  inside h = omega (arith, h, length-set first b (record (link_at first b) { prev = cond is_linked at a }), length-set links a (record (link_at links a) { next = cond is_linked at b }))

  pub linked-under : at < length links → under_at all at ≡ under
  linked-under h = ap (λ (x : Link). x.under) (get_or-set_same second at _ no_link (inside h))

  pub linked-row : at < length links → row_at all at ≡ row
  linked-row h = ap (λ (x : Link). x.row) (get_or-set_same second at _ no_link (inside h))

  pub linked-under_other : (k : ℕ) → (k ≡ at → ⊥) → under_at all k ≡ under_at links k
  linked-under_other k n = ap (λ (x : Link). x.under) (get_or-set_other second at k _ no_link n) ∙ under_before k

  pub linked-row_other : (k : ℕ) → (k ≡ at → ⊥) → row_at all k ≡ row_at links k
  linked-row_other k n = ap (λ (x : Link). x.row) (get_or-set_other second at k _ no_link n) ∙ row_before k

  -- where the same place is written again
  pub linked-under_same : at < length links → under ≡ under_at links at → (k : ℕ) → under_at all k ≡ under_at links k
  linked-under_same h e k = elim (cases_eq k at) [
    | inl s ↦ let P : ℕ → Type 0 = λ x. under_at all x ≡ under_at links x in subst P (sym s) (linked-under h ∙ e)
    | inr n ↦ linked-under_other k n
  ]

  pub linked-row_same : at < length links → row ≡ row_at links at → (k : ℕ) → row_at all k ≡ row_at links k
  linked-row_same h e k = elim (cases_eq k at) [
    | inl s ↦ let P : ℕ → Type 0 = λ x. row_at all x ≡ row_at links x in subst P (sym s) (linked-row h ∙ e)
    | inr n ↦ linked-row_other k n
  ]
