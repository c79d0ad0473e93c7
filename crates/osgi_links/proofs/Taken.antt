-- The rows as items are taken out, and what callers know of them.
use Rattle.std.proofs.Common.{◌≡◌, ℕ, ◌+◌, ◌<◌, Bool, true, false, not, eqb, inl, inr, List, [], ◌∷◌, length, take, Option, Some, None, refl, sym, ap, ◌∙◌, subst, arith}
use Rattle.std.specs.Prelude.{filter, IfSome}
use Rattle.std.proofs.lemmas.Bool.{cases_Bool, both_ways, eq-eqb, eqb-true, cond-true, cond-false, or_left, or_right, or_from, false_from_ne_true}
use Rattle.std.proofs.lemmas.List.{length-map, length-take-le}
use Rattle.osgi_links.specs.Held.{Held, after, first_of, has, linked, without}
use Rattle.osgi_links.specs.computed.Chain.{Link, values_of}
use Rattle.osgi_links.specs.computed.Seen.{IsSound_at, seen_of, stack}
use Rattle.osgi_links.proofs.Links.{has-more}
use Rattle.osgi_links.proofs.Sound.{one_row, stands_in}

-- with one more item out, a row is without it
pub linked_taken : (i : ℕ) (out row : List ℕ) → filter (λ x. not (has (i ∷ out) x)) row ≡ without i (filter (λ x. not (has out x)) row)
linked_taken i out [] = refl
linked_taken i out (y ∷ ys) =
    let more = filter (λ x. not (has (i ∷ out) x)) ys in let had = filter (λ x. not (has out x)) ys in let rest : more ≡ without i had = linked_taken i out ys in
    elim (cases_Bool (has out y)) [
      | inl h ↦
          cond-false _ (y ∷ more) more (ap not (or_right (eqb y i) (has out y) h)) ∙ rest ∙ ap (without i) (sym (cond-false _ (y ∷ had) had (ap not h)))
      | inr h ↦
          elim (cases_Bool (eqb y i)) [
            | inl e ↦
                cond-false _ (y ∷ more) more (ap not (or_left (eqb y i) (has out y) e)) ∙ rest
                ∙ sym (cond-false _ (y ∷ without i had) (without i had) (ap not e)) ∙ ap (without i) (sym (cond-true _ (y ∷ had) had (ap not h)))
            | inr e ↦
                cond-true _ (y ∷ more) more (ap not (or_from (eqb y i) (has out y) e h)) ∙ ap (λ t. y ∷ t) rest
                ∙ sym (cond-true _ (y ∷ without i had) (without i had) (ap not e)) ∙ ap (without i) (sym (cond-true _ (y ∷ had) had (ap not h)))
          ]
    ]

-- a list that does not have the number is the same without it
pub without_none : (i : ℕ) (xs : List ℕ) → has xs i ≡ false → without i xs ≡ xs
without_none i [] h = refl
without_none i (y ∷ ys) h =
    let no_y : eqb y i ≡ false = false_from_ne_true _ (λ t. both_ways (has (y ∷ ys) i) h (or_left _ _ (eq-eqb i y (sym (eqb-true y i t))))) in
    let no_ys : has ys i ≡ false = false_from_ne_true _ (λ t. both_ways (has (y ∷ ys) i) h (has-more y i ys t)) in
    cond-true _ (y ∷ without i ys) (without i ys) (ap not no_y) ∙ ap (λ t. y ∷ t) (without_none i ys no_ys)

module _ (links : List Link) (items depth top : ℕ) (sound : IsSound_at links items (stack links depth top)) (held : Held) (is : seen_of links items depth top ≡ held) where
  -- an item stands in no other row
  pub elsewhere : (r x s : ℕ) → has (linked held r) x ≡ true → (s ≡ r → ⊥) → has (linked held s) x ≡ false
  elsewhere r x s here other = false_from_ne_true _ (λ there.
      let a = stands_in links items depth top sound held is r x here in let b = stands_in links items depth top sound held is s x there in
      other (one_row links items sound.rising s r x b.row a.row b.low b.high a.low a.high))

abbrev is_none : Option ℕ → Bool
is_none None = true
is_none (Some x) = false

-- a list has its first, and what comes after one of its numbers
pub has-first_of : (xs : List ℕ) (i : ℕ) → first_of xs ≡ Some i → has xs i ≡ true
has-first_of [] i e = let t : true ≡ false = ap is_none e in absurd (both_ways true t refl)
has-first_of (x ∷ xs) i e =
    let same : i ≡ x = sym (ap (λ (o : Option ℕ). elim o as (λ _. ℕ) [ None ↦ 0 | Some y ↦ y ]) e) in or_left _ _ (eq-eqb i x same)

pub has-after : (x : ℕ) (xs : List ℕ) (i : ℕ) → after x xs ≡ Some i → has xs i ≡ true
has-after x [] i e = let t : true ≡ false = ap is_none e in absurd (both_ways true t refl)
has-after x (y ∷ ys) i e = elim (cases_Bool (eqb x y)) [
  | inl t ↦ has-more y i ys (has-first_of ys i (sym (cond-true _ (first_of ys) (after x ys) t) ∙ e))
  | inr f ↦ has-more y i ys (has-after x ys i (sym (cond-false _ (first_of ys) (after x ys) f) ∙ e))
]

module _ (links : List Link) (items depth top : ℕ) (sound : IsSound_at links items (stack links depth top)) (held : Held) (is : seen_of links items depth top ≡ held) where
  -- an item that is not out has a value
  pub has_value : (r x : ℕ) → has (linked held r) x ≡ true → x < length held.values
  has_value r x h =
      let s = stands_in links items depth top sound held is r x h in
      let below : x < items = omega (arith, s.high, sound.ended (r + 1) (omega (arith, s.row))) in
      let P : Held → Type 0 = λ t. x < length t.values in
      let size : length (take items (values_of links)) ≡ items = length-take-le items (values_of links) (omega (arith, sound.counted, length-map links (λ (l : Link). l.value))) in
      let low : x < length (take items (values_of links)) = omega (arith, below, size) in
      subst P is low

  pub found_first : (r : ℕ) (o : Option ℕ) → o ≡ first_of (linked held r) → IfSome o (λ x. (has (linked held r) x ≡ true) × (x < length held.values))
  found_first r None e = tt
  found_first r (Some x) e = let h = has-first_of (linked held r) x (sym e) in (h, has_value r x h)

  pub found_next : (r y : ℕ) (o : Option ℕ) → o ≡ after y (linked held r) → IfSome o (λ x. (has (linked held r) x ≡ true) × (x < length held.values))
  found_next r y None e = tt
  found_next r y (Some x) e = let h = has-after y (linked held r) x (sym e) in (h, has_value r x h)
