-- Loops over a list that say something of each item, or add to a collection.
use Rattle.std.proofs.Common.{IsTrue, false, true, ◌≡◌, ◌↔◌, ◌⊎◌, inl, inr, ℕ, zero, suc, ◌+◌, ◌<◌, ◌≤◌, List, [], ◌∷◌, ◌++◌, length, get_or, take, refl, sym, ◌∙◌, ap, subst}
use Rattle.std.proofs.lemmas.Bool.{false≢true}
use Rattle.std.proofs.lemmas.List.{take_all, take_more}
use Rattle.osgi_space_rules.specs.computed.Growing.{Each, Grows}
use Rattle.osgi_world.specs.Lists.{In}

-- ---- one more item

in_before : {X : Type 0} (xs ys : List X) (x : X) → In x xs → In x (xs ++ ys)
in_before [] ys x i = elim i [ ]
in_before (z ∷ xs) ys x (inl e) = inl e
in_before (z ∷ xs) ys x (inr i) = inr (in_before xs ys x i)

in_last : {X : Type 0} (xs : List X) (x : X) → In x (xs ++ x ∷ [])
in_last [] x = inl refl
in_last (z ∷ xs) x = inr (in_last xs x)

in_cons : {X : Type 0} (z x y : X) (xs : List X) → In x xs ⊎ (x ≡ y) → In x (z ∷ xs) ⊎ (x ≡ y)
in_cons z x y xs (inl i) = inl (inr i)
in_cons z x y xs (inr e) = inr e

pub in_either : {X : Type 0} (xs : List X) (y x : X) → In x (xs ++ y ∷ []) → In x xs ⊎ (x ≡ y)
in_either [] y x (inl e) = inr e
in_either [] y x (inr i) = elim i [ ]
in_either (z ∷ xs) y x (inl e) = inl (inl e)
in_either (z ∷ xs) y x (inr i) = in_cons z x y xs (in_either xs y x i)

pub one_more : {X : Type 0} (xs : List X) (i : ℕ) (x : X) → i < length xs → x ≡ get_or xs i x → take (i + 1) xs ≡ take i xs ++ x ∷ []
one_more xs i x within at = take_more xs i x within ∙ ap (λ y. take i xs ++ y ∷ []) (sym at)

pub in_more : {X : Type 0} (xs : List X) (i : ℕ) (x : X) → i < length xs → x ≡ get_or xs i x → (y : X) → In y (take (i + 1) xs) ↔ (In y (take i xs) ⊎ (y ≡ x))
in_more xs i x within at y =
    let more = one_more xs i x within at in (
      λ here. in_either (take i xs) x y (subst (In y) more here),
      λ either. subst (In y) (sym more) (elim either [ inl old ↦ in_before (take i xs) (x ∷ []) y old | inr e ↦ subst (λ z. In z (take i xs ++ x ∷ [])) (sym e) (in_last (take i xs) x) ]),
    )

pub take_in : {X : Type 0} (xs : List X) (i : ℕ) (y : X) → In y (take i xs) → In y xs
take_in [] zero y here = elim here [ ]
take_in [] (suc i) y here = elim here [ ]
take_in (z ∷ xs) zero y here = elim here [ ]
take_in (z ∷ xs) (suc i) y (inl e) = inl e
take_in (z ∷ xs) (suc i) y (inr here) = inr (take_in xs i y here)

pub at_in : {X : Type 0} (xs : List X) (i : ℕ) (x : X) → i < length xs → x ≡ get_or xs i x → In x xs
at_in xs i x within at = take_in xs (i + 1) x ((in_more xs i x within at x).1 (inr refl))

-- an item that is put at the end
pub pushed : {X : Type 0} (old new : List X) (x : X) → new ≡ old ++ x ∷ [] → (y : X) → In y new ↔ (In y old ⊎ (y ≡ x))
pushed old new x is y = (
  λ here. in_either old x y (subst (In y) is here),
  λ either. subst (In y) (sym is) (elim either [ inl before ↦ in_before old (x ∷ []) y before | inr e ↦ subst (λ z. In z (old ++ x ∷ [])) (sym e) (in_last old x) ]),
)

-- ---- each item

pub each_none : {X : Type 0} (P : X → Type 0) → Each P []
each_none P x here = elim here [ ]

pub each_step : {X : Type 0} (P : X → Type 0) (xs : List X) (i : ℕ) (x : X) → i < length xs → x ≡ get_or xs i x → Each P (take i xs) → P x → Each P (take (i + 1) xs)
each_step P xs i x within at before here y there = elim ((in_more xs i x within at y).0 there) [ inl old ↦ before y old | inr e ↦ subst P (sym e) here ]

pub each_done : {X : Type 0} (P : X → Type 0) (xs : List X) (i : ℕ) → length xs ≤ i → Each P (take i xs) → Each P xs
each_done P xs i past before = subst (Each P) (take_all i xs past) before

-- ---- what some item adds

pub grow_start : {X Y : Type 0} (P : X → Y → Type 0) (old : Y → Type 0) → Grows old old P []
grow_start P old y = (λ o. inl o, λ either. elim either [ inl o ↦ o | inr some ↦ elim some.1 [ ] ])

pub grow_step : {X Y : Type 0} (P : X → Y → Type 0) (old before after : Y → Type 0) (xs : List X) (i : ℕ) (x : X) → i < length xs → x ≡ get_or xs i x → Grows old before P (take i xs) → ((y : Y) → after y ↔ (before y ⊎ P x y)) → Grows old after P (take (i + 1) xs)
grow_step P old before after xs i x within at grown added y = (
  λ a. elim ((added y).0 a) [
    | inl b ↦ elim ((grown y).0 b) [ inl o ↦ inl o | inr some ↦ inr (some.0, (in_more xs i x within at some.0).1 (inl some.1), some.2) ]
    | inr p ↦ inr (x, (in_more xs i x within at x).1 (inr refl), p)
  ],
  λ either. elim either [
    | inl o ↦ (added y).1 (inl ((grown y).1 (inl o)))
    | inr some ↦ elim ((in_more xs i x within at some.0).0 some.1) [
      | inl old_one ↦ (added y).1 (inl ((grown y).1 (inr (some.0, old_one, some.2))))
      | inr e ↦ (added y).1 (inr (subst (λ z. P z y) e some.2))
    ]
  ],
)

pub grow_done : {X Y : Type 0} (P : X → Y → Type 0) (old now : Y → Type 0) (xs : List X) (i : ℕ) → length xs ≤ i → Grows old now P (take i xs) → Grows old now P xs
grow_done P old now xs i past grown = subst (Grows old now P) (take_all i xs past) grown

pub each_fails : {X : Type 0} (P : X → Type 0) (xs : List X) (i : ℕ) (x : X) → i < length xs → x ≡ get_or xs i x → ¬ P x → IsTrue false ↔ Each P xs
each_fails P xs i x within at fails = (λ t. absurd (false≢true t), λ all. absurd (fails (all x (at_in xs i x within at))))

pub each_all : {X : Type 0} (P : X → Type 0) (xs : List X) → Each P xs → IsTrue true ↔ Each P xs
each_all P xs all = (λ t. all, λ a. refl)
