-- Lists that are split at an item.
use Rattle.std.proofs.Common.{◌≡◌, ◌<◌, ℕ, ◌+◌, List, [], ◌∷◌, ◌++◌, length, take, drop, get_or, ap, sym, ◌∙◌, refl, add-one, suc, drop-cons}
use Rattle.std.proofs.lemmas.List.{take-append-drop, take_more}

-- how two splits of one list stand to each other
pub data Splits {A : Type 0} (xs : List A) (x : A) (r ys : List A) (y : A) (s : List A) : Type 0 where
  earlier : (mid : List A) → xs ≡ ys ++ y ∷ mid → Splits xs x r ys y s
  same : ys ≡ xs → y ≡ x → Splits xs x r ys y s
  later : (mid : List A) → ys ≡ xs ++ x ∷ mid → r ≡ mid ++ y ∷ s → Splits xs x r ys y s

splits_more : {A : Type 0} (z w : A) (xs : List A) (x : A) (r ys : List A) (y : A) (s : List A) → z ≡ w → Splits xs x r ys y s → Splits (z ∷ xs) x r (w ∷ ys) y s
splits_more z w xs x r ys y s e (earlier mid is) = earlier mid (λ i. e i ∷ is i)
splits_more z w xs x r ys y s e (same is at) = same (λ i. sym e i ∷ is i) at
splits_more z w xs x r ys y s e (later mid is rest) = later mid (λ i. sym e i ∷ is i) rest

heads : {A : Type 0} (a b : A) (xs ys : List A) → a ∷ xs ≡ b ∷ ys → a ≡ b
heads a b xs ys e = cc e

tails : {A : Type 0} (a b : A) (xs ys : List A) → a ∷ xs ≡ b ∷ ys → xs ≡ ys
tails a b xs ys e = cc e

pub splits : {A : Type 0} (xs : List A) (x : A) (r ys : List A) (y : A) (s : List A) → xs ++ x ∷ r ≡ ys ++ y ∷ s → Splits xs x r ys y s
splits [] x r [] y s e = same refl (sym (heads x y r s e))
splits [] x r (w ∷ ys) y s e = later ys (λ i. sym (heads x w r (ys ++ y ∷ s) e) i ∷ ys) (tails x w r (ys ++ y ∷ s) e)
splits (z ∷ xs) x r [] y s e = earlier xs (λ i. heads z y (xs ++ x ∷ r) s e i ∷ xs)
splits (z ∷ xs) x r (w ∷ ys) y s e =
    splits_more z w xs x r ys y s (heads z w (xs ++ x ∷ r) (ys ++ y ∷ s) e) (splits xs x r ys y s (tails z w (xs ++ x ∷ r) (ys ++ y ∷ s) e))

pub no_item : {A : Type 0} (xs : List A) (x : A) (ys : List A) → [] ≡ xs ++ x ∷ ys → ⊥
no_item [] x ys e = absurd (cc e)
no_item (z ∷ xs) x ys e = absurd (cc e)

pub split_at : {A : Type 0} (xs : List A) (n : ℕ) (x : A) → n < length xs → x ≡ get_or xs n x → take n xs ++ x ∷ drop (n + 1) xs ≡ xs
split_at xs n x below is =
    let rest : drop n xs ≡ x ∷ drop (n + 1) xs = rw add-one (drop-cons xs n x below ∙ ap (λ y. y ∷ drop (suc n) xs) (sym is)) in
    ap (λ l. take n xs ++ l) (sym rest) ∙ take-append-drop n xs

pub take_next : {A : Type 0} (xs : List A) (n : ℕ) (x : A) → n < length xs → x ≡ get_or xs n x → take (n + 1) xs ≡ take n xs ++ x ∷ []
take_next xs n x below is = take_more xs n x below ∙ ap (λ y. take n xs ++ y ∷ []) (sym is)
