-- Texts cut in two.
use Rattle.std.proofs.Common.{◌≡◌, ◌+◌, ◌-◌, ℕ, List, [], ◌∷◌, ◌++◌, length, take, drop, refl, ap, ◌∙◌, sym, append_assoc, arith, length-append}
use Rattle.std.proofs.lemmas.List.Prefix.{end_rest, front_rest}

front_of : (xs ys : List ℕ) → take (length xs) (xs ++ ys) ≡ xs
front_of [] ys = refl
front_of (x ∷ xs) ys = ap (λ zs. x ∷ zs) (front_of xs ys)

pub fronts : (xs ys zs : List ℕ) (n : ℕ) → zs ≡ xs ++ ys → length xs ≡ n → (take n zs ≡ xs) × (drop n zs ≡ ys)
fronts xs ys zs n e l = (ap (λ z. take n z) e ∙ (ap (λ k. take k (xs ++ ys)) (sym l) ∙ front_of xs ys), ap (λ k. drop k zs) (sym l) ∙ front_rest zs xs ys e)

-- two cuts of one text at one length
pub same_cut : (xs ys us vs : List ℕ) → xs ++ ys ≡ us ++ vs → length xs ≡ length us → (xs ≡ us) × (ys ≡ vs)
same_cut xs ys us vs e l =
    let p = fronts xs ys (xs ++ ys) (length us) refl l in
    let q = fronts us vs (xs ++ ys) (length us) e refl in
    (sym p.0 ∙ q.0, sym p.1 ∙ q.1)

pub heads : (a b : ℕ) (xs ys : List ℕ) → a ∷ xs ≡ b ∷ ys → (a ≡ b) × (xs ≡ ys)
heads a b xs ys e = (cc, cc)

-- one byte more after the second part
pub push_parts : (text a d : List ℕ) (b : ℕ) → text ≡ a ++ d → text ++ b ∷ [] ≡ a ++ (d ++ b ∷ [])
push_parts text a d b e = rw e (append_assoc a d (b ∷ []))

-- the last so many bytes
pub end_part : (p f q : List ℕ) (k : ℕ) → p ≡ f ++ q → length q ≡ k → drop (length p - k) p ≡ q
end_part p f q k e l = rw (← l) (end_rest p q f e)

-- so many bytes before the last so many
pub middle_part : (p f q e : List ℕ) (k w : ℕ) → p ≡ (f ++ q) ++ e → length q ≡ k → length e ≡ w → take k (drop (length p - (k + w)) p) ≡ q
middle_part p f q e k w is l m = rw (end_part p f (q ++ e) (k + w) (is ∙ append_assoc f q e) (omega (arith, length-append q e, l, m))) (rw (← l) (front_of q e))
