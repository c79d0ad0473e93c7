-- The operands of a filter: how many there are is bounded by the bytes.
use Rattle.std.proofs.Common.{◌≡◌, ℕ, zero, suc, ◌≤◌, ◌<◌, ◌==◌, List, [], ◌∷◌, ◌++◌, length, get_or, Result, Ok, refl, sym, ap, ◌∙◌, arith, inl, inr}
use Rattle.std.proofs.lemmas.Bool.{cases_Bool, cond-false, ne_eqb}
use Rattle.std.proofs.lemmas.List.{length-append}
use Rattle.osgi_model.specs.declared.filter.Filter.{Filter}
use Rattle.osgi_filter.specs.computed.Reader.{◌>>=◌, skip, operand, operands_at, listing, filter_at}
use Rattle.osgi_filter.specs.laws.Scans.{bind_same, skip_sound}
use Rattle.osgi_filter.specs.laws.Levels.{IsExact, filter_exact}
use Rattle.osgi_filter.specs.laws.Bounded.{Bare}

pub skip_length : (t : List ℕ) → length (skip t) ≤ length t
skip_length t = let s = skip_sound t in omega (arith, ap length s.parts, length-append s.spaces (skip t))

module _ (R : List ℕ → Filter → Type 0) (below : List ℕ → Result (Filter × List ℕ) ℕ) (exact : IsExact R below) where
  pub takes : (bytes : List ℕ) (x : Filter × List ℕ) → below bytes ≡ Ok x → length x.1 < length bytes
  takes bytes x e =
      let g = exact.sound bytes x.0 x.1 e in
      let s = exact.starts g.text x.0 g.reads in
      omega (arith, ap length g.parts, length-append g.text x.1, ap length s.1)

  operand_free : (n m : ℕ) → ((fs : List Filter) (bytes : List ℕ) → length bytes ≤ n → length bytes ≤ m → operands_at below n fs bytes ≡ operands_at below m fs bytes) → (fs : List Filter) (bytes : List ℕ) → length bytes ≤ suc n → length bytes ≤ suc m → operand below (operands_at below n) fs bytes ≡ operand below (operands_at below m) fs bytes
  operand_free n m next fs [] p q = refl
  operand_free n m next fs (b ∷ bs) p q =
      elim (cases_Bool (b == 41)) [
        | inl h ↦ rw h refl
        | inr h ↦ rw h (bind_same (Filter × List ℕ) (List Filter × List ℕ) (below (b ∷ bs)) (λ x. operands_at below n (fs ++ x.0 ∷ []) x.1) (λ x. operands_at below m (fs ++ x.0 ∷ []) x.1) (λ x e. let lt = takes (b ∷ bs) x e in next (fs ++ x.0 ∷ []) x.1 (omega arith) (omega arith)))
      ]

  fuel_free : (n m : ℕ) (fs : List Filter) (bytes : List ℕ) → length bytes ≤ n → length bytes ≤ m → operands_at below n fs bytes ≡ operands_at below m fs bytes
  fuel_free zero zero fs bytes p q = refl
  fuel_free zero (suc m) fs [] p q = refl
  fuel_free zero (suc m) fs (b ∷ bs) p q = absurd (omega arith)
  fuel_free (suc n) zero fs [] p q = refl
  fuel_free (suc n) zero fs (b ∷ bs) p q = absurd (omega arith)
  fuel_free (suc n) (suc m) fs bytes p q = let l = skip_length bytes in operand_free n m (fuel_free n m) fs (skip bytes) (omega arith) (omega arith)

  pub operand_next : (n : ℕ) (fs : List Filter) (bytes : List ℕ) → length bytes ≤ suc n → operand below (operands_at below n) fs bytes ≡ operand below (listing below) fs bytes
  operand_next n fs [] p = refl
  operand_next n fs (b ∷ bs) p =
      elim (cases_Bool (b == 41)) [
        | inl h ↦ rw h refl
        | inr h ↦ rw h (bind_same (Filter × List ℕ) (List Filter × List ℕ) (below (b ∷ bs)) (λ x. operands_at below n (fs ++ x.0 ∷ []) x.1) (λ x. listing below (fs ++ x.0 ∷ []) x.1) (λ x e. let lt = takes (b ∷ bs) x e in fuel_free n (length x.1) (fs ++ x.0 ∷ []) x.1 (omega arith) (omega arith)))
      ]

  pub listing_is : (fs : List Filter) (bytes : List ℕ) → listing below fs bytes ≡ operand below (listing below) fs (skip bytes)
  listing_is fs [] = refl
  listing_is fs (b ∷ bs) = let l = skip_length (b ∷ bs) in operand_next (length bs) fs (skip (b ∷ bs)) (omega arith)

-- ---- the loop of the code

module _ (levels : ℕ) where
  pub listing_starts : (bytes : List ℕ) → operand (filter_at levels) (listing (filter_at levels)) [] (skip bytes) ≡ listing (filter_at levels) [] bytes
  listing_starts bytes = sym (listing_is (Bare levels) (filter_at levels) (filter_exact levels) [] bytes)

  pub listing_goes : (fs : List Filter) (bytes : List ℕ) (f : Filter) (rest : List ℕ) → 0 < length bytes → (get_or bytes 0 0 ≡ 41 → ⊥) → filter_at levels bytes ≡ Ok (f, rest) → operand (filter_at levels) (listing (filter_at levels)) fs bytes ≡ operand (filter_at levels) (listing (filter_at levels)) (fs ++ f ∷ []) (skip rest)
  listing_goes fs [] f rest lt n e = absurd (omega arith)
  listing_goes fs (b ∷ bs) f rest lt n e =
      cond-false (b == 41) (Ok (fs, bs)) (filter_at levels (b ∷ bs) >>= λ x. listing (filter_at levels) (fs ++ x.0 ∷ []) x.1) (ne_eqb b 41 n)
      ∙ ap (λ (r : Result (Filter × List ℕ) ℕ). r >>= λ x. listing (filter_at levels) (fs ++ x.0 ∷ []) x.1) e
      ∙ listing_is (Bare levels) (filter_at levels) (filter_exact levels) (fs ++ f ∷ []) rest

  pub listing_less : (bytes : List ℕ) (f : Filter) (rest : List ℕ) → filter_at levels bytes ≡ Ok (f, rest) → length (skip rest) < length bytes
  listing_less bytes f rest e = omega (arith, takes (Bare levels) (filter_at levels) (filter_exact levels) bytes (f, rest) e, skip_length rest)
