-- In a rising list what is smaller than an item stands before it.
use Rattle.std.proofs.Common.{◌≡◌, ℕ, zero, suc, ◌+◌, ◌-◌, ◌<◌, ◌≤◌, Bool, true, false, List, length, get_or, take, nat_lt, refl, sym, ◌∙◌, ap, subst, arith, Contains}
use Rattle.std.proofs.lemmas.Bool.Decides.{nat_tests}
use Rattle.std.proofs.lemmas.List.{get_or-take, get_or_default, length-take-le}
use Rattle.std.specs.List.Sorted.{IsStrictlyIncreasing}

rises : (xs : List ℕ) → IsStrictlyIncreasing xs → (i d : ℕ) → i + d < length xs → get_or xs i 0 ≤ get_or xs (i + d) 0
rises xs rising i zero h =
    let e : i + 0 ≡ i = omega arith in
    let P : ℕ → Type 0 = λ k. get_or xs i 0 ≤ get_or xs k 0 in subst P (sym e) (omega arith)
rises xs rising i (suc d) h =
    let e : i + suc d ≡ (i + d) + 1 = omega arith in
    let before = rises xs rising i d (omega arith) in
    let step = rising (i + d) (omega arith) in
    let P : ℕ → Type 0 = λ k. get_or xs i 0 ≤ get_or xs k 0 in subst P (sym e) (omega (arith, before, step))

module _ (xs : List ℕ) (rising : IsStrictlyIncreasing xs) (i m : ℕ) (h : i < length xs) (below : m < get_or xs i 0) where
  stands-by : (k : ℕ) (early : Bool) → nat_lt k i ≡ early → k < length xs → get_or xs k m ≡ m → Contains (take i xs) m
  stands-by k true t lt is =
      let early : k < i = grind (arith, nat_tests) in
      let count : length (take i xs) ≡ i = length-take-le i xs (omega arith) in
      (k, omega (arith, count), get_or-take i xs k m early ∙ is)
  stands-by k false t lt is =
      let late : i ≤ k = grind (arith, nat_tests) in
      let e : i + (k - i) ≡ k = omega arith in
      let up = rises xs rising i (k - i) (omega arith) in
      let value : get_or xs (i + (k - i)) 0 ≡ m = ap (λ n. get_or xs n 0) e ∙ get_or_default xs k 0 m lt ∙ is in
      absurd (omega (arith, up, value))

  pub stands-before : Contains xs m → Contains (take i xs) m
  stands-before at = stands-by at.0 (nat_lt at.0 i) refl at.1 at.2
