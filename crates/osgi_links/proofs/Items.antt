-- The items of a row that are not out, in order.
use Prim.Native.Nat.{zero, suc}
use Rattle.std.proofs.Common.{◌≡◌, ℕ, ◌+◌, ◌-◌, ◌<◌, ◌≤◌, Bool, true, false, cond, ltb, eqb, ◌||◌, inl, inr, List, [], ◌∷◌, length, get_or, length-append, Option, Some, None, refl, sym, ap, ◌∙◌, subst, arith}
use Rattle.std.specs.Prelude.{filter}
use Rattle.std.specs.List.{concat}
use Rattle.std.specs.declared.vec.Vec.{Vec}
use Rattle.std.proofs.lemmas.Bool.{cases_eq, cases_Bool, both_ways, eq-eqb, ne_eqb, cond-true, cond-false, lt-ltb, le-ltb}
use Rattle.osgi_links.specs.Held.{has, after, contents, first_of, count_up, item_numbers}
use Rattle.osgi_links.specs.computed.Straight.{bounds_from}
use Rattle.osgi_links.specs.computed.Seen.{left, rows_between, rows_from}
use Rattle.osgi_links.proofs.Links.{has-split}

abbrev If : Bool → ℕ → Option ℕ
If b x = cond b (Some x) None

-- the first item of those from a on that passes
pub first_of-filter : (p : ℕ → Bool) (a n j : ℕ) → a ≤ j → ((k : ℕ) → a ≤ k → k < j → k < a + n → p k ≡ false) → (j < a + n → p j ≡ true)
    → first_of (filter p (count_up a n)) ≡ cond (ltb j (a + n)) (Some j) None
first_of-filter p a zero j low none some = sym (cond-false _ (Some j) None (le-ltb j (a + 0) (omega (arith, low))))
first_of-filter p a (suc n) j low none some =
    elim (cases_eq a j) [
      | inl e ↦
          let yes_a : p a ≡ true = (let P : ℕ → Type 0 = λ x. p x ≡ true in subst P (sym e) (some (omega (arith, e)))) in
          let l : first_of (filter p (count_up a (suc n))) ≡ Some a = ap (λ b. first_of (cond b (a ∷ filter p (count_up (a + 1) n)) (filter p (count_up (a + 1) n)))) yes_a in
          l ∙ ap (λ x. Some x) e ∙ sym (cond-true _ (Some j) None (lt-ltb j (a + suc n) (omega (arith, e))))
      | inr m ↦
          let no_a : p a ≡ false = none a (omega arith) (omega (arith, low, m)) (omega arith) in
          let l : first_of (filter p (count_up a (suc n))) ≡ first_of (filter p (count_up (a + 1) n)) = ap (λ b. first_of (cond b (a ∷ filter p (count_up (a + 1) n)) (filter p (count_up (a + 1) n)))) no_a in
          let e : a + 1 + n ≡ a + suc n = omega arith in
          l ∙ first_of-filter p (a + 1) n j (omega (arith, low, m)) (λ k x y z. none k (omega (arith, x)) y (omega (arith, z))) (λ x. some (omega (arith, x)))
          ∙ ap (λ t. cond (ltb j t) (Some j) None) e
    ]

-- what comes after an item is the first of the items above it
pub after-filter : (p : ℕ → Bool) (a n x m : ℕ) → a ≤ x → x + 1 + m ≡ a + n → p x ≡ true
    → after x (filter p (count_up a n)) ≡ first_of (filter p (count_up (x + 1) m))
after-filter p a zero x m low e yes_x = absurd (omega (arith, low, e))
after-filter p a (suc n) x m low e yes_x =
    let tail = filter p (count_up (a + 1) n) in
    elim (cases_eq x a) [
      | inl s ↦
          let yes_a : p a ≡ true = (let P : ℕ → Type 0 = λ y. p y ≡ true in subst P s yes_x) in
          let l : after x (filter p (count_up a (suc n))) ≡ after x (a ∷ tail) = ap (λ b. after x (cond b (a ∷ tail) tail)) yes_a in
          let r : after x (a ∷ tail) ≡ first_of tail = cond-true _ (first_of tail) (after x tail) (eq-eqb x a s) in
          let same : n ≡ m = omega (arith, e, s) in
          l ∙ r ∙ ap (λ t. first_of (filter p (count_up (t + 1) n))) (sym s) ∙ ap (λ t. first_of (filter p (count_up (x + 1) t))) same
      | inr d ↦
          let rest : after x tail ≡ first_of (filter p (count_up (x + 1) m)) = after-filter p (a + 1) n x m (omega (arith, low, d)) (omega (arith, e)) yes_x in
          elim (cases_Bool (p a)) [
            | inl t ↦
                let l : after x (filter p (count_up a (suc n))) ≡ after x (a ∷ tail) = ap (λ b. after x (cond b (a ∷ tail) tail)) t in
                l ∙ cond-false _ (first_of tail) (after x tail) (ne_eqb x a d) ∙ rest
            | inr f ↦
                let l : after x (filter p (count_up a (suc n))) ≡ after x tail = ap (λ b. after x (cond b (a ∷ tail) tail)) f in
                l ∙ rest
          ]
    ]

-- an item of those is one of the numbers, and passes
pub has-filter : (p : ℕ → Bool) (a n x : ℕ) → has (filter p (count_up a n)) x ≡ true → (a ≤ x) × (x < a + n) × (p x ≡ true)
has-filter p a zero x h = absurd (both_ways _ (let e : has [] x ≡ false = refl in e) h)
has-filter p a (suc n) x h =
    let tail = filter p (count_up (a + 1) n) in
    let up : has tail x ≡ true → (a ≤ x) × (x < a + suc n) × (p x ≡ true) = λ t. (let r = has-filter p (a + 1) n x t in (omega (arith, r.0), omega (arith, r.1), r.2)) in
    elim (cases_Bool (p a)) [
      | inl t ↦
          let l : has (a ∷ tail) x ≡ true = sym (ap (λ b. has (cond b (a ∷ tail) tail) x) t) ∙ h in
          elim (has-split a x tail l) [
            | inl s ↦ (omega (arith, s), omega (arith, s), (let P : ℕ → Type 0 = λ y. p y ≡ true in subst P (sym s) t))
            | inr r ↦ up r
          ]
      | inr f ↦ up (sym (ap (λ b. has (cond b (a ∷ tail) tail) x) f) ∙ h)
    ]

-- the rows by the numbers of their first items
pub rows_from-get : (first : ℕ) (bounds : List ℕ) (r : ℕ) → r < length bounds
    → get_or (rows_from first bounds) r [] ≡ count_up (get_or (first ∷ bounds) r 0) (get_or (first ∷ bounds) (r + 1) 0 - get_or (first ∷ bounds) r 0)
rows_from-get first [] r h = absurd (let h' : r < 0 = h in omega (arith, h'))
rows_from-get first (next ∷ bounds) zero h = refl
rows_from-get first (next ∷ bounds) (suc r) h =
    let e : r + 1 ≡ suc r = omega arith in
    rows_from-get next bounds r (let h' : suc r < suc (length bounds) = h in omega (arith, h'))
    ∙ ap (λ t. count_up (get_or (next ∷ bounds) r 0) (get_or (next ∷ bounds) t 0 - get_or (next ∷ bounds) r 0)) e
    ∙ ap (λ t. count_up (get_or (next ∷ bounds) r 0) (get_or (first ∷ next ∷ bounds) t 0 - get_or (next ∷ bounds) r 0)) (let f : suc (suc r) ≡ suc r + 1 = omega arith in f)

pub rows_from-length : (first : ℕ) (bounds : List ℕ) → length (rows_from first bounds) ≡ length bounds
rows_from-length first [] = refl
rows_from-length first (next ∷ bounds) = ap suc (rows_from-length next bounds)

rows_between-bounds_from : (first next : ℕ) (lists : List (List ℕ)) → rows_from first (bounds_from next lists) ≡ count_up first (next - first) ∷ item_numbers next lists
rows_between-bounds_from first next [] = refl
rows_between-bounds_from first next (xs ∷ lists) =
    let e : next + length xs - next ≡ length xs = omega arith in
    ap (λ t. count_up first (next - first) ∷ t) (rows_between-bounds_from next (next + length xs) lists ∙ ap (λ n. count_up next n ∷ item_numbers (next + length xs) lists) e)

pub rows_of_bounds : (first : ℕ) (lists : List (List ℕ)) → rows_between (bounds_from first lists) ≡ item_numbers first lists
rows_of_bounds first [] = refl
rows_of_bounds first (xs ∷ lists) =
    let e : first + length xs - first ≡ length xs = omega arith in
    rows_between-bounds_from first (first + length xs) lists ∙ ap (λ n. count_up first n ∷ item_numbers (first + length xs) lists) e

-- the numbers of first items rise to the number of items
pub bounds_from-length : (first : ℕ) (lists : List (List ℕ)) → length (bounds_from first lists) ≡ length lists + 1
bounds_from-length first [] = refl
bounds_from-length first (xs ∷ lists) = let r = bounds_from-length (first + length xs) lists in (let e : suc (length (bounds_from (first + length xs) lists)) ≡ suc (length lists) + 1 = omega (arith, r) in e)

pub bounds_from-low : (first : ℕ) (lists : List (List ℕ)) (r : ℕ) → r < length (bounds_from first lists) → first ≤ get_or (bounds_from first lists) r 0
bounds_from-low first [] zero h = omega arith
bounds_from-low first [] (suc r) h = absurd (let h' : suc r < 1 = h in omega (arith, h'))
bounds_from-low first (xs ∷ lists) zero h = omega arith
bounds_from-low first (xs ∷ lists) (suc r) h =
    let i = bounds_from-low (first + length xs) lists r (let h' : suc r < suc (length (bounds_from (first + length xs) lists)) = h in omega (arith, h')) in omega (arith, i)

pub bounds_from-rise : (first : ℕ) (lists : List (List ℕ)) (r s : ℕ) → r ≤ s → s < length (bounds_from first lists)
    → get_or (bounds_from first lists) r 0 ≤ get_or (bounds_from first lists) s 0
bounds_from-rise first [] r zero low h = let e : r ≡ 0 = omega (arith, low) in (let P : ℕ → Type 0 = λ x. get_or (first ∷ []) x 0 ≤ first in subst P (sym e) (omega arith))
bounds_from-rise first [] r (suc s) low h = absurd (let h' : suc s < 1 = h in omega (arith, h'))
bounds_from-rise first (xs ∷ lists) zero s low h = bounds_from-low first (xs ∷ lists) s h
bounds_from-rise first (xs ∷ lists) (suc r) zero low h = absurd (omega (arith, low))
bounds_from-rise first (xs ∷ lists) (suc r) (suc s) low h =
    bounds_from-rise (first + length xs) lists r s (omega (arith, low)) (let h' : suc s < suc (length (bounds_from (first + length xs) lists)) = h in omega (arith, h'))

pub bounds_from-high : (first : ℕ) (lists : List (List ℕ)) (r : ℕ) → r < length (bounds_from first lists)
    → get_or (bounds_from first lists) r 0 ≤ first + length (concat lists)
bounds_from-high first [] zero h = omega arith
bounds_from-high first [] (suc r) h = absurd (let h' : suc r < 1 = h in omega (arith, h'))
bounds_from-high first (xs ∷ lists) zero h = omega arith
bounds_from-high first (xs ∷ lists) (suc r) h =
    let i = bounds_from-high (first + length xs) lists r (let h' : suc r < suc (length (bounds_from (first + length xs) lists)) = h in omega (arith, h')) in
    omega (arith, i, length-append xs (concat lists))

left-past : (n i : ℕ) (out : List ℕ) → n ≤ i → left n (i ∷ out) ≡ left n out
left-past zero i out h = refl
left-past (suc n) i out h =
    let same : has (i ∷ out) n ≡ has out n = (let f : eqb n i ≡ false = ne_eqb n i (λ e. omega (arith, e, h)) in ap (λ b. b || has out n) f) in
    ap (λ t. cond (has (i ∷ out) n) t (t + 1)) (left-past n i out (omega (arith, h))) ∙ ap (λ b. cond b (left n out) (left n out + 1)) same

pub left-out : (n i : ℕ) (out : List ℕ) → i < n → has out i ≡ false → left n (i ∷ out) + 1 ≡ left n out
left-out zero i out h is_in = absurd (omega (arith, h))
left-out (suc n) i out h is_in =
    elim (cases_eq n i) [
      | inl e ↦
          let top : has (i ∷ out) n ≡ true = (let f : eqb n i ≡ true = eq-eqb n i e in ap (λ b. b || has out n) f) in
          let low : has out n ≡ false = (let P : ℕ → Type 0 = λ x. has out x ≡ false in subst P (sym e) is_in) in
          let l : left (suc n) (i ∷ out) ≡ left n (i ∷ out) = cond-true _ _ _ top in
          let m : left (suc n) out ≡ left n out + 1 = cond-false _ _ _ low in
          omega (arith, l, m, left-past n i out (omega (arith, e)))
      | inr d ↦
          let f : eqb n i ≡ false = ne_eqb n i d in
          let same : has (i ∷ out) n ≡ has out n = ap (λ b. b || has out n) f in
          let rec = left-out n i out (omega (arith, h, d)) is_in in
          elim (cases_Bool (has out n)) [
            | inl t ↦
                let l : left (suc n) (i ∷ out) ≡ left n (i ∷ out) = cond-true _ _ _ (same ∙ t) in
                let m : left (suc n) out ≡ left n out = cond-true _ _ _ t in omega (arith, l, m, rec)
            | inr g ↦
                let l : left (suc n) (i ∷ out) ≡ left n (i ∷ out) + 1 = cond-false _ _ _ (same ∙ g) in
                let m : left (suc n) out ≡ left n out + 1 = cond-false _ _ _ g in omega (arith, l, m, rec)
          ]
    ]

pub left-none : (n : ℕ) → left n [] ≡ n
left-none zero = refl
left-none (suc n) = let r = left-none n in (let e : left n [] + 1 ≡ suc n = omega (arith, r) in e)

pub length-item_numbers : (first : ℕ) (lists : List (List ℕ)) → length (item_numbers first lists) ≡ length lists
length-item_numbers first [] = refl
length-item_numbers first (xs ∷ lists) = ap suc (length-item_numbers (first + length xs) lists)

pub length-contents : {A : Type 0} → (vs : List (Vec ℕ A)) → length (contents vs) ≡ length vs
length-contents [] = refl
length-contents (v ∷ vs) = ap suc (length-contents vs)
