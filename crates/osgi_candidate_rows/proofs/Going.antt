-- Going along a row past items that are out.
use Prim.Native.Nat.{zero, suc}
use Rattle.std.proofs.Common.{◌≡◌, ℕ, ◌+◌, ◌-◌, ◌<◌, ◌≤◌, ◌⊎◌, Bool, true, false, not, cond, inl, inr, IsTrue, List, [], ◌∷◌, length, get_or, Some, None, refl, sym, ap, ◌∙◌, subst, arith}
use Rattle.std.specs.Prelude.{filter}
use Rattle.osgi_links.specs.Held.{Held, after, count_up, first_of, has, linked}
use Rattle.osgi_links.proofs.Items.{after-filter, has-filter}
use Rattle.osgi_world.specs.declared.problem.Choice.{Choice}
use Rattle.osgi_candidate_rows.specs.computed.Numbers.{AreGone, HoldsPlaces, IsNextPlace, first_number, row_of}
use Rattle.osgi_candidate_rows.proofs.Numbers.{items-at, value-at}

-- ---- the first number that passes

some-inj : (x y : ℕ) → Some x ≡ Some y → x ≡ y
some-inj x y e = cc

some-none : (x : ℕ) → Some x ≡ None → ⊥
some-none x e = cc

-- x is the first of n numbers from a on that passes
record IsFirstFrom (p : ℕ → Bool) (a n x : ℕ) : Type 0 where
  low : a ≤ x
  high : x < a + n
  none : (k : ℕ) → a ≤ k → k < x → p k ≡ false

split : (p : ℕ → Bool) (a k : ℕ) → p a ≡ false → a ≤ k → (a + 1 ≤ k → p k ≡ false) → p k ≡ false
split p a k f low rest = go (grind arith)
  where
    go : (a ≡ k) ⊎ (a + 1 ≤ k) → p k ≡ false
    go (inl e) = subst (λ x. p x ≡ false) e f
    go (inr h) = rest h

first-go : (p : ℕ → Bool) (a n x : ℕ) (b : Bool) → p a ≡ b → first_of (cond b (a ∷ filter p (count_up (a + 1) n)) (filter p (count_up (a + 1) n))) ≡ Some x → (first_of (filter p (count_up (a + 1) n)) ≡ Some x → IsFirstFrom p (a + 1) n x) → IsFirstFrom p a (suc n) x
first-go p a n x true t e rest = let s = some-inj a x e in record { low = omega (arith, s); high = omega (arith, s); none = λ k low high. absurd (omega (arith, s, low, high)) }
first-go p a n x false f e rest =
    let r = rest e in
    record { low = (let h = r.low in omega (arith, h)); high = (let h = r.high in omega (arith, h)); none = λ k low high. split p a k f low (λ h. r.none k h high) }

first-from : (p : ℕ → Bool) (a n x : ℕ) → first_of (filter p (count_up a n)) ≡ Some x → IsFirstFrom p a n x
first-from p a zero x e = absurd (some-none x (sym e))
first-from p a (suc n) x e = first-go p a n x (p a) refl e (first-from p (a + 1) n x)

none-go : (p : ℕ → Bool) (a n k : ℕ) (b : Bool) → p a ≡ b → first_of (cond b (a ∷ filter p (count_up (a + 1) n)) (filter p (count_up (a + 1) n))) ≡ None → a ≤ k → (first_of (filter p (count_up (a + 1) n)) ≡ None → a + 1 ≤ k → p k ≡ false) → p k ≡ false
none-go p a n k true t e low rest = absurd (some-none a e)
none-go p a n k false f e low rest = split p a k f low (rest e)

none-from : (p : ℕ → Bool) (a n k : ℕ) → first_of (filter p (count_up a n)) ≡ None → a ≤ k → k < a + n → p k ≡ false
none-from p a zero k e low high = absurd (omega (arith, low, high))
none-from p a (suc n) k e low high = none-go p a n k (p a) refl e low (λ f h. none-from p (a + 1) n k f h (omega (arith, high)))

-- ---- a row of which some items are out

gone : (h : Held) (x : ℕ) (b : Bool) → has h.removed x ≡ b → not b ≡ false → b ≡ true
gone h x true e f = refl
gone h x false e f = absurd (flip f)
  where
    flip : true ≡ false → ⊥
    flip e = cc

-- the search stands at the item, and passed each place from `from` on
pub record IsPassed (choices : List Choice) (h : Held) (row from item : ℕ) : Type 0 where
  pub low : first_number choices row ≤ item
  pub high : item < first_number choices row + length (row_of choices row)
  pub none : (place : ℕ) → from ≤ place → first_number choices row + place < item → has h.removed (first_number choices row + place) ≡ true

module _ (choices : List Choice) (h : Held) (holds : HoldsPlaces choices h) (row : ℕ) (there : row < length choices) where
  abbrev pub a : ℕ
  a = first_number choices row

  abbrev pub n : ℕ
  n = length (row_of choices row)

  pub row-items : linked h row ≡ filter (λ x. not (has h.removed x)) (count_up a n)
  row-items = ap (filter (λ x. not (has h.removed x))) (ap (λ rows. get_or rows row []) holds.rows ∙ items-at 0 choices row there ∙ (let e : 0 + a ≡ a = omega arith in ap (λ x. count_up x n) e))

  pub value-is : (item : ℕ) → a ≤ item → item < a + n → get_or h.values item 0 ≡ item - a
  value-is item low high =
      let e : a + (item - a) ≡ item = omega (arith, low) in
      ap (λ k. get_or h.values k 0) (sym e) ∙ ap (λ values. get_or values (a + (item - a)) 0) holds.values ∙ value-at choices row (item - a) there (omega (arith, low, high))

  out-of : (k : ℕ) → not (has h.removed k) ≡ false → has h.removed k ≡ true
  out-of k e = gone h k (has h.removed k) refl e

  pub passed-first : (from item : ℕ) → Some item ≡ first_of (linked h row) → IsPassed choices h row from item
  passed-first from item e =
      let f = first-from (λ x. not (has h.removed x)) a n item (ap first_of (sym row-items) ∙ sym e) in
      record { low = f.low; high = f.high; none = λ place above below. out-of (a + place) (f.none (a + place) (omega arith) below) }

  pub none-first : (from : ℕ) → None ≡ first_of (linked h row) → AreGone choices h.removed row from n
  none-first from e place above upto within =
      out-of (a + place) (none-from (λ x. not (has h.removed x)) a n (a + place) (ap first_of (sym row-items) ∙ sym e) (omega arith) (omega (arith, within)))

  -- the item is not out
  there-of : (item : ℕ) → IsTrue (has (linked h row) item) → (a ≤ item) × (item < a + n) × (not (has h.removed item) ≡ true)
  there-of item t = has-filter (λ x. not (has h.removed x)) a n item (ap (λ xs. has xs item) (sym row-items) ∙ t)

  abbrev pub rest : ℕ → ℕ
  rest item = (a + n) - (item + 1)

  after-is : (item : ℕ) → IsTrue (has (linked h row) item) → after item (linked h row) ≡ first_of (filter (λ x. not (has h.removed x)) (count_up (item + 1) (rest item)))
  after-is item t =
      let i = there-of item t in
      ap (after item) row-items ∙ after-filter (λ x. not (has h.removed x)) a n item (rest item) i.0 (let high = i.1 in omega (arith, high)) i.2

  low-of : (from item place : ℕ) → item - a < from → from ≤ place → a + place ≤ item → ⊥
  low-of from item place less above below = absurd (omega (arith, less, above, below))

  pub passed-next : (from item next : ℕ) → IsPassed choices h row from item → IsTrue (has (linked h row) item) → item - a < from → Some next ≡ after item (linked h row) → IsPassed choices h row from next
  passed-next from item next p t less e =
      let f = first-from (λ x. not (has h.removed x)) (item + 1) (rest item) next (sym (after-is item t) ∙ sym e) in
      record {
        low = (let l = f.low in let m = p.low in omega (arith, l, m));
        high = (let l = f.high in let m = p.high in omega (arith, l, m));
        none = λ place above below. pass place above below (grind arith) f;
      }
    where
      pass : (place : ℕ) → from ≤ place → a + place < next → (a + place < item + 1) ⊎ (item + 1 ≤ a + place) → IsFirstFrom (λ x. not (has h.removed x)) (item + 1) (rest item) next → has h.removed (a + place) ≡ true
      pass place above below (inl l) f = absurd (low-of from item place less above (omega (arith, l)))
      pass place above below (inr g) f = out-of (a + place) (f.none (a + place) g below)

  pub none-next : (from item : ℕ) → IsPassed choices h row from item → IsTrue (has (linked h row) item) → item - a < from → None ≡ after item (linked h row) → AreGone choices h.removed row from n
  none-next from item p t less e place above upto within = pass (grind arith)
    where
      pass : (a + place < item + 1) ⊎ (item + 1 ≤ a + place) → has h.removed (a + place) ≡ true
      pass (inl l) = absurd (low-of from item place less above (omega (arith, l)))
      pass (inr g) =
          let m = p.high in
          out-of (a + place) (none-from (λ x. not (has h.removed x)) (item + 1) (rest item) (a + place) (sym (after-is item t) ∙ sym e) g (omega (arith, within, m)))

  -- where the search ends at an item whose place is high enough
  pub next-place : (from item place : ℕ) → IsPassed choices h row from item → place ≡ get_or h.values item 0 → from ≤ place → IsNextPlace choices h.removed row from (Some place)
  next-place from item place p is above =
      let e : place ≡ item - a = is ∙ value-is item p.low p.high in
      let low = p.low in let high = p.high in
      (above, inl (omega (arith, e, low, high)), λ k from_k below within. p.none k from_k (omega (arith, e, low, below)))

pub next-self : (choices : List Choice) (removed : List ℕ) (row from : ℕ) → IsNextPlace choices removed row from (Some from)
next-self choices removed row from = (omega arith, inr refl, λ k above below within. absurd (omega (arith, above, below)))
