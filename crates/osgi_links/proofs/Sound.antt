-- What is true of the nodes at the start, and stays true.
use Prim.Native.Nat.{zero, suc}
use Rattle.std.proofs.Common.{◌≡◌, ℕ, ◌+◌, ◌-◌, ◌<◌, ◌≤◌, Bool, true, false, not, cond, ltb, eqb, ◌||◌, inl, inr, List, [], ◌∷◌, length, map, drop, get_or, Some, None, refl, sym, ap, ◌∙◌, subst, arith}
use Rattle.std.specs.Prelude.{filter}
use Rattle.std.proofs.lemmas.Bool.{cases_eq, cases_lt, cases_order, both_ways, eq-eqb, ne_eqb, not-true, false_from_ne_true}
use Rattle.std.proofs.lemmas.List.{get_or-drop, length-drop, length-map, get_or_past}
use Rattle.osgi_links.specs.Held.{Held, has, linked, after, first_of, count_up}
use Rattle.osgi_links.specs.computed.Chain.{Link, next_at, row_at, value_at, values_of}
use Rattle.osgi_links.specs.computed.Seen.{IsHome, IsSound_at, item_at, item_behind, rows_between, seen_of, stack}
use Rattle.osgi_links.proofs.Items.{after-filter, first_of-filter, has-filter, rows_from-get, rows_from-length}
use Rattle.osgi_links.proofs.Links.{has-top, has-more}

pub values-get : (links : List Link) (k : ℕ) → get_or (values_of links) k 0 ≡ value_at links k
values-get [] k = refl
values-get (x ∷ links) zero = refl
values-get (x ∷ links) (suc k) = values-get links k

-- the first item of the row after r is at most one past the last
abbrev pub bound : List Link → ℕ → ℕ → ℕ
bound links items r = value_at links (items + r)

-- the rows are the numbers between the bounds
row_of_list : (vs : List ℕ) (r : ℕ) → r + 1 < length vs → get_or (rows_between vs) r [] ≡ count_up (get_or vs r 0) (get_or vs (r + 1) 0 - get_or vs r 0)
row_of_list [] r h = absurd (let h' : r + 1 < 0 = h in omega (arith, h'))
row_of_list (first ∷ bounds) r h = rows_from-get first bounds r (let h' : r + 1 < suc (length bounds) = h in omega (arith, h'))

length_of_list : (vs : List ℕ) → length (rows_between vs) ≡ length vs - 1
length_of_list [] = omega arith
length_of_list (first ∷ bounds) = let e : length bounds ≡ suc (length bounds) - 1 = omega arith in rows_from-length first bounds ∙ e

module _ (links : List Link) (items : ℕ) where
  abbrev rest : List ℕ
  rest = drop items (values_of links)

  rest_length : length rest ≡ length links - items
  rest_length = length-drop items (values_of links) ∙ ap (λ n. n - items) (length-map links (λ (x : Link). x.value))

  rest_get : (r : ℕ) → get_or rest r 0 ≡ bound links items r
  rest_get r = get_or-drop items (values_of links) r 0 ∙ values-get links (items + r)

  pub row_is : (r : ℕ) → items + r + 1 < length links → get_or (rows_between rest) r [] ≡ count_up (bound links items r) (bound links items (r + 1) - bound links items r)
  row_is r h =
      row_of_list rest r (omega (arith, h, rest_length))
      ∙ ap (λ a. count_up a (get_or rest (r + 1) 0 - a)) (rest_get r) ∙ ap (λ b. count_up (bound links items r) (b - bound links items r)) (rest_get (r + 1))

  pub rows_length : length (rows_between rest) ≡ length links - items - 1
  rows_length = length_of_list rest ∙ ap (λ n. n - 1) rest_length

  pub row_in : (r : ℕ) → r < length (rows_between rest) → items + r + 1 < length links
  row_in r h = omega (arith, h, rows_length)

eqb-iff : (a b c d : ℕ) → (a ≡ b → c ≡ d) → (c ≡ d → a ≡ b) → eqb a b ≡ eqb c d
eqb-iff a b c d f g = elim (cases_eq a b) [
  | inl e ↦ eq-eqb a b e ∙ sym (eq-eqb c d (f e))
  | inr n ↦ ne_eqb a b n ∙ sym (ne_eqb c d (λ e. n (g e)))
]

module _ (links : List Link) (items : ℕ) (rising : (r s : ℕ) → r ≤ s → items + s < length links → bound links items r ≤ bound links items s) where
  -- of two rows that have the item, one is the other
  pub one_row : (r s k : ℕ) → items + r + 1 < length links → items + s + 1 < length links → bound links items r ≤ k → k < bound links items (r + 1)
      → bound links items s ≤ k → k < bound links items (s + 1) → r ≡ s
  one_row r s k r_in s_in lr hr ls hs =
      elim (cases_order r s) [
        | inl e ↦ e
        | inr (inl low) ↦ absurd (omega (arith, rising (r + 1) s (omega (arith, low)) (omega (arith, s_in)), hr, ls))
        | inr (inr high) ↦ absurd (omega (arith, rising (s + 1) r (omega (arith, high)) (omega (arith, r_in)), hs, lr))
      ]

  -- an item is out exactly where its node is
  pub has-item : (out : List ℕ) → ((node : ℕ) → has out node ≡ true → IsHome links items node) → (r k : ℕ) → items + r + 1 < length links
      → bound links items r ≤ k → k < bound links items (r + 1) → has (map (item_at links) out) k ≡ has out (k + r + 1)
  has-item [] homes r k r_in low high = refl
  has-item (p ∷ out) homes r k r_in low high =
      let home = homes p (has-top p out) in let s = row_at links p in
      let to_bound : items + s + 1 ≡ items + (s + 1) = omega arith in
      let below : p < bound links items (s + 1) + s + 1 = (let P : ℕ → Type 0 = λ t. p < value_at links t + s + 1 in subst P to_bound home.below) in
      let there = one_row r s k r_in home.row_in low high in
      let same : eqb k (item_at links p) ≡ eqb (k + r + 1) p =
      eqb-iff k (item_at links p) (k + r + 1) p
      (λ e. omega (arith, e, home.above, there (omega (arith, e, home.above)) (omega (arith, e, home.above, below))))
      (λ e. let t = place r s k p r_in home.row_in low high home.above below e in omega (arith, e, t, home.above)) in
      ap (λ b. b || has (map (item_at links) out) k) same ∙ ap (λ b. eqb (k + r + 1) p || b) (has-item out (λ node h. homes node (has-more p node out h)) r k r_in low high)
    where
      place : (r s k p : ℕ) → items + r + 1 < length links → items + s + 1 < length links → bound links items r ≤ k → k < bound links items (r + 1)
          → bound links items s + s < p → p < bound links items (s + 1) + s + 1 → k + r + 1 ≡ p → r ≡ s
      place r s k p r_in s_in lr hr ls hs e =
          elim (cases_order r s) [
            | inl e ↦ e
            | inr (inl low) ↦ absurd (omega (arith, rising (r + 1) s (omega (arith, low)) (omega (arith, s_in)), hr, ls, low, e))
            | inr (inr high) ↦ absurd (omega (arith, rising (s + 1) r (omega (arith, high)) (omega (arith, r_in)), hs, lr, high, e))
          ]

module _ (links : List Link) (items : ℕ) (out : List ℕ) (sound : IsSound_at links items out) where
  abbrev passes : ℕ → Bool
  passes x = not (has (map (item_at links) out) x)

  up : (r : ℕ) → items + r + 1 < length links → bound links items r ≤ bound links items (r + 1)
  up r h = sound.rising r (r + 1) (omega arith) (omega (arith, h))

  -- the node before a row is not out
  pub head_stays : (r : ℕ) → items + r + 1 < length links → has out (bound links items r + r) ≡ false
  head_stays r h = false_from_ne_true _ (λ t.
      let p = bound links items r + r in let home = sound.homes p t in let s = row_at links p in
      let to_bound : items + s + 1 ≡ items + (s + 1) = omega arith in
      let below : p < bound links items (s + 1) + s + 1 = (let P : ℕ → Type 0 = λ t. p < value_at links t + s + 1 in subst P to_bound home.below) in
      elim (cases_lt s r) [
        | inl low ↦ omega (arith, below, low, sound.rising (s + 1) r (omega (arith, low)) (omega (arith, h)))
        | inr high ↦ omega (arith, home.above, high, sound.rising r s high (omega (arith, home.row_in)))
      ])

  -- what stands behind a node of the row is the first of the items from there on that are not out
  pub read : (r a : ℕ) → items + r + 1 < length links → bound links items r ≤ a → a ≤ bound links items (r + 1) → has out (a + r) ≡ false
      → item_behind links items r (a + r) ≡ first_of (filter passes (count_up a (bound links items (r + 1) - a)))
  read r a h low high stays =
      let node = a + r in let inside : node + 1 < length links = omega (arith, high, h, sound.ended (r + 1) (omega (arith, h))) in
      let near = (sound.linked node (omega (arith, inside)) stays).0 inside in let q = next_at links node in let j = q - r - 1 in
      let is_q : j + r + 1 ≡ q = omega (arith, near.above) in
      let n = bound links items (r + 1) - a in let end : a + n ≡ bound links items (r + 1) = omega (arith, high) in
      let same : (k : ℕ) → a ≤ k → k < a + n → has (map (item_at links) out) k ≡ has out (k + r + 1) =
      λ k x y. has-item links items sound.rising out sound.homes r k h (omega (arith, low, x)) (omega (arith, y, end)) in
      let to_bound : items + r + 1 ≡ items + (r + 1) = omega arith in
      ap (λ t. cond (ltb j (value_at links t)) (Some j) None) to_bound ∙ ap (λ t. cond (ltb j t) (Some j) None) (sym end)
      ∙ sym (first_of-filter passes a n j (omega (arith, near.above))
      (λ k x y z. ap not (same k x z ∙ near.skips (k + r + 1) (omega (arith, x)) (omega (arith, y))))
      (λ z. ap not (same j (omega (arith, near.above)) z ∙ (let P : ℕ → Type 0 = λ t. has out t ≡ false in subst P (sym is_q) near.stays))))

  abbrev row_list : ℕ → List ℕ
  row_list r = filter passes (get_or (rows_between (drop items (values_of links))) r [])

  row_list_is : (r : ℕ) → items + r + 1 < length links → row_list r ≡ filter passes (count_up (bound links items r) (bound links items (r + 1) - bound links items r))
  row_list_is r h = ap (filter passes) (row_is links items r h)

  pub first_is : (r : ℕ) → r < length (rows_between (drop items (values_of links))) → item_behind links items r (bound links items r + r) ≡ first_of (row_list r)
  first_is r h =
      let r_in = row_in links items r h in
      read r (bound links items r) r_in (omega arith) (up r r_in) (head_stays r r_in) ∙ ap first_of (sym (row_list_is r r_in))

  -- an item that stands in a row
  pub record Stands (r x : ℕ) : Type 0 where
    pub row : items + r + 1 < length links
    pub low : bound links items r ≤ x
    pub high : x < bound links items (r + 1)
    pub stays : has out (x + r + 1) ≡ false

  rows_short : (r x : ℕ) → has (row_list r) x ≡ true → r < length (rows_between (drop items (values_of links)))
  rows_short r x h = elim (cases_lt r (length (rows_between (drop items (values_of links))))) [
    | inl low ↦ low
    | inr high ↦
        let none : row_list r ≡ [] = ap (filter passes) (get_or_past (rows_between (drop items (values_of links))) r [] high) in
        absurd (both_ways _ (ap (λ xs. has xs x) none) h)
  ]

  pub stands : (r x : ℕ) → has (row_list r) x ≡ true → Stands r x
  stands r x h =
      let r_in = row_in links items r (rows_short r x h) in
      let f = has-filter passes (bound links items r) _ x (sym (ap (λ xs. has xs x) (row_list_is r r_in)) ∙ h) in
      let top : x < bound links items (r + 1) = omega (arith, f.0, f.1, up r r_in) in
      record { row = r_in; low = f.0; high = top; stays = sym (has-item links items sound.rising out sound.homes r x r_in f.0 top) ∙ not-true _ f.2 }

  pub next_is : (r x : ℕ) → has (row_list r) x ≡ true → item_behind links items r (x + r + 1) ≡ after x (row_list r)
  next_is r x h =
      let s = stands r x h in let e : x + r + 1 ≡ x + 1 + r = omega arith in
      let yes_x : passes x ≡ true = ap not (has-item links items sound.rising out sound.homes r x s.row s.low s.high ∙ s.stays) in
      let P : ℕ → Type 0 = λ t. has out t ≡ false in
      ap (λ t. item_behind links items r t) e
      ∙ read r (x + 1) s.row (omega (arith, s.low)) (omega (arith, s.high)) (subst P e s.stays)
      ∙ sym (after-filter passes (bound links items r) (bound links items (r + 1) - bound links items r) x (bound links items (r + 1) - (x + 1)) s.low (omega (arith, s.low, s.high)) yes_x)
      ∙ ap (after x) (sym (row_list_is r s.row))

-- the same, where the rows are seen as they are
module _ (links : List Link) (items depth top : ℕ) (sound : IsSound_at links items (stack links depth top)) (held : Held) (is : seen_of links items depth top ≡ held) where
  abbrev out : List ℕ
  out = stack links depth top

  pub stands_in : (r x : ℕ) → has (linked held r) x ≡ true → Stands links items out sound r x
  stands_in r x h = let P : Held → Type 0 = λ t. has (linked t r) x ≡ true in stands links items out sound r x (subst P (sym is) h)

  pub next_in : (r x : ℕ) → has (linked held r) x ≡ true → item_behind links items r (x + r + 1) ≡ after x (linked held r)
  next_in r x h =
      let P : Held → Type 0 = λ t. has (linked t r) x ≡ true in
      next_is links items out sound r x (subst P (sym is) h) ∙ ap (λ t. after x (linked t r)) is

  pub row_there : (r : ℕ) → r < length held.rows → items + r + 1 < length links
  row_there r h = let P : Held → Type 0 = λ t. r < length t.rows in row_in links items r (subst P (sym is) h)

  pub first_in : (r : ℕ) → r < length held.rows → item_behind links items r (bound links items r + r) ≡ first_of (linked held r)
  first_in r h =
      let P : Held → Type 0 = λ t. r < length t.rows in
      first_is links items out sound r (subst P (sym is) h) ∙ ap (λ t. first_of (linked t r)) is

  -- where a node of the row is, and what stands behind it
  pub fits : (r a : ℕ) → items + r + 1 < length links → a ≤ bound links items (r + 1) → has out (a + r) ≡ false → (a + r < length links) × (a + r < next_at links (a + r))
  fits r a h high stays =
      let inside : a + r + 1 < length links = omega (arith, high, h, sound.ended (r + 1) (omega (arith, h))) in
      (omega (arith, inside), ((sound.linked (a + r) (omega (arith, inside)) stays).0 inside).above)

  pub head_fits : (r : ℕ) → items + r + 1 < length links → (bound links items r + r < length links) × (bound links items r + r < next_at links (bound links items r + r))
  head_fits r h = fits r (bound links items r) h (up links items out sound r h) (head_stays links items out sound r h)

  pub item_fits : (r x : ℕ) → has (linked held r) x ≡ true → (items + r + 1 < length links) × (x + r + 1 < length links) × (x + r + 1 < next_at links (x + r + 1))
  item_fits r x h =
      let s = stands_in r x h in let e : x + r + 1 ≡ x + 1 + r = omega arith in
      let P : ℕ → Type 0 = λ t. has out t ≡ false in
      let f = fits r (x + 1) s.row (omega (arith, s.high)) (subst P e s.stays) in
      let Q : ℕ → Type 0 = λ t. (t < length links) × (t < next_at links t) in
      let g : Q (x + r + 1) = subst Q (sym e) f in
      (s.row, g.0, g.1)
