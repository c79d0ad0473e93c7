-- The nodes stay sound as one is taken out, and as one is put back.
use Prim.Native.Nat.{zero, suc}
use Rattle.std.proofs.Common.{◌≡◌, ℕ, ◌+◌, ◌-◌, ◌<◌, ◌≤◌, ◌^◌, Bool, true, false, cond, inl, inr, List, [], ◌∷◌, ◌++◌, length, map, take, drop, get_or, length-append, refl, sym, ap, ◌∙◌, subst, arith}
use Rattle.std.specs.List.{concat}
use Rattle.std.proofs.lemmas.Bool.{cases_eq, both_ways}
use Rattle.std.proofs.lemmas.List.{length-map, take_at, drop_at, get_or-append-add}
use Rattle.osgi_links.specs.Held.{Held, has, new_rows}
use Rattle.osgi_links.specs.computed.Chain.{Link, next_at, prev_at, under_at, row_at, value_at, values_of, with_linked}
use Rattle.osgi_links.specs.computed.Straight.{bounds_from, IsWhole}
use Rattle.osgi_links.specs.computed.Seen.{IsLinked, Remembers, IsInside, IsHome, IsSound_at, item_at, left, rows_between, seen_of, stack}
use Rattle.osgi_links.proofs.Items.{rows_of_bounds, bounds_from-length, bounds_from-rise, bounds_from-high, left-none, left-out}
use Rattle.osgi_links.proofs.Links.{has-top, has-more, has-split, taken_out, stacked, put_back, unstacked}
use Rattle.osgi_links.proofs.Sound.{Stands, values-get}
use Rattle.osgi_links.proofs.Linking.{linked-length, linked-values, linked-value, linked-next, linked-next_other, linked-prev, linked-prev_other, linked-under, linked-row, linked-under_other, linked-row_other, linked-under_same, linked-row_same}

-- the stack reads the places of the nodes on it alone
pub stack_same : (old new : List Link) (depth top : ℕ) → ((k : ℕ) → has (stack old depth top) k ≡ true → under_at new k ≡ under_at old k) → stack new depth top ≡ stack old depth top
stack_same old new zero top same = refl
stack_same old new (suc depth) top same =
    let e = same top (has-top top (stack old depth (under_at old top))) in
    ap (λ t. top ∷ stack new depth t) e ∙ ap (λ t. top ∷ t) (stack_same old new depth (under_at old top) (λ k h. same k (has-more top k (stack old depth (under_at old top)) h)))

pub stack_length : (links : List Link) (depth top : ℕ) → length (stack links depth top) ≡ depth
stack_length links zero top = refl
stack_length links (suc depth) top = ap suc (stack_length links depth (under_at links top))

items_same : (old new : List Link) (out : List ℕ) → ((k : ℕ) → has out k ≡ true → row_at new k ≡ row_at old k) → map (item_at new) out ≡ map (item_at old) out
items_same old new [] same = refl
items_same old new (p ∷ out) same =
    ap (λ r. (p - r - 1) ∷ map (item_at new) out) (same p (has-top p out)) ∙ ap (λ t. item_at old p ∷ t) (items_same old new out (λ k h. same k (has-more p k out h)))

home_same : (old new : List Link) (items node : ℕ) → row_at new node ≡ row_at old node → length new ≡ length old → ((k : ℕ) → value_at new k ≡ value_at old k)
    → IsHome old items node → IsHome new items node
home_same old new items node same_row same_length same_value home =
    let P : ℕ → Type 0 = λ r. (items + r + 1 < length new) × (value_at new (items + r) + r < node) × (node < value_at new (items + r + 1) + r + 1) in
    let r = row_at old node in
    let h : P (row_at new node) = subst P (sym same_row) (omega (arith, home.row_in, same_length), omega (arith, home.above, same_value (items + r)), omega (arith, home.below, same_value (items + r + 1))) in
    record { row_in = h.0; above = h.1; below = h.2 }

module _ (links : List Link) (items : ℕ) (out : List ℕ) (sound : IsSound_at links items out) (at : ℕ) (is_live : Bool) (under row : ℕ) where
  abbrev new : List Link
  new = with_linked links at is_live under row

  static : (k : ℕ) → value_at new k ≡ value_at links k
  static = linked-value links at is_live under row

  size : length new ≡ length links
  size = linked-length links at is_live under row

  -- what stays as it was where a node is taken out or put back
  pub counted : items < length new
  counted = omega (arith, size, sound.counted)

  pub small : length new < 2 ^ 64
  small = let P : ℕ → Type 0 = λ n. n < 2 ^ 64 in subst P (sym size) sound.small

  pub rising : (r s : ℕ) → r ≤ s → items + s < length new → value_at new (items + r) ≤ value_at new (items + s)
  rising r s h t = omega (arith, static (items + r), static (items + s), sound.rising r s h (omega (arith, t, size)))

  pub ended : (r : ℕ) → items + r < length new → value_at new (items + r) ≤ items
  ended r t = omega (arith, static (items + r), sound.ended r (omega (arith, t, size)))

  module _ (in_block : at + 1 < length links) where
    prev_in : prev_at links at < length links
    prev_in = (sound.inside at (omega (arith, in_block))).0

    next_in : next_at links at < length links
    next_in = (sound.inside at (omega (arith, in_block))).1

    pub inside : IsInside new
    inside k h = (
      elim (cases_eq k (next_at links at)) [
        | inl e ↦ (let P : ℕ → Type 0 = λ t. prev_at new t < length new in subst P (sym e) (omega (arith, size, in_block, prev_in, linked-prev links at is_live under row next_in, either is_live at (prev_at links at) (length links) (omega (arith, in_block)) prev_in)))
        | inr n ↦ omega (arith, size, linked-prev_other links at is_live under row k n, (sound.inside k (omega (arith, h, size))).0)
      ],
      elim (cases_eq k (prev_at links at)) [
        | inl e ↦ (let P : ℕ → Type 0 = λ t. next_at new t < length new in subst P (sym e) (omega (arith, size, in_block, next_in, linked-next links at is_live under row prev_in, either is_live at (next_at links at) (length links) (omega (arith, in_block)) next_in)))
        | inr n ↦ omega (arith, size, linked-next_other links at is_live under row k n, (sound.inside k (omega (arith, h, size))).1)
      ],
    )
      where
        either : (b : Bool) (x y n : ℕ) → x < n → y < n → cond b x y < n
        either true x y n p q = p
        either false x y n p q = q

linked_in : (nx pv : ℕ → ℕ) (out : List ℕ) (m n : ℕ) → n ≡ m → IsLinked nx pv m out → IsLinked nx pv n out
linked_in nx pv out m n e h = let P : ℕ → Type 0 = λ t. IsLinked nx pv t out in subst P (sym e) h

-- a node is taken out
module _ (links : List Link) (items : ℕ) (out : List ℕ) (sound : IsSound_at links items out) (r x : ℕ) (stands : Stands links items out sound r x) (under : ℕ) where
  abbrev node : ℕ
  node = x + r + 1

  abbrev after_out : List Link
  after_out = with_linked links node false under r

  in_block : node + 1 < length links
  in_block =
      let e : items + r + 1 ≡ items + (r + 1) = omega arith in
      omega (arith, stands.row, stands.high, sound.ended (r + 1) (omega (arith, stands.row)))

  not_it : (k : ℕ) → has out k ≡ true → k ≡ node → ⊥
  not_it k h e = both_ways (has out node) stands.stays (let P : ℕ → Type 0 = λ t. has out t ≡ true in subst P e h)

  pub out_fits : (at : node + 1 < length links) × (prev_at links node < length links) × (next_at links node < length links)
  out_fits = (in_block, (sound.inside node (omega (arith, in_block))).0, (sound.inside node (omega (arith, in_block))).1)

  out_links : IsLinked (next_at after_out) (prev_at after_out) (length links) (node ∷ out) × Remembers (next_at after_out) (prev_at after_out) (node ∷ out)
  out_links =
      let a = linked-next links node false under r out_fits.1 in let b = linked-next_other links node false under r in
      let c = linked-prev links node false under r out_fits.2 in let d = linked-prev_other links node false under r in
      let i = in_block in (
        taken_out (next_at links) (prev_at links) (next_at after_out) (prev_at after_out) (length links) out node sound.linked i (omega arith) stands.stays a b c d,
        stacked (next_at links) (prev_at links) (next_at after_out) (prev_at after_out) (length links) out node sound.linked i (omega arith) stands.stays a b c d sound.remembered,
      )

  pub sound_out : IsSound_at after_out items (node ∷ out)
  sound_out =
      let size = linked-length links node false under r in let i : node < length links = omega (arith, in_block) in
      let row_there = linked-row links node false under r i in let static = linked-value links node false under r in
      record {
        counted = counted links items out sound node false under r;
        small = small links items out sound node false under r;
        rising = rising links items out sound node false under r;
        ended = ended links items out sound node false under r;
        inside = inside links items out sound node false under r in_block;
        linked = linked_in (next_at after_out) (prev_at after_out) (node ∷ out) (length links) (length after_out) size out_links.0;
        remembered = out_links.1;
        homes = λ k h. elim (has-split node k out h) [
          | inl e ↦ (let P : ℕ → Type 0 = IsHome after_out items in subst P (sym e) (
              let Q : ℕ → Type 0 = λ t. (items + t + 1 < length after_out) × (value_at after_out (items + t) + t < node) × (node < value_at after_out (items + t + 1) + t + 1) in
              let plain : Q r = (omega (arith, stands.row, size), omega (arith, stands.low, static (items + r)), (let f : items + r + 1 ≡ items + (r + 1) = omega arith in let R : ℕ → Type 0 = λ t. node < value_at after_out t + r + 1 in subst R (sym f) (omega (arith, stands.high, static (items + (r + 1)))))) in
              let q : Q (row_at after_out node) = subst Q (sym row_there) plain in
              record { row_in = q.0; above = q.1; below = q.2 }))
          | inr t ↦ home_same links after_out items k (linked-row_other links node false under r k (not_it k t)) size static (sound.homes k t)
        ];
        all_counted =
            let count : length (node ∷ out) ≡ length out + 1 = (let e : suc (length out) ≡ length out + 1 = omega arith in e) in
            let l = left-out (length links) node out i stands.stays in
            let to_new : left (length after_out) (node ∷ out) ≡ left (length links) (node ∷ out) = ap (λ n. left n (node ∷ out)) size in
            omega (arith, count, l, to_new, sound.all_counted, size);
      }

-- the rows as they are seen then
module _ (links : List Link) (items depth top : ℕ) (sound : IsSound_at links items (stack links depth top)) (r x : ℕ) (stands : Stands links items (stack links depth top) sound r x) where
  abbrev taken : List Link
  taken = with_linked links (x + r + 1) false top r

  pub stack_out : stack taken (depth + 1) (x + r + 1) ≡ (x + r + 1) ∷ stack links depth top
  stack_out =
      let n = x + r + 1 in let i : n < length links = (let o = out_fits links items (stack links depth top) sound r x stands top in omega (arith, o.0)) in
      let e : depth + 1 ≡ suc depth = omega arith in
      ap (λ d. stack taken d n) e ∙ ap (λ t. n ∷ stack taken depth t) (linked-under links n false top r i)
      ∙ ap (λ t. n ∷ t) (stack_same links taken depth top (λ k h. linked-under_other links n false top r k (not_it links items (stack links depth top) sound r x stands top k h)))

  pub sound_taken : IsSound_at taken items (stack taken (depth + 1) (x + r + 1))
  sound_taken = let P : List ℕ → Type 0 = IsSound_at taken items in subst P (sym stack_out) (sound_out links items (stack links depth top) sound r x stands top)

  pub seen_taken : seen_of taken items (depth + 1) (x + r + 1) ≡ record (seen_of links items depth top) { removed = x ∷ (seen_of links items depth top).removed }
  seen_taken =
      let n = x + r + 1 in let R = stack links depth top in
      let i : n < length links = (let o = out_fits links items R sound r x stands top in omega (arith, o.0)) in
      let vs = linked-values links n false top r in
      let here : item_at taken n ≡ x = (let e = linked-row links n false top r i in omega (arith, e)) in
      let removed : map (item_at taken) (stack taken (depth + 1) n) ≡ x ∷ map (item_at links) R =
      ap (map (item_at taken)) stack_out ∙ ap (λ t. t ∷ map (item_at taken) R) here
      ∙ ap (λ t. x ∷ t) (items_same links taken R (λ k h. linked-row_other links n false top r k (not_it links items R sound r x stands top k h))) in
      let Make : List ℕ → List ℕ → Held = λ us out. record { rows = rows_between (drop items us); values = take items us; removed = out } in
      ap (λ us. Make us (map (item_at taken) (stack taken (depth + 1) n))) vs ∙ ap (λ t. Make (values_of links) t) removed

  pub room_to_count : depth + 1 < 2 ^ 64
  room_to_count =
      let R = stack links depth top in let o = out_fits links items R sound r x stands top in
      let l = left-out (length links) (x + r + 1) R (omega (arith, o.0)) stands.stays in
      let n = stack_length links depth top in let s = sound.small in
      let up : depth + 1 ≤ length links = omega (arith, l, n, sound.all_counted) in omega (arith, up, s)

-- the top node of the stack is put back
module _ (links : List Link) (items depth top : ℕ) (sound : IsSound_at links items (stack links (depth + 1) top)) where
  abbrev below : ℕ
  below = under_at links top

  abbrev rest : List ℕ
  rest = stack links depth below

  abbrev back : List Link
  back = with_linked links top true below (row_at links top)

  stack_is : stack links (depth + 1) top ≡ top ∷ rest
  stack_is = let e : depth + 1 ≡ suc depth = omega arith in ap (λ d. stack links d top) e

  whole : IsSound_at links items (top ∷ rest)
  whole = let P : List ℕ → Type 0 = IsSound_at links items in subst P stack_is sound

  block : top + 1 < length links
  block =
      let home = whole.homes top (has-top top rest) in let r = row_at links top in
      let e : items + r + 1 ≡ items + (r + 1) = omega arith in
      let high : value_at links (items + r + 1) ≤ items = (let P : ℕ → Type 0 = λ t. value_at links t ≤ items in subst P (sym e) (whole.ended (r + 1) (omega (arith, home.row_in)))) in
      omega (arith, home.row_in, home.below, high)

  pub back_fits : (top + 1 < length links) × (prev_at links top < length links) × (next_at links top < length links)
  back_fits = (block, (whole.inside top (omega (arith, block))).0, (whole.inside top (omega (arith, block))).1)

  pub stack_back : stack back depth below ≡ rest
  stack_back = stack_same links back depth below (λ k h. linked-under_same links top true below (row_at links top) (omega (arith, block)) refl k)

  pub sound_back : IsSound_at back items (stack back depth below)
  sound_back =
      let row = row_at links top in let i : top < length links = omega (arith, block) in
      let size = linked-length links top true below row in
      let a = linked-next links top true below row back_fits.1 in let b = linked-next_other links top true below row in
      let c = linked-prev links top true below row back_fits.2 in let d = linked-prev_other links top true below row in
      let P : List ℕ → Type 0 = IsSound_at back items in
      subst P (sym stack_back) (record {
        counted = counted links items (top ∷ rest) whole top true below row;
        small = small links items (top ∷ rest) whole top true below row;
        rising = rising links items (top ∷ rest) whole top true below row;
        ended = ended links items (top ∷ rest) whole top true below row;
        inside = inside links items (top ∷ rest) whole top true below row block;
        linked = linked_in (next_at back) (prev_at back) rest (length links) (length back) size
            (put_back (next_at links) (prev_at links) (next_at back) (prev_at back) (length links) rest top whole.linked whole.remembered a b c d);
        remembered = unstacked (next_at links) (prev_at links) (next_at back) (prev_at back) (length links) rest top whole.linked whole.remembered a b c d;
        homes = λ k h. home_same links back items k (linked-row_same links top true below row i refl k) size (linked-value links top true below row) (whole.homes k (has-more top k rest h));
        all_counted =
            let count : length (top ∷ rest) ≡ length rest + 1 = (let e : suc (length rest) ≡ length rest + 1 = omega arith in e) in
            let l = left-out (length links) top rest i whole.remembered.0 in
            let to_new : left (length back) rest ≡ left (length links) rest = ap (λ n. left n rest) size in
            omega (arith, count, l, to_new, whole.all_counted, size);
      })

  pub seen_back : seen_of back items depth below ≡ record (seen_of links items (depth + 1) top) { removed = drop 1 (seen_of links items (depth + 1) top).removed }
  seen_back =
      let row = row_at links top in let i : top < length links = omega (arith, block) in
      let vs = linked-values links top true below row in
      let removed : map (item_at back) (stack back depth below) ≡ drop 1 (map (item_at links) (stack links (depth + 1) top)) =
      ap (map (item_at back)) stack_back ∙ items_same links back rest (λ k h. linked-row_same links top true below row i refl k)
      ∙ sym (ap (λ t. drop 1 (map (item_at links) t)) stack_is) in
      let Make : List ℕ → List ℕ → Held = λ us out. record { rows = rows_between (drop items us); values = take items us; removed = out } in
      ap (λ us. Make us (map (item_at back) (stack back depth below))) vs ∙ ap (λ t. Make (values_of links) t) removed

-- the nodes at the start
module _ (links : List Link) (lists : List (List ℕ)) (values : values_of links ≡ concat lists ++ bounds_from 0 lists) (straight : IsWhole links) where
  abbrev items : ℕ
  items = length (concat lists)

  start_length : length links ≡ items + length lists + 1
  start_length =
      let m = length-map links (λ (x : Link). x.value) in let l = ap length values in
      omega (arith, m, l, length-append (concat lists) (bounds_from 0 lists), bounds_from-length 0 lists)

  start_bound : (r : ℕ) → value_at links (items + r) ≡ get_or (bounds_from 0 lists) r 0
  start_bound r = sym (values-get links (items + r)) ∙ ap (λ us. get_or us (items + r) 0) values ∙ get_or-append-add (concat lists) (bounds_from 0 lists) r 0

  bound_in : (r : ℕ) → items + r < length links → r < length (bounds_from 0 lists)
  bound_in r h = omega (arith, h, start_length, bounds_from-length 0 lists)

  pub sound_new : length links < 2 ^ 64 → IsSound_at links items []
  sound_new fits = record {
    counted = omega (arith, start_length);
    small = fits;
    rising = λ r s low h. omega (arith, start_bound r, start_bound s, bounds_from-rise 0 lists r s low (bound_in s h));
    ended = λ r h. omega (arith, start_bound r, bounds_from-high 0 lists r (bound_in r h));
    inside = λ k h. (omega (arith, straight.before k h, h), straight.inside k h);
    linked = λ k h is_in. (
      λ more. record { above = omega (arith, straight.behind k more); stays = refl; skips = λ j low high. absurd (omega (arith, low, high, straight.behind k more)) },
      λ pos. record { below = omega (arith, straight.before k h, pos); stays = refl; skips = λ j low high. absurd (omega (arith, low, high, straight.before k h, pos)) },
    );
    remembered = tt;
    homes = λ k h. absurd (both_ways (has [] k) refl h);
    all_counted = omega (arith, left-none (length links));
  }

  pub seen_new : seen_of links items 0 0 ≡ new_rows lists
  seen_new =
      let Make : List ℕ → List ℕ → Held = λ us vs. record { rows = rows_between us; values = vs; removed = [] } in
      ap (λ us. Make (drop items us) (take items us)) values
      ∙ ap (λ us. Make us (take items (concat lists ++ bounds_from 0 lists))) (drop_at (concat lists) (bounds_from 0 lists) items refl)
      ∙ ap (Make (bounds_from 0 lists)) (take_at (concat lists) (bounds_from 0 lists) items refl)
      ∙ ap (λ rs. (let M : List (List ℕ) → Held = λ t. record { rows = t; values = concat lists; removed = [] } in M rs)) (rows_of_bounds 0 lists)

-- the stack is as deep as there are items out
pub some_out : (links : List Link) (items depth top : ℕ) (held : Held) → seen_of links items depth top ≡ held → 0 < length held.removed → depth ≡ depth - 1 + 1
some_out links items depth top held is h =
    let P : Held → Type 0 = λ t. 0 < length t.removed in
    let low : 0 < length (map (item_at links) (stack links depth top)) = subst P (sym is) h in
    omega (arith, low, length-map (stack links depth top) (item_at links), stack_length links depth top)
