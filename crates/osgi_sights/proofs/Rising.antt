-- Rows by rising id, and who is asked of them.
use Rattle.std.proofs.Common.{◌≡◌, ◌<◌, ℕ, suc, List, [], ◌∷◌, ap, arith, get_or, inl, inr, length, map, refl, sym, ◌∙◌}
use Rattle.std.specs.Prelude.{Bool, true, false, cond, AllPairs, Some, filter}
use Rattle.std.specs.List.{AllByRecursion}
use Rattle.std.proofs.lemmas.List.Kept.{AllPairs-from_increasing}
use Rattle.std.proofs.lemmas.Bool.{eqb-true}
use Rattle.osgi_base.specs.declared.ids.ListenerId.{ListenerId}
use Rattle.osgi_listeners.specs.Rows.{AreInOrder, id_of, ids_of, is_listener, listeners_in, Listening, number_of, Row, row_at}
use Rattle.osgi_world.specs.Lists.{In}

-- the ids of the rows are above n
abbrev pub AreAbove : ℕ → List Row → Type 0
AreAbove n rows = AllByRecursion (λ row. n < id_of row) rows

-- they rise
abbrev pub Rise : List Row → Type 0
Rise [] = Unit {0}
Rise (row ∷ rest) = AreAbove (id_of row) rest × Rise rest

-- the same of ids
abbrev pub IdsAbove : ℕ → List ListenerId → Type 0
IdsAbove n ids = AllByRecursion (λ (id : ListenerId). n < id.0) ids

abbrev pub IdsRise : List ListenerId → Type 0
IdsRise [] = Unit {0}
IdsRise (id ∷ rest) = IdsAbove id.0 rest × IdsRise rest

abbrev pub Below : ℕ → ℕ → Type 0
Below m n = m < n

numbers_above : (n : ℕ) (rows : List Row) → ((k : ℕ) → k < length rows → n < get_or (map number_of (listeners_in rows)) k 0) → AreAbove n rows
numbers_above n [] above = tt
numbers_above n (row ∷ rest) above = (above 0 (omega arith), numbers_above n rest (λ k within. above (suc k) (omega (arith, within))))

same_length : (rows : List Row) → length (map number_of (listeners_in rows)) ≡ length rows
same_length [] = refl
same_length (row ∷ rest) = ap suc (same_length rest)

pairs_rise : (rows : List Row) → AllPairs Below (map number_of (listeners_in rows)) → Rise rows
pairs_rise [] pairs = tt
pairs_rise (row ∷ rest) pairs = (
  numbers_above (id_of row) rest (λ k within. pairs 0 (suc k) 0 (omega arith) (let same = same_length rest in omega (arith, within, same))),
  pairs_rise rest (λ i j d before within. pairs (suc i) (suc j) d (omega (arith, before)) (omega (arith, within))),
)

pub rows_rise : (l : Listening) → AreInOrder l → Rise l.rows
rows_rise l ordered = pairs_rise l.rows (AllPairs-from_increasing _ ordered.listeners.rising)

-- those of the rows that pass a test rise too
pub ids_above : (n : ℕ) (p : Row → Bool) (rows : List Row) → AreAbove n rows → IdsAbove n (ids_of (filter p rows))
ids_above n p [] above = tt
ids_above n p (row ∷ rest) above = go (p row) (ids_above n p rest above.1)
  where
    go : (b : Bool) → IdsAbove n (ids_of (filter p rest)) → IdsAbove n (ids_of (cond b (row ∷ filter p rest) (filter p rest)))
    go true others = (above.0, others)
    go false others = others

pub ids_rise : (p : Row → Bool) (rows : List Row) → Rise rows → IdsRise (ids_of (filter p rows))
ids_rise p [] rise = tt
ids_rise p (row ∷ rest) rise = go (p row) (ids_rise p rest rise.1)
  where
    go : (b : Bool) → IdsRise (ids_of (filter p rest)) → IdsRise (ids_of (cond b (row ∷ filter p rest) (filter p rest)))
    go true others = (ids_above (id_of row) p rest rise.0, others)
    go false others = others

-- the live listener of a row that passes is among them
pub is_among : (p : Row → Bool) (rows : List Row) (listener : ListenerId) (row : Row) → row_at listener rows ≡ Some row → p row ≡ true → In listener (ids_of (filter p rows))
is_among p [] listener row found passes = absurd (cc found)
is_among p (first ∷ rest) listener row found passes = go (is_listener listener first) refl found (λ is. is_among p rest listener row is passes)
  where
    more : (b : Bool) → In listener (ids_of (filter p rest)) → In listener (ids_of (cond b (first ∷ filter p rest) (filter p rest)))
    more true there = inr there
    more false there = there

    go : (b : Bool) → is_listener listener first ≡ b → cond b (Some first) (row_at listener rest) ≡ Some row → (row_at listener rest ≡ Some row → In listener (ids_of (filter p rest))) →
        In listener (ids_of (cond (p first) (first ∷ filter p rest) (filter p rest)))
    go true same is among =
        let it : first ≡ row = cc is in
        let own : first.listener.listener.0 ≡ listener.0 = eqb-true (id_of first) listener.0 same in
        let one : listener ≡ first.listener.listener = ap (λ (n : ℕ). record { 0 = n }) (sym own) in
        rw (ap p it ∙ passes) (inl one)
    go false same is among = more (p first) (among is)
