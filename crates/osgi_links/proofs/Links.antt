-- A node that is taken out of the chain, and one that is put back.
use Rattle.std.proofs.Common.{◌≡◌, ℕ, ◌+◌, ◌<◌, true, false, ◌⊎◌, inl, inr, List, [], ◌∷◌, refl, sym, ap, ◌∙◌, subst, arith}
use Rattle.std.proofs.lemmas.Bool.{cases_eq, cases_lt, cases_order, both_ways, eq-eqb, eqb-true, eqb-false, ne_eqb, or_parts, or_cases, or_from, or_left, or_right}
use Rattle.osgi_links.specs.Held.{has}
use Rattle.osgi_links.specs.computed.Seen.{IsNext, IsPrev, IsLinked, Remembers}

pub has-top : (i : ℕ) (out : List ℕ) → has (i ∷ out) i ≡ true
has-top i out = or_left _ _ (eq-eqb i i refl)

pub has-more : (i k : ℕ) (out : List ℕ) → has out k ≡ true → has (i ∷ out) k ≡ true
has-more i k out h = or_right _ _ h

pub has-split : (i k : ℕ) (out : List ℕ) → has (i ∷ out) k ≡ true → (k ≡ i) ⊎ (has out k ≡ true)
has-split i k out h = elim (or_cases _ _ h) [ inl e ↦ inl (eqb-true k i e) | inr e ↦ inr e ]

pub has-none : (i k : ℕ) (out : List ℕ) → has (i ∷ out) k ≡ false → (k ≡ i → ⊥) × (has out k ≡ false)
has-none i k out h = let p = or_parts _ _ h in (eqb-false k i p.0, p.1)

pub has-other : (i k : ℕ) (out : List ℕ) → (k ≡ i → ⊥) → has out k ≡ false → has (i ∷ out) k ≡ false
has-other i k out n h = or_from _ _ (ne_eqb k i n) h

next_along : (out : List ℕ) (p q r : ℕ) → q ≡ r → IsNext out p r → IsNext out p q
next_along out p q r e h = let P : ℕ → Type 0 = IsNext out p in subst P (sym e) h

prev_along : (out : List ℕ) (p q r : ℕ) → q ≡ r → IsPrev out p r → IsPrev out p q
prev_along out p q r e h = let P : ℕ → Type 0 = IsPrev out p in subst P (sym e) h

-- the links of nodes on the stack stay, so what they say stays
pub remembers_same : (nx pv nx' pv' : ℕ → ℕ) (out : List ℕ) → ((k : ℕ) → has out k ≡ true → (nx' k ≡ nx k) × (pv' k ≡ pv k)) → Remembers nx pv out → Remembers nx' pv' out
remembers_same nx pv nx' pv' [] same r = tt
remembers_same nx pv nx' pv' (i ∷ out) same r =
    let s = same i (has-top i out) in (
      r.0,
      (
        next_along out i (nx' i) (nx i) s.0 r.1.0,
        (
          prev_along out i (pv' i) (pv i) s.1 r.1.1.0,
          remembers_same nx pv nx' pv' out (λ k h. same k (has-more i k out h)) r.1.1.1,
        ),
      ),
    )

module _ (nx pv nx' pv' : ℕ → ℕ) (count : ℕ) (out : List ℕ) (i : ℕ) where
  module _
      (linked : IsLinked nx pv count out) (inside : i + 1 < count) (first : 0 < i) (is_in : has out i ≡ false)
      (joins : nx' (pv i) ≡ nx i) (keeps : (k : ℕ) → (k ≡ pv i → ⊥) → nx' k ≡ nx k)
      (joined : pv' (nx i) ≡ pv i) (kept : (k : ℕ) → (k ≡ nx i → ⊥) → pv' k ≡ pv k)
    where
      here : IsNext out i (nx i)
      here = (linked i (omega (arith, inside)) is_in).0 inside

      there : IsPrev out i (pv i)
      there = (linked i (omega (arith, inside)) is_in).1 first

      out_next : (p : ℕ) → p + 1 < count → has (i ∷ out) p ≡ false → IsNext (i ∷ out) p (nx' p)
      out_next p lt h =
          let o = has-none i p out h in let old = (linked p (omega (arith, lt)) o.1).0 lt in
          elim (cases_eq p (pv i)) [
            | inl e ↦ next_along (i ∷ out) p (nx' p) (nx i) (ap nx' e ∙ joins) (record {
              above = omega (arith, e, there.below, here.above);
              stays = has-other i (nx i) out (λ same. omega (arith, same, here.above)) here.stays;
              skips = λ k more less. elim (cases_order k i) [
                | inl same ↦ let P : ℕ → Type 0 = λ x. has (i ∷ out) x ≡ true in subst P (sym same) (has-top i out)
                | inr (inl below) ↦ has-more i k out (there.skips k (omega (arith, e, more)) below)
                | inr (inr above) ↦ has-more i k out (here.skips k above less)
              ];
            })
            | inr n ↦ next_along (i ∷ out) p (nx' p) (nx p) (keeps p n) (record {
              above = old.above;
              stays = has-other i (nx p) out (λ same. elim (cases_lt p (pv i)) [
                | inl below ↦ both_ways (has out (pv i)) there.stays (old.skips (pv i) below (omega (arith, same, there.below)))
                | inr above ↦ both_ways (has out p) o.1 (there.skips p (omega (arith, above, n)) (omega (arith, same, old.above)))
              ]) old.stays;
              skips = λ k more less. has-more i k out (old.skips k more less);
            })
          ]

      out_prev : (p : ℕ) → p < count → has (i ∷ out) p ≡ false → 0 < p → IsPrev (i ∷ out) p (pv' p)
      out_prev p lt h pos =
          let o = has-none i p out h in let old = (linked p lt o.1).1 pos in
          elim (cases_eq p (nx i)) [
            | inl e ↦ prev_along (i ∷ out) p (pv' p) (pv i) (ap pv' e ∙ joined) (record {
              below = omega (arith, e, there.below, here.above);
              stays = has-other i (pv i) out (λ same. omega (arith, same, there.below)) there.stays;
              skips = λ k more less. elim (cases_order k i) [
                | inl same ↦ let P : ℕ → Type 0 = λ x. has (i ∷ out) x ≡ true in subst P (sym same) (has-top i out)
                | inr (inl below) ↦ has-more i k out (there.skips k more below)
                | inr (inr above) ↦ has-more i k out (here.skips k above (omega (arith, e, less)))
              ];
            })
            | inr n ↦ prev_along (i ∷ out) p (pv' p) (pv p) (kept p n) (record {
              below = old.below;
              stays = has-other i (pv p) out (λ same. elim (cases_lt (nx i) p) [
                | inl above ↦ both_ways (has out (nx i)) here.stays (old.skips (nx i) (omega (arith, same, here.above)) above)
                | inr below ↦ both_ways (has out p) o.1 (here.skips p (omega (arith, same, old.below)) (omega (arith, below, n)))
              ]) old.stays;
              skips = λ k more less. has-more i k out (old.skips k more less);
            })
          ]

      -- the chain once the node is out
      pub taken_out : IsLinked nx' pv' count (i ∷ out)
      taken_out p lt h = (λ up. out_next p up h, out_prev p lt h)

      -- the stack with the node on top
      pub stacked : Remembers nx pv out → Remembers nx' pv' (i ∷ out)
      stacked r = (
        is_in,
        (
          next_along out i (nx' i) (nx i) (keeps i (λ e. omega (arith, e, there.below))) here,
          (
            prev_along out i (pv' i) (pv i) (kept i (λ e. omega (arith, e, here.above))) there,
            remembers_same nx pv nx' pv' out (λ k h. (
              keeps k (λ e. both_ways (has out (pv i)) there.stays (let P : ℕ → Type 0 = λ x. has out x ≡ true in subst P e h)),
              kept k (λ e. both_ways (has out (nx i)) here.stays (let P : ℕ → Type 0 = λ x. has out x ≡ true in subst P e h)),
            )) r,
          ),
        ),
      )

  module _
      (linked : IsLinked nx pv count (i ∷ out)) (remembered : Remembers nx pv (i ∷ out))
      (joins : nx' (pv i) ≡ i) (keeps : (k : ℕ) → (k ≡ pv i → ⊥) → nx' k ≡ nx k)
      (joined : pv' (nx i) ≡ i) (kept : (k : ℕ) → (k ≡ nx i → ⊥) → pv' k ≡ pv k)
    where
      behind : IsNext out i (nx i)
      behind = remembered.1.0

      before : IsPrev out i (pv i)
      before = remembered.1.1.0

      in_next : (p : ℕ) → p + 1 < count → has out p ≡ false → IsNext out p (nx' p)
      in_next p lt h =
          elim (cases_eq p i) [
            | inl e ↦ next_along out p (nx' p) (nx i) (ap nx' e ∙ keeps i (λ s. omega (arith, s, before.below)))
                (let P : ℕ → Type 0 = λ x. IsNext out x (nx i) in subst P (sym e) behind)
            | inr n ↦ let old = (linked p (omega (arith, lt)) (has-other i p out n h)).0 lt in elim (cases_eq p (pv i)) [
              | inl e ↦ next_along out p (nx' p) i (ap nx' e ∙ joins) (record {
                above = omega (arith, e, before.below);
                stays = remembered.0;
                skips = λ k more less. before.skips k (omega (arith, e, more)) less;
              })
              | inr m ↦ next_along out p (nx' p) (nx p) (keeps p m) (record {
                above = old.above;
                stays = (has-none i (nx p) out old.stays).1;
                skips = λ k more less. elim (has-split i k out (old.skips k more less)) [
                  | inl same ↦ elim (cases_lt p (pv i)) [
                    | inl low ↦ absurd (both_ways (has (i ∷ out) (pv i)) (has-other i (pv i) out (λ s. omega (arith, s, before.below)) before.stays)
                        (old.skips (pv i) low (omega (arith, same, less, before.below))))
                    | inr high ↦ absurd (both_ways (has out p) h (before.skips p (omega (arith, high, m)) (omega (arith, same, more))))
                  ]
                  | inr still ↦ still
                ];
              })
            ]
          ]

      in_prev : (p : ℕ) → p < count → has out p ≡ false → 0 < p → IsPrev out p (pv' p)
      in_prev p lt h pos =
          elim (cases_eq p i) [
            | inl e ↦ prev_along out p (pv' p) (pv i) (ap pv' e ∙ kept i (λ s. omega (arith, s, behind.above)))
                (let P : ℕ → Type 0 = λ x. IsPrev out x (pv i) in subst P (sym e) before)
            | inr n ↦ let old = (linked p lt (has-other i p out n h)).1 pos in elim (cases_eq p (nx i)) [
              | inl e ↦ prev_along out p (pv' p) i (ap pv' e ∙ joined) (record {
                below = omega (arith, e, behind.above);
                stays = remembered.0;
                skips = λ k more less. behind.skips k more (omega (arith, e, less));
              })
              | inr m ↦ prev_along out p (pv' p) (pv p) (kept p m) (record {
                below = old.below;
                stays = (has-none i (pv p) out old.stays).1;
                skips = λ k more less. elim (has-split i k out (old.skips k more less)) [
                  | inl same ↦ elim (cases_lt (nx i) p) [
                    | inl high ↦ absurd (both_ways (has (i ∷ out) (nx i)) (has-other i (nx i) out (λ s. omega (arith, s, behind.above)) behind.stays)
                        (old.skips (nx i) (omega (arith, same, more, behind.above)) high))
                    | inr low ↦ absurd (both_ways (has out p) h (behind.skips p (omega (arith, same, less)) (omega (arith, low, m))))
                  ]
                  | inr still ↦ still
                ];
              })
            ]
          ]

      -- the chain once the node is back
      pub put_back : IsLinked nx' pv' count out
      put_back p lt h = (λ up. in_next p up h, in_prev p lt h)

      -- the stack without it
      pub unstacked : Remembers nx' pv' out
      unstacked = remembers_same nx pv nx' pv' out (λ k h. (
        keeps k (λ e. both_ways (has out (pv i)) before.stays (let P : ℕ → Type 0 = λ x. has out x ≡ true in subst P e h)),
        kept k (λ e. both_ways (has out (nx i)) behind.stays (let P : ℕ → Type 0 = λ x. has out x ≡ true in subst P e h)),
      )) remembered.1.1.1
