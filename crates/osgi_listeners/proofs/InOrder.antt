-- Sights in order: of each two neighbours the first comes before the second, and so of any two.
use Rattle.std.proofs.Common.{◌≡◌, ◌≢◌, ◌⊎◌, inl, inr, ◌+◌, ◌-◌, ◌<◌, ◌≤◌, ℕ, List, length, map, get_or, sym, subst, arith}
use Rattle.std.specs.Prelude.{AllPairs}
use Rattle.std.proofs.lemmas.Bool.{cases_eq, cases_lt}
use Rattle.std.proofs.lemmas.List.{get_or-map, get_or_default, length-map}
use Rattle.osgi_listeners.specs.Sights.{sight_of, sights_of}
use Rattle.osgi_listeners.specs.declared.sight.Sight as declared
use Rattle.osgi_listeners.proofs.Orders.{any_of}
use Rattle.osgi_ops.specs.Listening.{ComesBefore}
use Rattle.osgi_ops.specs.Moments.{Sight}

-- the sights before this place stand in order
abbrev pub Stand : List declared.Sight → ℕ → Type 0
Stand sights at = (i j : ℕ) (d : declared.Sight) → i < j → j < at → j < length sights → ComesBefore (sight_of (get_or sights i d)) (sight_of (get_or sights j d))

between : (a b c : Sight) → ComesBefore a b → ComesBefore b c → ComesBefore a c
between a b c (inl x) (inl y) = inl (omega (arith, x, y))
between a b c (inl x) (inr y) = let p = y.0 in inl (omega (arith, x, p))
between a b c (inr x) (inl y) = let p = x.0 in inl (omega (arith, p, y))
between a b c (inr x) (inr y) = let p = x.0 in let q = y.0 in let m = x.1 in let n = y.1 in inr (omega (arith, p, q), omega (arith, m, n))

pub stand_more : (sights : List declared.Sight) (at : ℕ) (e : declared.Sight) → 0 < at → at < length sights → ComesBefore (sight_of (get_or sights (at - 1) e)) (sight_of (get_or sights at e)) → Stand sights at → Stand sights (at + 1)
stand_more sights at e some within first so i j d less below inside = by (cases_lt j at)
  where
    next : ComesBefore (sight_of (get_or sights (at - 1) d)) (sight_of (get_or sights at d))
    next =
        let low : get_or sights (at - 1) e ≡ get_or sights (at - 1) d = get_or_default sights (at - 1) e d (omega (arith, within)) in
        let high : get_or sights at e ≡ get_or sights at d = get_or_default sights at e d within in
        subst (λ (p : declared.Sight × declared.Sight). ComesBefore (sight_of p.0) (sight_of p.1)) (λ k. (low k, high k)) first

    last : (i ≡ at - 1) ⊎ (i ≢ at - 1) → i < at → ComesBefore (sight_of (get_or sights i d)) (sight_of (get_or sights at d))
    last (inl is) low = subst (λ n. ComesBefore (sight_of (get_or sights n d)) (sight_of (get_or sights at d))) (sym is) next
    last (inr differ) low =
        between (sight_of (get_or sights i d)) (sight_of (get_or sights (at - 1) d)) (sight_of (get_or sights at d)) (so i (at - 1) d (omega (arith, low, differ)) (omega (arith, some)) (omega (arith, within))) next

    by : (j < at) ⊎ (at ≤ j) → ComesBefore (sight_of (get_or sights i d)) (sight_of (get_or sights j d))
    by (inl before) = so i j d less before inside
    by (inr not_before) =
        let same : at ≡ j = omega (arith, not_before, below) in
        subst (λ n. ComesBefore (sight_of (get_or sights i d)) (sight_of (get_or sights n d))) same (last (cases_eq i (at - 1)) (omega (arith, less, same)))

pub stand_all : (sights : List declared.Sight) (at : ℕ) → length sights ≤ at → Stand sights at → AllPairs ComesBefore (sights_of sights)
stand_all sights at all so i j d less within =
    let inside : j < length sights = subst (λ n. j < n) (length-map sights sight_of) within in
    let e = any_of sights j inside in
    let low : get_or (map sight_of sights) i d ≡ sight_of (get_or sights i e) = get_or-map sight_of sights i e d (omega (arith, less, inside)) in
    let high : get_or (map sight_of sights) j d ≡ sight_of (get_or sights j e) = get_or-map sight_of sights j e d inside in
    subst (λ (p : Sight × Sight). ComesBefore p.0 p.1) (λ k. (sym low k, sym high k)) (so i j e less (omega (arith, inside, all)) inside)

pub neighbours : (sights : List declared.Sight) (at : ℕ) (d : declared.Sight) → 0 < at → at < length sights → AllPairs ComesBefore (sights_of sights) → ComesBefore (sight_of (get_or sights (at - 1) d)) (sight_of (get_or sights at d))
neighbours sights at d some within pairs =
    let low : get_or (map sight_of sights) (at - 1) (sight_of d) ≡ sight_of (get_or sights (at - 1) d) = get_or-map sight_of sights (at - 1) d (sight_of d) (omega (arith, within)) in
    let high : get_or (map sight_of sights) at (sight_of d) ≡ sight_of (get_or sights at d) = get_or-map sight_of sights at d (sight_of d) within in
    subst (λ (p : Sight × Sight). ComesBefore p.0 p.1) (λ k. (low k, high k)) (pairs (at - 1) at (sight_of d) (omega (arith, some)) (subst (λ n. at < n) (sym (length-map sights sight_of)) within))
