-- The slice `&xs[i..]` in two parts.
use Rattle.std.proofs.Common.{◌≡◌, ℕ, ◌+◌, ◌-◌, List, ◌++◌, length, take, drop, length-drop, sym, arith}
use Rattle.std.proofs.lemmas.List.{take_all, take-append-drop, drop-drop}

pub rest_of : (xs : List ℕ) (i n : ℕ) → drop i xs ≡ take n (take (length xs - i) (drop i xs)) ++ drop (i + n) xs
rest_of xs i n =
    rw (take_all (length xs - i) (drop i xs) (omega (arith, length-drop i xs)), ← drop-drop n i xs) (sym (take-append-drop n (drop i xs)))
