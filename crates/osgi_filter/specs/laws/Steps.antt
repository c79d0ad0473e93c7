-- One level of reading.
use Rattle.std.proofs.Common.{◌≡◌, ℕ, zero, suc, ◌-◌, List, Err, length, refl, arith}
use Rattle.osgi_filter.specs.computed.Reader.{filter_at, level_at}

pub filter_at_none : (bytes : List ℕ) → filter_at 0 bytes ≡ Err (length bytes)
unfolding filter_at
filter_at_none bytes = refl

pub filter_at_more : (n : ℕ) (bytes : List ℕ) → filter_at (suc n) bytes ≡ level_at (filter_at n) bytes
unfolding filter_at
filter_at_more n bytes = refl

pub filter_at_some : (n : ℕ) (bytes : List ℕ) → (n ≡ 0 → ⊥) → filter_at n bytes ≡ level_at (filter_at (n - 1)) bytes
filter_at_some zero bytes h = absurd (h refl)
filter_at_some (suc n) bytes h = let e : suc n - 1 ≡ n = omega arith in rw e (filter_at_more n bytes)
