-- Digits as bytes of one kind, and as what a numeral is made of.
use Rattle.std.proofs.Common.{◌≡◌, ◌-◌, ◌<◌, ℕ, List, [], ◌∷◌, ◌++◌, arith}
use Rattle.std.specs.Char.{digit_value}
use Rattle.std.specs.Str.Parse.{AllDigits}
use Rattle.std.proofs.lemmas.Grind.{common_steps}
use Rattle.osgi_version.specs.Bytes.{Each, IsDigit}

pub digit_is : (b : ℕ) → IsDigit b → digit_value b ≡ b - 48
digit_is b e = grind (arith, common_steps)

pub digit_below : (b : ℕ) → IsDigit b → digit_value b < 10
digit_below b e = grind (arith, common_steps)

is_digit : (b : ℕ) → digit_value b < 10 → IsDigit b
is_digit b below = grind (arith, common_steps)

pub digits_push : (ds : List ℕ) (b : ℕ) → AllDigits 10 ds → digit_value b < 10 → AllDigits 10 (ds ++ b ∷ [])
digits_push [] b all below = (below, tt)
digits_push (d ∷ ds) b all below = (all.0, digits_push ds b all.1 below)

pub each_digit : (ds : List ℕ) → AllDigits 10 ds → Each IsDigit ds
each_digit [] all = tt
each_digit (d ∷ ds) all = (is_digit d all.0, each_digit ds all.1)
