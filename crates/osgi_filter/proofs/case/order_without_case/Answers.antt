-- A text with a byte more comes later.
use Rattle.std.proofs.Common.{◌≡◌, ◌<◌, ℕ, List, [], ◌∷◌, length, drop, ap, sym, ◌∙◌, arith, drop-cons}
use Rattle.std.specs.Cmp.Lexicographic.{slice_cmp}
use Rattle.std.specs.Ordering.{nat_cmp}
use Rattle.std.specs.Str.{str_to_ascii_lowercase}
use Rattle.std.specs.declared.cmp.Ordering.TheVariants.{Greater}
use Rattle.osgi_filter.proofs.case.order_without_case.Goals as goal

longer : (xs ys : List ℕ) (i : ℕ) → i < length xs → length ys ≡ 0 → Greater ≡ slice_cmp nat_cmp (str_to_ascii_lowercase (drop i xs)) (str_to_ascii_lowercase ys)
longer xs [] i lt e = sym (ap (λ (l : List ℕ). slice_cmp nat_cmp (str_to_ascii_lowercase l) []) (drop-cons xs i 0 lt))
longer xs (y ∷ ys) i lt e = absurd (omega (arith, e))

pub returns-in_default : goal.returns-in_default
returns-in_default c =
    record { order = longer c.args.a.now c.loop-x.right.now c.loop-x.x-index c.loop-x-test.true c.in_default.ensures.cases ∙ c.loop-x.invariant }
