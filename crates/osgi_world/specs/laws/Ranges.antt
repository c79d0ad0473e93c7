-- A range is what it says, and the one of all versions contains each.
use Rattle.std.proofs.Common.{◌≡◌, ℕ, zero, suc, List, [], ◌∷◌, ap, refl, subst, arith}
use Rattle.std.specs.Prelude.{true, ◌&&◌, Option, None, Some}
use Rattle.std.specs.Cmp.{nat_cmp_is}
use Rattle.std.specs.Cmp.Lexicographic.{slice_cmp}
use Rattle.std.specs.Option.{option_map}
use Rattle.std.specs.Ordering.{nat_cmp, ordering_then}
use Rattle.std.specs.declared.cmp.Ordering.{Ordering}
use Rattle.std.specs.declared.cmp.Ordering.TheVariants.{Less, Equal, Greater}
use Rattle.std.proofs.lemmas.Option.{same_Some}
use Rattle.osgi_version.specs.Comparing.{same_parts}
use Rattle.osgi_version.specs.Ranges.{at_least_zero}
use Rattle.osgi_version.specs.RangeValues.{is_above, is_within, range_parts}
use Rattle.osgi_version.specs.Versions.{Parts}
use Rattle.osgi_version.specs.VersionValues.{parts}
use Rattle.osgi_version.specs.declared.range.VersionRange.{VersionRange}
use Rattle.osgi_version.specs.declared.version.Version.{Version}

-- ---- what a range says

same_high : (a b : Option Version) → option_map parts a ≡ option_map parts b → a ≡ b
same_high None None e = refl
same_high None (Some y) e = absurd (cc e)
same_high (Some x) None e = absurd (cc e)
same_high (Some x) (Some y) e = ap Some (same_parts x y (same_Some (parts x) (parts y) e))

pub same_range : (a b : VersionRange) → range_parts a ≡ range_parts b → a ≡ b
same_range a b e =
    let low : a.low ≡ b.low = same_parts a.low b.low (ap (λ r. r.low) e) in
    let high : a.high ≡ b.high = same_high a.high b.high (ap (λ r. r.high) e) in
    λ i. record { low = low i; low_in = (e i).low_in; high = high i; high_in = (e i).high_in }

-- ---- all versions

number_above : (n : ℕ) → is_above true (nat_cmp n 0) ≡ true
number_above zero = refl
number_above (suc n) = subst (λ order. is_above true order ≡ true) (nat_cmp_is (suc n) 0 Greater (omega arith)) refl

text_above : (text : List ℕ) → is_above true (slice_cmp nat_cmp text []) ≡ true
text_above [] = refl
text_above (b ∷ text) = refl

then_above : (first second : Ordering) → is_above true first ≡ true → is_above true second ≡ true → is_above true (ordering_then first second) ≡ true
then_above Less second e f = e
then_above Equal second e f = f
then_above Greater second e f = refl

pub all_within : (v : Parts) → is_within at_least_zero v ≡ true
all_within v =
    ap (λ above. above && true)
    (then_above _ _ (number_above v.major) (then_above _ _ (number_above v.minor) (then_above _ _ (number_above v.micro) (text_above v.qualifier))))
