-- The version machine without a limit of its numbers, and what it has to do with the one that has it.
use Rattle.std.proofs.Common.{◌≡◌, ◌+◌, ◌-◌, ◌*◌, min, ℕ, true, ◌&&◌, Option, Some, None, List, [], ◌∷◌, refl, ap, ◌∙◌, sym, arith}
use Rattle.std.specs.Option.{option_and_then, option_map}
use Rattle.std.proofs.lemmas.Bool.{and_parts}
use Rattle.std.proofs.lemmas.Grind.{common_steps}
use Rattle.std.proofs.lemmas.Option.{same_Some}
use Rattle.osgi_version.specs.computed.Classes.{class_of}
use Rattle.osgi_version.specs.computed.Run.{run}
use Rattle.osgi_version.specs.computed.VersionMachine.{is_fine, is_fine_number, may_end, more, next, next_by, step}
use Rattle.osgi_version.specs.declared.bytes.Class.{Class}
use Rattle.osgi_version.specs.declared.bytes.Class.TheVariants.{Digit, Dot, Blank, Letter}
use Rattle.osgi_version.specs.declared.version.TheConstants.{MAX_NUMBER}
use Rattle.osgi_version.specs.declared.version_state.VersionState.{VersionState}
use Rattle.osgi_version.specs.declared.version_state.VersionState.TheVariants.{Lead, Major, MinorDot, Minor, MicroDot, Micro, QualifierDot, Qualifier, Trail}

-- a number with one more digit
abbrev pub grown : ℕ → ℕ → ℕ
grown n b = 10 * n + (b - 48)

abbrev pub free_next : VersionState → ℕ → Class → Option VersionState
free_next s b c = next_by grown s b c

abbrev pub free_step : VersionState → ℕ → Option VersionState
free_step s b = free_next s b (class_of b)

abbrev pub cap : ℕ → ℕ
cap n = min n (MAX_NUMBER + 1)

abbrev pub capped : VersionState → VersionState
capped Lead = Lead
capped (Major m) = Major (cap m)
capped (MinorDot m) = MinorDot (cap m)
capped (Minor m i) = Minor (cap m) (cap i)
capped (MicroDot m i) = MicroDot (cap m) (cap i)
capped (Micro m i n) = Micro (cap m) (cap i) (cap n)
capped (QualifierDot m i n) = QualifierDot (cap m) (cap i) (cap n)
capped (Qualifier m i n k) = Qualifier (cap m) (cap i) (cap n) k
capped (Trail m i n k w) = Trail (cap m) (cap i) (cap n) k w

more_cap : (n b : ℕ) → more (cap n) b ≡ cap (grown n b)
more_cap n b = omega arith

capped_next : (s : VersionState) (b : ℕ) (c : Class) → next (capped s) b c ≡ option_map capped (free_next s b c)
capped_next Lead b Blank = refl
capped_next Lead b Digit = refl
capped_next (Major m) b Digit = ap (λ x. Some (Major x)) (more_cap m b)
capped_next (Major m) b Dot = refl
capped_next (Major m) b Blank = refl
capped_next (MinorDot m) b Digit = refl
capped_next (Minor m i) b Digit = ap (λ x. Some (Minor (cap m) x)) (more_cap i b)
capped_next (Minor m i) b Dot = refl
capped_next (Minor m i) b Blank = refl
capped_next (MicroDot m i) b Digit = refl
capped_next (Micro m i n) b Digit = ap (λ x. Some (Micro (cap m) (cap i) x)) (more_cap n b)
capped_next (Micro m i n) b Dot = refl
capped_next (Micro m i n) b Blank = refl
capped_next (QualifierDot m i n) b Digit = refl
capped_next (QualifierDot m i n) b Letter = refl
capped_next (Qualifier m i n k) b Digit = refl
capped_next (Qualifier m i n k) b Letter = refl
capped_next (Qualifier m i n k) b Blank = refl
capped_next (Trail m i n k w) b Blank = refl
capped_next s b c = refl

-- the limit may be kept at each step or put on at the end
pub run_capped : (s : VersionState) (bs : List ℕ) → run step (capped s) bs ≡ option_map capped (run free_step s bs)
run_capped s [] = refl
run_capped s (b ∷ bs) =
    rw (capped_next s b (class_of b))
    (elim (free_next s b (class_of b)) as (λ o. option_and_then (λ t. run step t bs) (option_map capped o) ≡ option_map capped (option_and_then (λ t. run free_step t bs) o))
    [ None ↦ refl | Some t ↦ run_capped t bs ])

pub may_end_capped : (s : VersionState) → may_end (capped s) ≡ may_end s
may_end_capped (MinorDot m) = refl
may_end_capped (MicroDot m i) = refl
may_end_capped (QualifierDot m i n) = refl
may_end_capped s = refl

-- a number that fits is as it was
fits : (n : ℕ) → is_fine_number (cap n) ≡ true → cap n ≡ n
fits n fine = grind (arith, common_steps)

record Fit (m i n : ℕ) : Type 0 where
  major : cap m ≡ m
  minor : cap i ≡ i
  micro : cap n ≡ n

fit : (m i n : ℕ) → is_fine_number (cap m) && is_fine_number (cap i) && is_fine_number (cap n) ≡ true → Fit m i n
fit m i n fine =
    let first = and_parts (is_fine_number (cap m) && is_fine_number (cap i)) (is_fine_number (cap n)) fine in
    let both = and_parts (is_fine_number (cap m)) (is_fine_number (cap i)) first.0 in
    record { major = fits m both.0; minor = fits i both.1; micro = fits n first.1 }

pub fine_capped : (s : VersionState) → is_fine (capped s) ≡ true → capped s ≡ s
fine_capped Lead fine = refl
fine_capped (Major m) fine = ap Major (fits m fine)
fine_capped (MinorDot m) fine = ap MinorDot (fits m fine)
fine_capped (Minor m i) fine =
    let both = and_parts (is_fine_number (cap m)) (is_fine_number (cap i)) fine in
    rw (fits m both.0) (rw (fits i both.1) refl)
fine_capped (MicroDot m i) fine =
    let both = and_parts (is_fine_number (cap m)) (is_fine_number (cap i)) fine in
    rw (fits m both.0) (rw (fits i both.1) refl)
fine_capped (Micro m i n) fine = let all = fit m i n fine in rw all.major (rw all.minor (rw all.micro refl))
fine_capped (QualifierDot m i n) fine = let all = fit m i n fine in rw all.major (rw all.minor (rw all.micro refl))
fine_capped (Qualifier m i n k) fine = let all = fit m i n fine in rw all.major (rw all.minor (rw all.micro refl))
fine_capped (Trail m i n k w) fine = let all = fit m i n fine in rw all.major (rw all.minor (rw all.micro refl))

-- where the machine without a limit is after a run of the other
pub record Reached (p : List ℕ) (s : VersionState) : Type 0 where
  pub free : VersionState
  pub runs : run free_step Lead p ≡ Some free
  pub is : s ≡ capped free

unmapped : (p : List ℕ) (s : VersionState) (o : Option VersionState) → run free_step Lead p ≡ o → option_map capped o ≡ Some s → Reached p s
unmapped p s None runs e = absurd (cc e)
unmapped p s (Some free) runs e = record { free = free; runs = runs; is = sym (same_Some _ _ e) }

pub reached : (p : List ℕ) (s : VersionState) → run step Lead p ≡ Some s → Reached p s
reached p s e = unmapped p s (run free_step Lead p) refl (sym (run_capped Lead p) ∙ e)
