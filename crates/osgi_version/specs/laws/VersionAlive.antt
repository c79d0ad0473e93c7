-- Each state of the strict machine can be completed, and numbers that fit are fine.
use Rattle.std.proofs.Common.{◌≡◌, ◌≤◌, ℕ, Bool, true, false, ◌&&◌, Option, Some, None, List, [], ◌∷◌, ◌++◌, refl, ap, ◌∙◌, arith}
use Rattle.std.specs.Option.{IfSome, option_map}
use Rattle.std.proofs.lemmas.List.{append-nil}
use Rattle.std.proofs.lemmas.Grind.{common_steps}
use Rattle.osgi_version.specs.computed.Classes.{class_of}
use Rattle.osgi_version.specs.computed.Run.{run, advance}
use Rattle.osgi_version.specs.computed.VersionMachine.{more, next, step, is_fine, is_fine_number, finish}
use Rattle.osgi_version.specs.Versions.{Parts, SpellsVersion, NumbersFit, ReadsVersion, IsReadableVersion}
use Rattle.osgi_version.specs.laws.Capping.{cap, capped, free_next, run_capped}
use Rattle.osgi_version.specs.laws.Classes.{zero_digit}
use Rattle.osgi_version.specs.laws.Running.{run_strict, run_loose, run_fine}
use Rattle.osgi_version.specs.laws.VersionRuns.{spells_runs}
use Rattle.osgi_version.specs.laws.VersionSeen.{Seen, seen_fine, seen_next, seen_finish}
use Rattle.osgi_version.specs.declared.bytes.Class.{Class}
use Rattle.osgi_version.specs.declared.bytes.Class.TheVariants.{Digit, Dot, Blank, Letter}
use Rattle.osgi_version.specs.declared.version.TheConstants.{MAX_NUMBER}
use Rattle.osgi_version.specs.declared.version_state.VersionState.{VersionState}
use Rattle.osgi_version.specs.declared.version_state.VersionState.TheVariants.{Lead, Major, MinorDot, Minor, MicroDot, Micro, QualifierDot, Qualifier, Trail}

fine_more : (n b : ℕ) → is_fine_number (more n b) ≡ true → is_fine_number n ≡ true
fine_more n b h = grind (arith, common_steps)

first_true : (x y : Bool) → x && y ≡ true → x ≡ true
first_true true y h = refl
first_true false y h = h

last_more : (x : Bool) (n b : ℕ) → x && is_fine_number (more n b) ≡ true → x && is_fine_number n ≡ true
last_more true n b h = fine_more n b h
last_more false n b h = h

fine_back : (s : VersionState) (b : ℕ) (c : Class) → IfSome (next s b c) (λ t. is_fine t ≡ true → is_fine s ≡ true)
fine_back Lead b Blank = λ h. h
fine_back Lead b Digit = λ h. refl
fine_back (Major m) b Digit = fine_more m b
fine_back (Major m) b Dot = λ h. h
fine_back (Major m) b Blank = λ h. first_true _ _ (first_true _ _ h)
fine_back (MinorDot m) b Digit = first_true _ _
fine_back (Minor m i) b Digit = last_more _ i b
fine_back (Minor m i) b Dot = λ h. h
fine_back (Minor m i) b Blank = first_true _ _
fine_back (MicroDot m i) b Digit = first_true _ _
fine_back (Micro m i n) b Digit = last_more _ n b
fine_back (Micro m i n) b Dot = λ h. h
fine_back (Micro m i n) b Blank = λ h. h
fine_back (QualifierDot m i n) b Digit = λ h. h
fine_back (QualifierDot m i n) b Letter = λ h. h
fine_back (Qualifier m i n k) b Digit = λ h. h
fine_back (Qualifier m i n k) b Letter = λ h. h
fine_back (Qualifier m i n k) b Blank = λ h. h
fine_back (Trail m i n k w) b Blank = λ h. h
fine_back s b c = tt

fine_1 : (m : ℕ) (q : List ℕ) → is_fine_number m ≡ true → NumbersFit (record { major = m; minor = 0; micro = 0; qualifier = q })
fine_1 m q h = record { major = grind (arith, common_steps); minor = omega arith; micro = omega arith }

fine_2 : (m i : ℕ) (q : List ℕ) → is_fine_number m && is_fine_number i ≡ true → NumbersFit (record { major = m; minor = i; micro = 0; qualifier = q })
fine_2 m i q h = record { major = grind (arith, common_steps); minor = grind (arith, common_steps); micro = omega arith }

fine_3 : (m i n : ℕ) (q : List ℕ) → is_fine_number m && is_fine_number i && is_fine_number n ≡ true → NumbersFit (record { major = m; minor = i; micro = n; qualifier = q })
fine_3 m i n q h = record { major = grind (arith, common_steps); minor = grind (arith, common_steps); micro = grind (arith, common_steps) }

fine_fits : (text : List ℕ) (s : VersionState) → is_fine s ≡ true → IfSome (finish text s) NumbersFit
fine_fits text Lead h = record { major = omega arith; minor = omega arith; micro = omega arith }
fine_fits text (Major m) h = fine_1 m [] h
fine_fits text (Minor m i) h = fine_2 m i [] h
fine_fits text (Micro m i n) h = fine_3 m i n [] h
fine_fits text (Qualifier m i n k) h = fine_3 m i n _ h
fine_fits text (Trail m i n k w) h = fine_3 m i n _ h
fine_fits text s h = tt

cap_fits : (n : ℕ) → n ≤ MAX_NUMBER → cap n ≡ n
cap_fits n h = omega arith

fits_1 : (m : ℕ) → m ≤ MAX_NUMBER → is_fine_number m ≡ true
fits_1 m h = grind (arith, common_steps)

fits_2 : (m i : ℕ) → m ≤ MAX_NUMBER → i ≤ MAX_NUMBER → is_fine_number m && is_fine_number i ≡ true
fits_2 m i h j = rw (fits_1 m h) (fits_1 i j)

fits_3 : (m i n : ℕ) → m ≤ MAX_NUMBER → i ≤ MAX_NUMBER → n ≤ MAX_NUMBER → is_fine_number m && is_fine_number i && is_fine_number n ≡ true
fits_3 m i n h j k = rw (fits_1 m h) (rw (fits_1 i j) (fits_1 n k))

fits_fine : (text : List ℕ) (s : VersionState) → IfSome (finish text s) (λ v. NumbersFit v → is_fine s ≡ true)
fits_fine text Lead = λ h. refl
fits_fine text (Major m) = λ h. fits_1 m h.major
fits_fine text (Minor m i) = λ h. fits_2 m i h.major h.minor
fits_fine text (Micro m i n) = λ h. fits_3 m i n h.major h.minor h.micro
fits_fine text (Qualifier m i n k) = λ h. fits_3 m i n h.major h.minor h.micro
fits_fine text (Trail m i n k w) = λ h. fits_3 m i n h.major h.minor h.micro
fits_fine text s = tt

pub reads_of : (p : List ℕ) (s : VersionState) → Seen p s → is_fine s ≡ true → IfSome (finish p s) (ReadsVersion p)
reads_of p s h f = made p (finish p s) (seen_finish p s h) (fine_fits p s f)
  where
    made : (p : List ℕ) (o : Option Parts) → IfSome o (SpellsVersion p) → IfSome o NumbersFit → IfSome o (ReadsVersion p)
    made p None h f = tt
    made p (Some v) h f = record { spells = h; fits = f }

here : (p : List ℕ) (v : Parts) → ReadsVersion p v → (rest : List ℕ) × IsReadableVersion (p ++ rest)
here p v r = ([], rw append-nil (v, r))

with_zero : (p : List ℕ) (s t : VersionState) (v : Parts) → Seen p s → free_next s 48 Digit ≡ Some t → is_fine t ≡ true → finish (p ++ 48 ∷ []) t ≡ Some v → (rest : List ℕ) × IsReadableVersion (p ++ rest)
with_zero p s t v h e f g = (48 ∷ [], (v, rw g at (reads_of (p ++ 48 ∷ []) t (rw e at (seen_next p s 48 Digit zero_digit h)) f)))

-- one clause for each state: how it can be completed
alive_at : (p : List ℕ) (s : VersionState) → Seen p s → is_fine s ≡ true → (rest : List ℕ) × IsReadableVersion (p ++ rest)
alive_at p Lead h f = here p _ (reads_of p Lead h f)
alive_at p (Major m) h f = here p _ (reads_of p (Major m) h f)
alive_at p (MinorDot m) h f = with_zero p (MinorDot m) (Minor m 0) _ h refl (rw f refl) refl
alive_at p (Minor m i) h f = here p _ (reads_of p (Minor m i) h f)
alive_at p (MicroDot m i) h f = with_zero p (MicroDot m i) (Micro m i 0) _ h refl (rw f refl) refl
alive_at p (Micro m i n) h f = here p _ (reads_of p (Micro m i n) h f)
alive_at p (QualifierDot m i n) h f = with_zero p (QualifierDot m i n) (Qualifier m i n 1) _ h refl f refl
alive_at p (Qualifier m i n k) h f = here p _ (reads_of p (Qualifier m i n k) h f)
alive_at p (Trail m i n k w) h f = here p _ (reads_of p (Trail m i n k w) h f)

-- what was read where the strict machine is in a state
pub strict_seen : (p : List ℕ) (s : VersionState) → run (advance is_fine step true) Lead p ≡ Some s → Seen p s
strict_seen p s e = seen_fine p s (run_loose is_fine step true Lead s p e) (run_fine is_fine step Lead s p refl e)

pub alive : (p : List ℕ) (s : VersionState) → run (advance is_fine step true) Lead p ≡ Some s → (rest : List ℕ) × IsReadableVersion (p ++ rest)
alive p s e = alive_at p s (strict_seen p s e) (run_fine is_fine step Lead s p refl e)

-- where all numbers fit, the machine has them
fits_capped : (text : List ℕ) (s : VersionState) → IfSome (finish text s) (λ v. NumbersFit v → capped s ≡ s)
fits_capped text Lead = λ h. refl
fits_capped text (Major m) = λ h. ap Major (cap_fits m h.major)
fits_capped text (Minor m i) = λ h. rw (cap_fits m h.major) (rw (cap_fits i h.minor) refl)
fits_capped text (Micro m i n) = λ h. rw (cap_fits m h.major) (rw (cap_fits i h.minor) (rw (cap_fits n h.micro) refl))
fits_capped text (Qualifier m i n k) = λ h. rw (cap_fits m h.major) (rw (cap_fits i h.minor) (rw (cap_fits n h.micro) refl))
fits_capped text (Trail m i n k w) = λ h. rw (cap_fits m h.major) (rw (cap_fits i h.minor) (rw (cap_fits n h.micro) refl))
fits_capped text s = tt

pub reads_runs : (text : List ℕ) (v : Parts) → ReadsVersion text v → (s : VersionState) × (run (advance is_fine step true) Lead text ≡ Some s) × (finish text s ≡ Some v)
reads_runs text v h =
    let r = spells_runs text v h.spells in
    let reaches : run step Lead text ≡ Some r.state
    = run_capped Lead text ∙ ap (option_map capped) r.reaches ∙ ap Some ((rw r.finishes at (fits_capped text r.state)) h.fits) in
    (r.state, run_strict is_fine step (λ s b. fine_back s b (class_of b)) Lead r.state text reaches ((rw r.finishes at (fits_fine text r.state)) h.fits), r.finishes)
