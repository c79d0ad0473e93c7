-- The version machine is a reader.
use Rattle.std.proofs.Common.{◌≡◌, ◌⊎◌, inl, inr, true, ℕ, Option, Some, None, List, refl, ap, ◌∙◌, sym}
use Rattle.std.specs.Option.{IfSome, is_some, option_map}
use Rattle.osgi_version.specs.Bytes.{IsDigit}
use Rattle.osgi_version.specs.computed.Classes.{class_of}
use Rattle.osgi_version.specs.computed.Reader.{IsReader}
use Rattle.osgi_version.specs.computed.Run.{run, advance}
use Rattle.osgi_version.specs.computed.VersionMachine.{next, step, is_fine, may_end, finish}
use Rattle.osgi_version.specs.Versions.{Parts, SpellsVersion, ReadsVersion, IsReadableVersion, IsSpelledVersion}
use Rattle.osgi_version.specs.laws.Capping.{capped, may_end_capped, run_capped}
use Rattle.osgi_version.specs.laws.Classes.{digit_of}
use Rattle.osgi_version.specs.laws.Running.{run_fine}
use Rattle.osgi_version.specs.laws.VersionAlive.{alive, reads_runs, reads_of, strict_seen}
use Rattle.osgi_version.specs.laws.VersionRuns.{spells_runs}
use Rattle.osgi_version.specs.laws.VersionSeen.{has_seen, seen_finish}
use Rattle.osgi_version.specs.declared.bytes.Class.{Class}
use Rattle.osgi_version.specs.declared.bytes.Class.TheVariants.{Digit, Dot, Blank, Letter}
use Rattle.osgi_version.specs.declared.version_state.VersionState.{VersionState}
use Rattle.osgi_version.specs.declared.version_state.VersionState.TheVariants.{Lead, Major, MinorDot, Minor, MicroDot, Micro, QualifierDot, Qualifier, Trail}

pub by_digit : (s : VersionState) (b : ℕ) (c : Class) → class_of b ≡ c → IfSome (next s b c) (λ t. is_fine s ≡ true → (is_fine t ≡ true) ⊎ IsDigit b)
by_digit Lead b Blank e = λ h. inl refl
by_digit (Major m) b Dot e = λ h. inl h
by_digit (Major m) b Blank e = λ h. inl (rw h refl)
by_digit (Minor m i) b Dot e = λ h. inl h
by_digit (Minor m i) b Blank e = λ h. inl (rw h refl)
by_digit (Micro m i n) b Dot e = λ h. inl h
by_digit (Micro m i n) b Blank e = λ h. inl h
by_digit (QualifierDot m i n) b Letter e = λ h. inl h
by_digit (Qualifier m i n k) b Letter e = λ h. inl h
by_digit (Qualifier m i n k) b Blank e = λ h. inl h
by_digit (Trail m i n k w) b Blank e = λ h. inl h
by_digit s b Digit e = either (next s b Digit)
  where
    either : (o : Option VersionState) → IfSome o (λ t. is_fine s ≡ true → (is_fine t ≡ true) ⊎ IsDigit b)
    either None = tt
    either (Some t) = λ h. inr (digit_of b e)
by_digit s b c e = tt

pub finish_last : (text : List ℕ) (s : VersionState) (v : Parts) → finish text s ≡ Some v → may_end s ≡ true
finish_last text s v e = last_of s (ap is_some e)
  where
    last_of : (s : VersionState) → is_some (finish text s) ≡ true → may_end s ≡ true
    last_of (MinorDot m) h = h
    last_of (MicroDot m i) h = h
    last_of (QualifierDot m i n) h = h
    last_of s h = refl

some_finish : (P : Parts → Type 0) (text : List ℕ) (s : VersionState) → IfSome (finish text s) P → may_end s ≡ true → (v : Parts) × (finish text s ≡ Some v) × P v
some_finish P text Lead h e = (_, refl, h)
some_finish P text (Major m) h e = (_, refl, h)
some_finish P text (MinorDot m) h e = absurd (cc)
some_finish P text (Minor m i) h e = (_, refl, h)
some_finish P text (MicroDot m i) h e = absurd (cc)
some_finish P text (Micro m i n) h e = (_, refl, h)
some_finish P text (QualifierDot m i n) h e = absurd (cc)
some_finish P text (Qualifier m i n k) h e = (_, refl, h)
some_finish P text (Trail m i n k w) h e = (_, refl, h)

pub accepted : (text : List ℕ) (s : VersionState) → run (advance is_fine step true) Lead text ≡ Some s → may_end s ≡ true → (v : Parts) × (finish text s ≡ Some v) × ReadsVersion text v
accepted text s e l = some_finish (ReadsVersion text) text s (reads_of text s (strict_seen text s e) (run_fine is_fine step Lead s text refl e)) l

spelled_runs : (text : List ℕ) (v : Parts) → SpellsVersion text v → (s : VersionState) × (run step Lead text ≡ Some s) × (may_end s ≡ true)
spelled_runs text v h =
    let r = spells_runs text v h in
    (capped r.state, run_capped Lead text ∙ ap (option_map capped) r.reaches, may_end_capped r.state ∙ finish_last text r.state v r.finishes)

end_spelled : (text : List ℕ) (s : VersionState) → run step Lead text ≡ Some s → may_end s ≡ true → IsSpelledVersion text
end_spelled text s e l =
    let has = has_seen text s e in
    let r = some_finish (SpellsVersion text) text has.free (seen_finish text has.free has.seen) (sym (may_end_capped has.free) ∙ ap may_end (sym has.is) ∙ l) in
    (r.0, r.2)

pub version_reader : IsReader VersionState is_fine step may_end Lead IsSpelledVersion IsReadableVersion
version_reader = record {
  spelled_runs = λ text h. spelled_runs text h.0 h.1;
  end_spelled = end_spelled;
  readable_runs = λ text h. let r = reads_runs text h.0 h.1 in (r.0, r.1);
  alive = alive;
  by_digit = λ s b. by_digit s b (class_of b) refl;
  start_fine = refl;
}
