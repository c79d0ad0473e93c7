-- The range machine is a reader.
use Rattle.std.proofs.Common.{◌≡◌, ◌⊎◌, inl, ℕ, Bool, true, false, ◌+◌, if◌then◌else◌, Option, Some, None, refl, ap, ◌∙◌}
use Rattle.std.specs.Option.{option_map, IfSome}
use Rattle.osgi_version.specs.Bytes.{IsDigit}
use Rattle.osgi_version.specs.computed.Classes.{class_of}
use Rattle.osgi_version.specs.computed.RangeMachine.{next_range, step_range, is_fine_range, may_end_range}
use Rattle.osgi_version.specs.Ranges.{IsSpelledRange, IsReadableRange}
use Rattle.osgi_version.specs.computed.Reader.{IsReader}
use Rattle.osgi_version.specs.computed.Run.{run, advance}
use Rattle.osgi_version.specs.computed.VersionMachine.{step, is_fine, may_end}
use Rattle.osgi_version.specs.Versions.{SpellsVersion, ReadsVersion}
use Rattle.osgi_version.specs.laws.VersionReader.{by_digit}
use Rattle.osgi_version.specs.declared.bytes.Class.{Class}
use Rattle.osgi_version.specs.declared.bytes.Class.TheVariants.{Digit, Blank, Comma, Open, Close}
use Rattle.osgi_version.specs.declared.version_state.VersionState.{VersionState}
use Rattle.osgi_version.specs.declared.version_state.VersionState.TheVariants.{Lead}
use Rattle.osgi_version.specs.declared.range_state.RangeState.{RangeState}
use Rattle.osgi_version.specs.declared.range_state.RangeState.TheVariants.{Before, Plain, Low, High, Closed}
use Rattle.osgi_version.proofs.RangeSeen.{range_finish}
use Rattle.osgi_version.proofs.RangeStrict.{strict_inner, loose_inner, strict_seen, loose_seen, same_step}
use Rattle.osgi_version.proofs.RangeRuns.{range_runs}
use Rattle.osgi_version.proofs.RangeAlive.{alive_at}

lifted : (f : VersionState → RangeState) (b : ℕ) (was : Bool) → ((u : VersionState) → is_fine_range (f u) ≡ is_fine u) → (o : Option VersionState) → IfSome o (λ t. was ≡ true → (is_fine t ≡ true) ⊎ IsDigit b) → IfSome (option_map f o) (λ t. was ≡ true → (is_fine_range t ≡ true) ⊎ IsDigit b)
lifted f b was same None h = tt
lifted f b was same (Some u) h = λ e. rw (same u) (h e)

at_once : (x : Bool) (t : RangeState) (b : ℕ) (was : Bool) → is_fine_range t ≡ true → IfSome (if x then Some t else None) (λ t. was ≡ true → (is_fine_range t ≡ true) ⊎ IsDigit b)
at_once true t b was e = λ h. inl e
at_once false t b was e = tt

by_digit_range : (s : RangeState) (b : ℕ) (c : Class) → class_of b ≡ c → IfSome (next_range step s b c) (λ t. is_fine_range s ≡ true → (is_fine_range t ≡ true) ⊎ IsDigit b)
by_digit_range (Before k) b Blank e = λ h. inl refl
by_digit_range (Before k) b Digit e = lifted Plain b true (λ u. refl) (step Lead b) (by_digit Lead b (class_of b) refl)
by_digit_range (Before k) b Open e = λ h. inl refl
by_digit_range (Before k) b c e = tt
by_digit_range (Plain v) b c e = lifted Plain b (is_fine v) (λ u. refl) (step v b) (by_digit v b (class_of b) refl)
by_digit_range (Low k n v) b Comma e = at_once (may_end v) (High k n 0 Lead) b (is_fine v) refl
by_digit_range (Low k n v) b c e = lifted (Low k (n + 1)) b (is_fine v) (λ u. refl) (step v b) (by_digit v b (class_of b) refl)
by_digit_range (High k n g v) b Close e = at_once (may_end v) (Closed k n g 0) b (is_fine v) refl
by_digit_range (High k n g v) b c e = lifted (High k n (g + 1)) b (is_fine v) (λ u. refl) (step v b) (by_digit v b (class_of b) refl)
by_digit_range (Closed k n g w) b Blank e = λ h. inl refl
by_digit_range (Closed k n g w) b c e = tt

pub range_reader : IsReader RangeState is_fine_range step_range may_end_range (Before 0) IsSpelledRange IsReadableRange
range_reader = record {
  spelled_runs = λ text h. range_runs step SpellsVersion loose_inner text h.0 h.1;
  end_spelled = λ text s e l. range_finish step SpellsVersion loose_inner text s (loose_seen text s e) l;
  readable_runs = λ text h. let r = range_runs (advance is_fine step true) ReadsVersion strict_inner text h.0 h.1 in (r.0, ap (λ f. run f (Before 0) text) same_step ∙ r.1);
  alive = λ p s e. alive_at p s (strict_seen p s e);
  by_digit = λ s b. by_digit_range s b (class_of b) refl;
  start_fine = refl;
}
