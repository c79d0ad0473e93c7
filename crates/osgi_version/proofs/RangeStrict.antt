-- The strict range machine is the range machine over the strict version machine.
use Rattle.std.proofs.Common.{◌≡◌, ℕ, Bool, true, false, not, ◌&&◌, ◌+◌, if◌then◌else◌, Option, Some, None, List, [], refl, ap}
use Rattle.std.specs.Option.{option_and_then, option_map}
use Rattle.osgi_version.specs.computed.Classes.{class_of}
use Rattle.osgi_version.specs.computed.RangeMachine.{next_range, range_by, step_range, is_fine_range}
use Rattle.osgi_version.specs.computed.Run.{run, advance}
use Rattle.osgi_version.specs.computed.VersionMachine.{next, step, is_fine, may_end}
use Rattle.osgi_version.specs.Versions.{SpellsVersion, ReadsVersion}
use Rattle.osgi_version.specs.laws.Classes.{blank_class}
use Rattle.osgi_version.proofs.RangeSeen.{RangeSeen, range_seen_next}
use Rattle.osgi_version.specs.laws.Running.{run_keeps, advance_was}
use Rattle.osgi_version.specs.laws.VersionAlive.{reads_runs}
use Rattle.osgi_version.specs.laws.VersionReader.{version_reader, accepted, finish_last}
use Rattle.osgi_version.specs.declared.bytes.Class.{Class}
use Rattle.osgi_version.specs.declared.bytes.Class.TheVariants.{Digit, Blank, Comma, Open, Close}
use Rattle.osgi_version.specs.declared.version_state.VersionState.{VersionState}
use Rattle.osgi_version.specs.declared.version_state.VersionState.TheVariants.{Lead}
use Rattle.osgi_version.specs.declared.range_state.RangeState.{RangeState}
use Rattle.osgi_version.specs.declared.range_state.RangeState.TheVariants.{Before, Plain, Low, High, Closed}
use Rattle.osgi_version.proofs.RangeSeen.{IsInner}

pub loose_inner : IsInner step SpellsVersion
loose_inner = record {
  within = λ v u b e. e;
  lead_blank = λ b e. ap (next Lead b) (blank_class b e);
  accept = λ text v e l. version_reader.end_spelled text v e l;
  runs = λ text q h. version_reader.spelled_runs text (q, h);
}

pub strict_inner : IsInner (advance is_fine step true) ReadsVersion
strict_inner = record {
  within = λ v u b e. (advance_was is_fine step true v u b e).0;
  lead_blank = λ b e. rw (ap (next Lead b) (blank_class b e)) refl;
  accept = λ text v e l. let r = accepted text v e l in (r.0, r.2);
  runs = λ text q h. let r = reads_runs text q h in (r.0, r.1, finish_last text r.0 q r.2);
}

-- the strict range machine is the range machine over the strict version machine
mapped : (f : VersionState → RangeState) → ((u : VersionState) → is_fine_range (f u) ≡ is_fine u) → (o : Option VersionState) → option_and_then (λ t. if true && not (is_fine_range t) then None else Some t) (option_map f o) ≡ option_map f (option_and_then (λ u. if true && not (is_fine u) then None else Some u) o)
mapped f same None = refl
mapped f same (Some u) = rw (same u) (go (is_fine u))
  where
    go : (x : Bool) → (if true && not x then None else Some (f u)) ≡ option_map f (if true && not x then None else Some u)
    go true = refl
    go false = refl

kept : (x : Bool) (t : RangeState) → is_fine_range t ≡ true → option_and_then (λ t. if true && not (is_fine_range t) then None else Some t) (if x then Some t else None) ≡ (if x then Some t else None)
kept true t e = rw e refl
kept false t e = refl

same_strict : (s : RangeState) (b : ℕ) (c : Class) → class_of b ≡ c → option_and_then (λ t. if true && not (is_fine_range t) then None else Some t) (next_range step s b c) ≡ next_range (advance is_fine step true) s b c
same_strict (Before k) b Blank e = refl
same_strict (Before k) b Digit e = mapped Plain (λ u. refl) (step Lead b)
same_strict (Before k) b Open e = refl
same_strict (Before k) b c e = refl
same_strict (Plain v) b c e = mapped Plain (λ u. refl) (step v b)
same_strict (Low k n v) b Comma e = kept (may_end v) (High k n 0 Lead) refl
same_strict (Low k n v) b c e = mapped (Low k (n + 1)) (λ u. refl) (step v b)
same_strict (High k n h v) b Close e = kept (may_end v) (Closed k n h 0) refl
same_strict (High k n h v) b c e = mapped (High k n (h + 1)) (λ u. refl) (step v b)
same_strict (Closed k n h w) b Blank e = refl
same_strict (Closed k n h w) b c e = refl

pub strict_seen : (p : List ℕ) (s : RangeState) → run (advance is_fine_range step_range true) (Before 0) p ≡ Some s → RangeSeen (advance is_fine step true) p s
strict_seen p s e = run_keeps (advance is_fine_range step_range true) (RangeSeen (advance is_fine step true))
    (λ q t b h. rw (same_strict t b (class_of b) refl) (range_seen_next (advance is_fine step true) strict_inner.lead_blank q t b (class_of b) refl h))
    [] p (Before 0) s (tt, refl, refl) e

pub loose_seen : (p : List ℕ) (s : RangeState) → run step_range (Before 0) p ≡ Some s → RangeSeen step p s
loose_seen p s e = run_keeps step_range (RangeSeen step) (λ q t b h. range_seen_next step loose_inner.lead_blank q t b (class_of b) refl h) [] p (Before 0) s (tt, refl, refl) e

pub same_step : advance is_fine_range step_range true ≡ range_by (advance is_fine step true)
same_step = λ i s b. same_strict s b (class_of b) refl i
