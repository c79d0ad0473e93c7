-- A text has one reading.
use Rattle.std.proofs.Common.{◌≡◌, ℕ, Bool, true, false, List, length, Some, None, refl, ap, subst, ◌∙◌, sym, arith}
use Rattle.std.proofs.lemmas.Option.{same_Some}
use Rattle.osgi_version.specs.Faults.{IsFault}
use Rattle.osgi_version.specs.Ranges.{RangeParts, Opens, Closes, IsBounded, IsRangeOf, plain, bounded, IsSpelledRange, IsReadableRange}
use Rattle.osgi_version.specs.computed.Run.{advance}
use Rattle.osgi_version.specs.computed.VersionMachine.{step, is_fine, finish}
use Rattle.osgi_version.specs.Versions.{Parts, SpellsVersion, ReadsVersion}
use Rattle.osgi_version.specs.laws.VersionAlive.{reads_runs}
use Rattle.osgi_version.specs.declared.fault.VersionFault.{VersionFault}
use Rattle.osgi_version.specs.declared.fault.VersionFault.TheVariants.{NotVersion, TooBig}
use Rattle.osgi_version.specs.declared.range_state.RangeState.TheVariants.{Closed}
use Rattle.osgi_version.specs.laws.Cutting.{same_cut, heads}
use Rattle.osgi_version.proofs.RangeRuns.{IsNoRange, bounded_runs, before_runs}
use Rattle.osgi_version.proofs.RangeStrict.{strict_inner}

pub reads_one : (text : List ℕ) (v w : Parts) → ReadsVersion text v → ReadsVersion text w → v ≡ w
reads_one text v w h k =
    let a = reads_runs text v h in
    let b = reads_runs text w k in
    same_Some _ _ (sym a.2 ∙ (ap (λ s. finish text s) (same_Some _ _ (sym a.1 ∙ b.1)) ∙ b.2))

opens_one : (b : ℕ) (x y : Bool) → Opens b x → Opens b y → x ≡ y
opens_one b x y Opens.square Opens.square = refl
opens_one b x y Opens.round Opens.round = refl

closes_one : (b : ℕ) (x y : Bool) → Closes b x → Closes b y → x ≡ y
closes_one b x y Closes.square Closes.square = refl
closes_one b x y Closes.round Closes.round = refl

same_range : (a b x y : Parts) (i j m n : Bool) → a ≡ b → i ≡ j → x ≡ y → m ≡ n → ◌≡◌ {A = RangeParts} (record { low = a; low_in = i; high = Some x; high_in = m }) (record { low = b; low_in = j; high = Some y; high_in = n })
same_range a b x y i j m n e f g h = rw e (rw f (rw g (rw h refl)))

plain_bounded : (text : List ℕ) (v low high : Parts) (low_in high_in : Bool) → ReadsVersion text v → IsBounded ReadsVersion text low low_in high high_in → ⊥
plain_bounded text v low high low_in high_in h k =
    let u = strict_inner.runs text v h in
    let s = before_runs (advance is_fine step true) strict_inner.within strict_inner.lead_blank 0 text u.0 u.1 u.2 in
    subst (λ x. IsNoRange x) (same_Some _ _ (sym s.1 ∙ bounded_runs (advance is_fine step true) ReadsVersion strict_inner text low high low_in high_in k)) s.3

lengths : (a b c d x y z w : ℕ) → Closed a b c d ≡ Closed x y z w → (a ≡ x) × (b ≡ y) × (c ≡ z)
lengths a b c d x y z w e = (cc, cc, cc)

bounded_one : (text : List ℕ) (a b x y : Parts) (i j m n : Bool) → IsBounded ReadsVersion text a i x m → IsBounded ReadsVersion text b j y n → ◌≡◌ {A = RangeParts} (record { low = a; low_in = i; high = Some x; high_in = m }) (record { low = b; low_in = j; high = Some y; high_in = n })
bounded_one text a b x y i j m n h k =
    let l = lengths _ _ _ _ _ _ _ _ (same_Some _ _ (sym (bounded_runs (advance is_fine step true) ReadsVersion strict_inner text a x i m h) ∙ bounded_runs (advance is_fine step true) ReadsVersion strict_inner text b y j n k)) in
    let c1 = same_cut h.lead _ k.lead _ (sym h.parts ∙ k.parts) (let z : length h.lead ≡ length k.lead = omega (arith, l.0) in z) in
    let d1 = heads h.open_byte k.open_byte _ _ c1.1 in
    let c2 = same_cut h.low_text _ k.low_text _ d1.1 (let z : length h.low_text ≡ length k.low_text = omega (arith, l.1) in z) in
    let d2 = heads 44 44 _ _ c2.1 in
    let c3 = same_cut h.high_text _ k.high_text _ d2.1 (let z : length h.high_text ≡ length k.high_text = omega (arith, l.2) in z) in
    let d3 = heads h.close_byte k.close_byte _ _ c3.1 in
    same_range a b x y i j m n
    (reads_one h.low_text a b h.low_reads (subst (λ t. ReadsVersion t b) (sym c2.0) k.low_reads))
    (opens_one h.open_byte i j h.opens (subst (λ z. Opens z j) (sym d1.0) k.opens))
    (reads_one h.high_text x y h.high_reads (subst (λ t. ReadsVersion t y) (sym c3.0) k.high_reads))
    (closes_one h.close_byte m n h.closes (subst (λ z. Closes z n) (sym d3.0) k.closes))

pub range_one : (text : List ℕ) (r s : RangeParts) → IsRangeOf ReadsVersion text r → IsRangeOf ReadsVersion text s → r ≡ s
range_one text r s (plain {v = v} h) (plain {v = w} k) = ap (λ x. record { low = x; low_in = true; high = None; high_in = false }) (reads_one text v w h k)
range_one text r s (plain {v = v} h) (bounded {low = low} {high = high} {low_in = i} {high_in = m} k) = absurd (plain_bounded text v low high i m h k)
range_one text r s (bounded {low = low} {high = high} {low_in = i} {high_in = m} k) (plain {v = v} h) = absurd (plain_bounded text v low high i m h k)
range_one text r s (bounded {low = a} {high = x} {low_in = i} {high_in = m} h) (bounded {low = b} {high = y} {low_in = j} {high_in = n} k) = bounded_one text a b x y i j m n h k

spelled_of : (text : List ℕ) (r : RangeParts) → IsRangeOf ReadsVersion text r → IsRangeOf SpellsVersion text r
spelled_of text r (plain h) = plain h.spells
spelled_of text r (bounded h) = bounded (record {
  lead = h.lead;
  open_byte = h.open_byte;
  low_text = h.low_text;
  high_text = h.high_text;
  close_byte = h.close_byte;
  tail = h.tail;
  parts = h.parts;
  lead_blanks = h.lead_blanks;
  opens = h.opens;
  low_reads = h.low_reads.spells;
  high_reads = h.high_reads.spells;
  closes = h.closes;
  tail_blanks = h.tail_blanks;
})

pub no_range : (text : List ℕ) (fault : VersionFault) (r : RangeParts) → IsFault IsSpelledRange IsReadableRange text fault → IsRangeOf ReadsVersion text r → ⊥
no_range text (NotVersion at) r f h = f.0 (r, spelled_of text r h)
no_range text (TooBig at) r f h = f.1 (r, h)
