-- Each state of the strict range machine can be completed.
use Rattle.std.proofs.Common.{◌≡◌, ℕ, true, false, List, [], ◌∷◌, ◌++◌, refl, ap, ◌∙◌, sym, append_assoc, arith}
use Rattle.std.proofs.lemmas.List.{append-nil}
use Rattle.osgi_version.specs.Ranges.{Closes, plain, bounded, IsReadableRange}
use Rattle.osgi_version.specs.computed.Run.{advance}
use Rattle.osgi_version.specs.computed.VersionMachine.{step, is_fine}
use Rattle.osgi_version.specs.Versions.{ReadsVersion, blank}
use Rattle.osgi_version.specs.laws.Classes.{opens_of, open_is}
use Rattle.osgi_version.proofs.RangeSeen.{RangeSeen}
use Rattle.osgi_version.specs.laws.VersionAlive.{alive}
use Rattle.osgi_version.specs.declared.range_state.RangeState.{RangeState}
use Rattle.osgi_version.specs.declared.range_state.RangeState.TheVariants.{Before, Plain, Low, High, Closed}
use Rattle.osgi_version.proofs.RangeSeen.{joined, range_finish}
use Rattle.osgi_version.proofs.RangeStrict.{strict_inner}

blank_version : ReadsVersion [] (record { major = 0; minor = 0; micro = 0; qualifier = [] })
blank_version = record { spells = blank tt; fits = record { major = omega arith; minor = omega arith; micro = omega arith } }

here : (p : List ℕ) → IsReadableRange p → (rest : List ℕ) × IsReadableRange (p ++ rest)
here p h = ([], rw append-nil h)

longer : (p f t r z : List ℕ) → p ≡ f ++ t → p ++ (r ++ z) ≡ f ++ ((t ++ r) ++ z)
longer p f t r z e = ap (λ x. x ++ (r ++ z)) e ∙ (append_assoc f t (r ++ z) ∙ ap (λ x. f ++ x) (sym (append_assoc t r z)))

-- one clause for each state: how it can be completed
pub alive_at : (p : List ℕ) (s : RangeState) → RangeSeen (advance is_fine step true) p s → (rest : List ℕ) × IsReadableRange (p ++ rest)
alive_at p (Before k) h = here p (range_finish (advance is_fine step true) ReadsVersion strict_inner p (Before k) h refl)
alive_at p (Plain v) h = let a = alive p v h in (a.0, (_, plain a.1.1))
alive_at p (Low k n v) h =
    let a = alive h.text v h.reads in
    let o = opens_of h.open_byte (open_is h.open_byte h.opens) in (
      a.0 ++ 44 ∷ 41 ∷ [],
      (
        _,
        bounded {low = a.1.0} {high = _} {low_in = o.0} {high_in = false} (record {
          lead = h.lead;
          open_byte = h.open_byte;
          low_text = h.text ++ a.0;
          high_text = [];
          close_byte = 41;
          tail = [];
          parts = longer p h.lead (h.open_byte ∷ h.text) a.0 (44 ∷ 41 ∷ []) h.parts;
          lead_blanks = h.blanks;
          opens = o.1;
          low_reads = a.1.1;
          high_reads = blank_version;
          closes = Closes.round;
          tail_blanks = tt;
        }),
      ),
    )
alive_at p (High k n g v) h =
    let a = alive h.text v h.reads in
    let b = h.before in
    let o = opens_of b.open_byte (open_is b.open_byte b.opens) in
    let low = strict_inner.accept b.text h.low b.reads h.low_last in (
      a.0 ++ 41 ∷ [],
      (
        _,
        bounded {low = low.0} {high = a.1.0} {low_in = o.0} {high_in = false} (record {
          lead = b.lead;
          open_byte = b.open_byte;
          low_text = b.text;
          high_text = h.text ++ a.0;
          close_byte = 41;
          tail = [];
          parts = joined (advance is_fine step true) b.lead b.text (h.text ++ a.0) [] b.open_byte 44 41 (p ++ (a.0 ++ 41 ∷ [])) (h.prefix ++ 44 ∷ (h.text ++ a.0)) h.prefix
              (longer p h.prefix (44 ∷ h.text) a.0 (41 ∷ []) h.parts ∙ sym (append_assoc h.prefix (44 ∷ (h.text ++ a.0)) (41 ∷ []))) refl b.parts;
          lead_blanks = b.blanks;
          opens = o.1;
          low_reads = low.1;
          high_reads = a.1.1;
          closes = Closes.round;
          tail_blanks = tt;
        }),
      ),
    )
alive_at p (Closed k n g w) h = here p (range_finish (advance is_fine step true) ReadsVersion strict_inner p (Closed k n g w) h refl)
