-- The parts of a range text, by what the last state counts.
use Rattle.std.proofs.Common.{◌≡◌, ℕ, Bool, true, List, ◌∷◌, ◌++◌, take, drop, get_or, nat_eq, refl, ap, subst, ◌∙◌, sym, Some}
use Rattle.osgi_version.specs.computed.RangeCut.{IsRangeCut}
use Rattle.osgi_version.specs.computed.RangeMachine.{step_range, is_fine_range, may_end_range}
use Rattle.osgi_version.specs.Ranges.{Opens, Closes, bounded}
use Rattle.osgi_version.specs.computed.Run.{run, advance}
use Rattle.osgi_version.specs.computed.VersionMachine.{step, is_fine}
use Rattle.osgi_version.specs.Versions.{IsReadableVersion}
use Rattle.osgi_version.specs.laws.Classes.{opens_of, closes_of, open_is, close_is}
use Rattle.osgi_version.proofs.RangeSeen.{RangeSeen, IsBehindSeen}
use Rattle.osgi_version.specs.declared.range_state.RangeState.{RangeState}
use Rattle.osgi_version.specs.declared.range_state.RangeState.TheVariants.{Before, Plain, Low, High, Closed}
use Rattle.osgi_version.specs.laws.Cutting.{fronts}
use Rattle.osgi_version.proofs.RangeSeen.{joined}
use Rattle.osgi_version.proofs.RangeStrict.{strict_inner, strict_seen}

square_open : (b : ℕ) (x : Bool) → Opens b x → nat_eq b 91 ≡ x
square_open b x Opens.square = refl
square_open b x Opens.round = refl

square_close : (b : ℕ) (x : Bool) → Closes b x → nat_eq b 93 ≡ x
square_close b x Closes.square = refl
square_close b x Closes.round = refl

pub cut_at : (text : List ℕ) (k n h w : ℕ) → run (advance is_fine_range step_range true) (Before 0) text ≡ Some (Closed k n h w)
    → (b1 b2 low b3 b4 high b5 : List ℕ) → b1 ≡ drop k text → b2 ≡ drop 1 b1 → low ≡ take n b2 → b3 ≡ drop n b2 → b4 ≡ drop 1 b3 → high ≡ take h b4 → b5 ≡ drop h b4
    → IsRangeCut text (nat_eq (get_or b1 0 0) 91) low high (nat_eq (get_or b5 0 0) 93)
cut_at text k n h w e b1 b2 low b3 b4 high b5 e1 e2 el e3 e4 eh e5 =
    let s : IsBehindSeen (advance is_fine step true) text k n h w = strict_seen text (Closed k n h w) e in
    let t = s.before in
    let u = t.before in
    let o = opens_of u.open_byte (open_is u.open_byte u.opens) in
    let c = closes_of s.close_byte (close_is s.close_byte s.closes) in
    let is : text ≡ u.lead ++ u.open_byte ∷ (u.text ++ 44 ∷ (t.text ++ s.close_byte ∷ s.tail)) = joined (advance is_fine step true) u.lead u.text t.text s.tail u.open_byte 44 s.close_byte text s.prefix t.prefix s.parts t.parts u.parts in
    let d1 : b1 ≡ u.open_byte ∷ (u.text ++ 44 ∷ (t.text ++ s.close_byte ∷ s.tail)) = e1 ∙ (fronts u.lead _ text k is u.long).1 in
    let d2 : b2 ≡ u.text ++ 44 ∷ (t.text ++ s.close_byte ∷ s.tail) = e2 ∙ ap (λ x. drop 1 x) d1 in
    let f2 = fronts u.text (44 ∷ (t.text ++ s.close_byte ∷ s.tail)) b2 n d2 u.size in
    let d4 : b4 ≡ t.text ++ s.close_byte ∷ s.tail = e4 ∙ ap (λ x. drop 1 x) (e3 ∙ f2.1) in
    let f4 = fronts t.text (s.close_byte ∷ s.tail) b4 h d4 t.size in
    let is_low : u.text ≡ low = sym (el ∙ f2.0) in
    let is_high : t.text ≡ high = sym (eh ∙ f4.0) in
    let opens : Opens u.open_byte (nat_eq (get_or b1 0 0) 91) = subst (λ x. Opens u.open_byte x) (sym (ap (λ x. nat_eq (get_or x 0 0) 91) d1 ∙ square_open u.open_byte o.0 o.1)) o.1 in
    let closes : Closes s.close_byte (nat_eq (get_or b5 0 0) 93) = subst (λ x. Closes s.close_byte x) (sym (ap (λ x. nat_eq (get_or x 0 0) 93) (e5 ∙ f4.1) ∙ square_close s.close_byte c.0 c.1)) c.1 in
    record {
      low_reads = subst (λ x. IsReadableVersion x) is_low (strict_inner.accept u.text t.low u.reads t.low_last);
      high_reads = subst (λ x. IsReadableVersion x) is_high (strict_inner.accept t.text s.high t.reads s.high_last);
      whole = λ a b ra rb. bounded (record {
        lead = u.lead;
        open_byte = u.open_byte;
        low_text = low;
        high_text = high;
        close_byte = s.close_byte;
        tail = s.tail;
        parts = is ∙ ap (λ x. u.lead ++ u.open_byte ∷ x) (ap (λ x. x ++ (44 ∷ (t.text ++ s.close_byte ∷ s.tail))) is_low ∙ ap (λ x. low ++ 44 ∷ (x ++ s.close_byte ∷ s.tail)) is_high);
        lead_blanks = u.blanks;
        opens = opens;
        low_reads = ra;
        high_reads = rb;
        closes = closes;
        tail_blanks = s.blanks;
      });
    }

pub plain_readable : (text : List ℕ) (s : RangeState) → run (advance is_fine_range step_range true) (Before 0) text ≡ Some s → may_end_range s ≡ true → ((k n h w : ℕ) → s ≡ Closed k n h w → ⊥) → IsReadableVersion text
plain_readable text s e l other = go s (strict_seen text s e) l other
  where
    go : (s : RangeState) → RangeSeen (advance is_fine step true) text s → may_end_range s ≡ true → ((k n h w : ℕ) → s ≡ Closed k n h w → ⊥) → IsReadableVersion text
    go (Before k) h l other = strict_inner.accept text _ h.2 refl
    go (Plain v) h l other = strict_inner.accept text v h l
    go (Low k n v) h l other = absurd (cc)
    go (High k n g v) h l other = absurd (cc)
    go (Closed k n g w) h l other = absurd (other k n g w refl)
