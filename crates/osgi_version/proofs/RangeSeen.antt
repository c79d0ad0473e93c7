-- What was read where the range machine is in a state, over any step of the version machine; so what it accepts is a range.
use Rattle.std.proofs.Common.{◌≡◌, ◌+◌, ℕ, Bool, true, false, if◌then◌else◌, Option, Some, None, List, [], ◌∷◌, ◌++◌, length, refl, ap, ◌∙◌, append_assoc, arith, length-append}
use Rattle.std.specs.Option.{option_map, IfSome}
use Rattle.osgi_version.specs.Bytes.{Each, IsBlank}
use Rattle.osgi_version.specs.computed.Classes.{class_of}
use Rattle.osgi_version.specs.computed.RangeMachine.{next_range, may_end_range}
use Rattle.osgi_version.specs.Ranges.{RangeParts, IsRangeOf, plain, bounded}
use Rattle.osgi_version.specs.computed.Run.{run}
use Rattle.osgi_version.specs.computed.VersionMachine.{step, may_end}
use Rattle.osgi_version.specs.Versions.{Parts}
use Rattle.osgi_version.specs.laws.Classes.{blank_of, close_is, closes_of, comma_is, open_is, opens_of}
use Rattle.osgi_version.specs.laws.Running.{each_push, run_then}
use Rattle.osgi_version.specs.declared.bytes.Class.{Class}
use Rattle.osgi_version.specs.declared.bytes.Class.TheVariants.{Digit, Blank, Comma, Open, Close}
use Rattle.osgi_version.specs.declared.version_state.VersionState.{VersionState}
use Rattle.osgi_version.specs.declared.version_state.VersionState.TheVariants.{Lead}
use Rattle.osgi_version.specs.declared.range_state.RangeState.{RangeState}
use Rattle.osgi_version.specs.declared.range_state.RangeState.TheVariants.{Before, Plain, Low, High, Closed}
use Rattle.osgi_version.specs.laws.Cutting.{push_parts}

-- the version below, by a step `inner` and the texts `Version`
pub record IsInner (inner : VersionState → ℕ → Option VersionState) (Version : List ℕ → Parts → Type 0) : Type 0 where
  pub within : (v u : VersionState) (b : ℕ) → inner v b ≡ Some u → step v b ≡ Some u
  pub lead_blank : (b : ℕ) → IsBlank b → inner Lead b ≡ Some Lead
  pub accept : (text : List ℕ) (v : VersionState) → run inner Lead text ≡ Some v → may_end v ≡ true → (q : Parts) × Version text q
  pub runs : (text : List ℕ) (q : Parts) → Version text q → (v : VersionState) × (run inner Lead text ≡ Some v) × (may_end v ≡ true)

module _ (inner : VersionState → ℕ → Option VersionState) where
  pub record IsLowSeen (p : List ℕ) (k n : ℕ) (v : VersionState) : Type 0 where
    pub lead : List ℕ
    pub open_byte : ℕ
    pub text : List ℕ
    pub parts : p ≡ lead ++ open_byte ∷ text
    pub long : length lead ≡ k
    pub size : length text ≡ n
    pub blanks : Each IsBlank lead
    pub opens : class_of open_byte ≡ Open
    pub reads : run inner Lead text ≡ Some v

  pub record IsHighSeen (p : List ℕ) (k n h : ℕ) (v : VersionState) : Type 0 where
    pub prefix : List ℕ
    pub text : List ℕ
    pub low : VersionState
    pub parts : p ≡ prefix ++ 44 ∷ text
    pub before : IsLowSeen prefix k n low
    pub low_last : may_end low ≡ true
    pub size : length text ≡ h
    pub reads : run inner Lead text ≡ Some v

  pub record IsBehindSeen (p : List ℕ) (k n h w : ℕ) : Type 0 where
    pub prefix : List ℕ
    pub close_byte : ℕ
    pub tail : List ℕ
    pub high : VersionState
    pub parts : p ≡ prefix ++ close_byte ∷ tail
    pub before : IsHighSeen prefix k n h high
    pub high_last : may_end high ≡ true
    pub closes : class_of close_byte ≡ Close
    pub size : length tail ≡ w
    pub blanks : Each IsBlank tail

  abbrev pub RangeSeen : List ℕ → RangeState → Type 0
  RangeSeen p (Before k) = Each IsBlank p × (length p ≡ k) × (run inner Lead p ≡ Some Lead)
  RangeSeen p (Plain v) = run inner Lead p ≡ Some v
  RangeSeen p (Low k n v) = IsLowSeen p k n v
  RangeSeen p (High k n h v) = IsHighSeen p k n h v
  RangeSeen p (Closed k n h w) = IsBehindSeen p k n h w

  length_push : (p : List ℕ) (b k : ℕ) → length p ≡ k → length (p ++ b ∷ []) ≡ k + 1
  length_push p b k e = omega (arith, length-append p (b ∷ []), e)

  -- a byte that the version below takes
  pushed : (text : List ℕ) (v : VersionState) (b : ℕ) (f : VersionState → RangeState) (Q : RangeState → Type 0) → run inner Lead text ≡ Some v → ((u : VersionState) → run inner Lead (text ++ b ∷ []) ≡ Some u → Q (f u)) → IfSome (option_map f (inner v b)) Q
  pushed text v b f Q e made = go (inner v b) refl
    where
      go : (o : Option VersionState) → inner v b ≡ o → IfSome (option_map f o) Q
      go None is = tt
      go (Some u) is = made u (run_then inner Lead v text (b ∷ []) (Some u) e (rw is refl))

  low_push : (p : List ℕ) (k n : ℕ) (v : VersionState) (b : ℕ) → IsLowSeen p k n v → IfSome (option_map (Low k (n + 1)) (inner v b)) (RangeSeen (p ++ b ∷ []))
  low_push p k n v b h = pushed h.text v b (Low k (n + 1)) (RangeSeen (p ++ b ∷ [])) h.reads (λ u e.
      record { lead = h.lead; open_byte = h.open_byte; text = h.text ++ b ∷ []; parts = push_parts p h.lead (h.open_byte ∷ h.text) b h.parts; long = h.long; size = length_push h.text b n h.size; blanks = h.blanks; opens = h.opens; reads = e })

  high_push : (p : List ℕ) (k n h : ℕ) (v : VersionState) (b : ℕ) → IsHighSeen p k n h v → IfSome (option_map (High k n (h + 1)) (inner v b)) (RangeSeen (p ++ b ∷ []))
  high_push p k n h v b s = pushed s.text v b (High k n (h + 1)) (RangeSeen (p ++ b ∷ [])) s.reads (λ u e.
      record { prefix = s.prefix; text = s.text ++ b ∷ []; low = s.low; parts = push_parts p s.prefix (44 ∷ s.text) b s.parts; before = s.before; low_last = s.low_last; size = length_push s.text b h s.size; reads = e })

  chosen : (x : Bool) (t : RangeState) (Q : RangeState → Type 0) → (x ≡ true → Q t) → IfSome (if x then Some t else None) Q
  chosen true t Q h = h refl
  chosen false t Q h = tt

  pub range_seen_next : ((b : ℕ) → IsBlank b → inner Lead b ≡ Some Lead) → (p : List ℕ) (s : RangeState) (b : ℕ) (c : Class) → class_of b ≡ c → RangeSeen p s → IfSome (next_range inner s b c) (RangeSeen (p ++ b ∷ []))
  range_seen_next lead_blank p (Before k) b Blank e h = (each_push IsBlank p b h.0 (blank_of b e), length_push p b k h.1, run_then inner Lead Lead p (b ∷ []) (Some Lead) h.2 (rw (lead_blank b (blank_of b e)) refl))
  range_seen_next lead_blank p (Before k) b Digit e h = pushed p Lead b Plain (RangeSeen (p ++ b ∷ [])) h.2 (λ u e'. e')
  range_seen_next lead_blank p (Before k) b Open e h = record { lead = p; open_byte = b; text = []; parts = refl; long = h.1; size = refl; blanks = h.0; opens = e; reads = refl }
  range_seen_next lead_blank p (Plain v) b c e h = pushed p v b Plain (RangeSeen (p ++ b ∷ [])) h (λ u e'. e')
  range_seen_next lead_blank p (Low k n v) b Comma e h = chosen (may_end v) (High k n 0 Lead) (RangeSeen (p ++ b ∷ [])) (λ l.
      record { prefix = p; text = []; low = v; parts = ap (λ x. p ++ x ∷ []) (comma_is b e); before = h; low_last = l; size = refl; reads = refl })
  range_seen_next lead_blank p (Low k n v) b c e h = low_push p k n v b h
  range_seen_next lead_blank p (High k n g v) b Close e h = chosen (may_end v) (Closed k n g 0) (RangeSeen (p ++ b ∷ [])) (λ l.
      record { prefix = p; close_byte = b; tail = []; high = v; parts = refl; before = h; high_last = l; closes = e; size = refl; blanks = tt })
  range_seen_next lead_blank p (High k n g v) b c e h = high_push p k n g v b h
  range_seen_next lead_blank p (Closed k n g w) b Blank e h = record { prefix = h.prefix; close_byte = h.close_byte; tail = h.tail ++ b ∷ []; high = h.high; parts = push_parts p h.prefix (h.close_byte ∷ h.tail) b h.parts; before = h.before; high_last = h.high_last; closes = h.closes; size = length_push h.tail b w h.size; blanks = each_push IsBlank h.tail b h.blanks (blank_of b e) }
  range_seen_next lead_blank p s b c e h = tt

  pub joined : (lead low high tail : List ℕ) (o m c : ℕ) (p f g : List ℕ) → p ≡ f ++ c ∷ tail → f ≡ g ++ m ∷ high → g ≡ lead ++ o ∷ low → p ≡ lead ++ o ∷ (low ++ m ∷ (high ++ c ∷ tail))
  joined lead low high tail o m c p f g e1 e2 e3 =
      e1 ∙ (ap (λ x. x ++ (c ∷ tail)) (e2 ∙ ap (λ x. x ++ (m ∷ high)) e3) ∙ (append_assoc (lead ++ o ∷ low) (m ∷ high) (c ∷ tail) ∙ append_assoc lead (o ∷ low) (m ∷ (high ++ c ∷ tail))))

  -- sound
  pub range_finish : (Version : List ℕ → Parts → Type 0) → IsInner inner Version → (p : List ℕ) (s : RangeState) → RangeSeen p s → may_end_range s ≡ true → (r : RangeParts) × IsRangeOf Version p r
  range_finish Version own p (Before k) h l = let q = own.accept p Lead h.2 refl in (_, plain q.1)
  range_finish Version own p (Plain v) h l = let q = own.accept p v h l in (_, plain q.1)
  range_finish Version own p (Low k n v) h l = absurd (cc)
  range_finish Version own p (High k n g v) h l = absurd (cc)
  range_finish Version own p (Closed k n g w) h l =
      let o = opens_of h.before.before.open_byte (open_is h.before.before.open_byte h.before.before.opens) in
      let c = closes_of h.close_byte (close_is h.close_byte h.closes) in
      let low = own.accept h.before.before.text h.before.low h.before.before.reads h.before.low_last in
      let high = own.accept h.before.text h.high h.before.reads h.high_last in (
        _,
        bounded {low = low.0} {high = high.0} {low_in = o.0} {high_in = c.0} (record {
          lead = h.before.before.lead;
          open_byte = h.before.before.open_byte;
          low_text = h.before.before.text;
          high_text = h.before.text;
          close_byte = h.close_byte;
          tail = h.tail;
          parts = joined h.before.before.lead h.before.before.text h.before.text h.tail h.before.before.open_byte 44 h.close_byte p h.prefix h.before.prefix h.parts h.before.parts h.before.before.parts;
          lead_blanks = h.before.before.blanks;
          opens = o.1;
          low_reads = low.1;
          high_reads = high.1;
          closes = c.1;
          tail_blanks = h.blanks;
        }),
      )
