-- Each range runs through the range machine, over any step of the version machine.
use Rattle.std.proofs.Common.{◌≡◌, ◌+◌, ℕ, Bool, true, false, if◌then◌else◌, Option, Some, None, List, [], ◌∷◌, length, refl, ap, ◌∙◌, sym, arith}
use Rattle.std.specs.Option.{option_and_then, option_map}
use Rattle.std.proofs.lemmas.Option.{option_and_then_some, none-some, same_Some}
use Rattle.osgi_version.specs.Bytes.{Each, IsBlank}
use Rattle.osgi_version.specs.computed.Classes.{class_of}
use Rattle.osgi_version.specs.computed.RangeMachine.{next_range, range_by, may_end_range}
use Rattle.osgi_version.specs.Ranges.{RangeParts, IsBounded, IsRangeOf, plain, bounded}
use Rattle.osgi_version.specs.computed.Run.{run}
use Rattle.osgi_version.specs.computed.VersionMachine.{next, step, may_end}
use Rattle.osgi_version.specs.Versions.{Parts}
use Rattle.osgi_version.specs.laws.Classes.{blank_class, blank_of, close_class, comma, open_class}
use Rattle.osgi_version.specs.laws.Running.{run_then}
use Rattle.osgi_version.specs.declared.bytes.Class.{Class}
use Rattle.osgi_version.specs.declared.bytes.Class.TheVariants.{Digit, Blank, Comma, Close}
use Rattle.osgi_version.specs.declared.version_state.VersionState.{VersionState}
use Rattle.osgi_version.specs.declared.version_state.VersionState.TheVariants.{Lead, Major, MinorDot, Minor, MicroDot, Micro, QualifierDot, Qualifier, Trail}
use Rattle.osgi_version.specs.declared.range_state.RangeState.{RangeState}
use Rattle.osgi_version.specs.declared.range_state.RangeState.TheVariants.{Before, Plain, Low, High, Closed}
use Rattle.osgi_version.proofs.RangeSeen.{IsInner}

-- no version goes on over a comma or a closing bracket
comma_ends : (v : VersionState) (b : ℕ) → next v b Comma ≡ None
comma_ends Lead b = refl
comma_ends (Major m) b = refl
comma_ends (MinorDot m) b = refl
comma_ends (Minor m i) b = refl
comma_ends (MicroDot m i) b = refl
comma_ends (Micro m i n) b = refl
comma_ends (QualifierDot m i n) b = refl
comma_ends (Qualifier m i n k) b = refl
comma_ends (Trail m i n k w) b = refl

close_ends : (v : VersionState) (b : ℕ) → next v b Close ≡ None
close_ends Lead b = refl
close_ends (Major m) b = refl
close_ends (MinorDot m) b = refl
close_ends (Minor m i) b = refl
close_ends (MicroDot m i) b = refl
close_ends (Micro m i n) b = refl
close_ends (QualifierDot m i n) b = refl
close_ends (Qualifier m i n k) b = refl
close_ends (Trail m i n k w) b = refl

-- not the state after a bracket
abbrev pub IsNoRange : RangeState → Type 0
IsNoRange (Closed k n h w) = ⊥
IsNoRange s = Unit {0}

module _ (inner : VersionState → ℕ → Option VersionState) where
  inner_runs : (f : ℕ → VersionState → RangeState) → ((n : ℕ) (v u : VersionState) (b : ℕ) → inner v b ≡ Some u → range_by inner (f n v) b ≡ Some (f (n + 1) u)) → (n : ℕ) (v u : VersionState) (xs : List ℕ) → run inner v xs ≡ Some u → run (range_by inner) (f n v) xs ≡ Some (f (n + length xs) u)
  inner_runs f turn n v u [] e = ap (λ o. option_map (f n) o) e ∙ ap (λ m. Some (f m u)) (let z : n ≡ n + 0 = omega arith in z)
  inner_runs f turn n v u (b ∷ xs) e = option_and_then_some (λ t. run inner t xs) (inner v b) u e (λ t is rest.
      rw (turn n v t b is) (inner_runs f turn (n + 1) t u xs rest ∙ ap (λ m. Some (f m u)) (let z : n + 1 + length xs ≡ n + length (b ∷ xs) = omega arith in z)))

  module _ (within : (v u : VersionState) (b : ℕ) → inner v b ≡ Some u → step v b ≡ Some u) where
    low_turn : (k n : ℕ) (v u : VersionState) (b : ℕ) (c : Class) → class_of b ≡ c → inner v b ≡ Some u → next_range inner (Low k n v) b c ≡ Some (Low k (n + 1) u)
    low_turn k n v u b Comma e is = absurd (none-some u (sym (ap (next v b) e ∙ comma_ends v b) ∙ within v u b is))
    low_turn k n v u b c e is = ap (option_map (Low k (n + 1))) is

    high_turn : (k n h : ℕ) (v u : VersionState) (b : ℕ) (c : Class) → class_of b ≡ c → inner v b ≡ Some u → next_range inner (High k n h v) b c ≡ Some (High k n (h + 1) u)
    high_turn k n h v u b Close e is = absurd (none-some u (sym (ap (next v b) e ∙ close_ends v b) ∙ within v u b is))
    high_turn k n h v u b c e is = ap (option_map (High k n (h + 1))) is

    -- a plain version
    pub before_runs : ((b : ℕ) → IsBlank b → inner Lead b ≡ Some Lead) → (k : ℕ) (xs : List ℕ) (u : VersionState) → run inner Lead xs ≡ Some u → may_end u ≡ true → (s : RangeState) × (run (range_by inner) (Before k) xs ≡ Some s) × (may_end_range s ≡ true) × IsNoRange s
    before_runs lead_blank k [] u e l = (Before k, refl, refl, tt)
    before_runs lead_blank k (b ∷ xs) u e l = option_and_then_some (λ t. run inner t xs) (inner Lead b) u e (λ t is rest. go (λ e'. before_runs lead_blank (k + 1) xs u e' l) (class_of b) refl t is rest)
      where
        go : (run inner Lead xs ≡ Some u → (s : RangeState) × (run (range_by inner) (Before (k + 1)) xs ≡ Some s) × (may_end_range s ≡ true) × IsNoRange s) → (c : Class) → class_of b ≡ c → (t : VersionState) → inner Lead b ≡ Some t → run inner t xs ≡ Some u → (s : RangeState) × (run (range_by inner) (Before k) (b ∷ xs) ≡ Some s) × (may_end_range s ≡ true) × IsNoRange s
        go again Blank c t is rest = let r = again (ap (λ x. run inner x xs) (same_Some _ _ (sym (lead_blank b (blank_of b c)) ∙ is)) ∙ rest) in (r.0, rw (ap (next_range inner (Before k) b) c) r.1, r.2, r.3)
        go again Digit c t is rest = let r = inner_runs (λ n v. Plain v) (λ n v w d turn. ap (option_map Plain) turn) 0 t u xs rest in (Plain u, rw (ap (next_range inner (Before k) b) c ∙ ap (option_map Plain) is) r, l, tt)
        go again d c t is rest = absurd (none-some t (sym (ap (next Lead b) c) ∙ within Lead t b is))

  counted_run : (f : ℕ → RangeState) → ((w b : ℕ) → IsBlank b → range_by inner (f w) b ≡ Some (f (w + 1))) → (w : ℕ) (xs : List ℕ) → Each IsBlank xs → run (range_by inner) (f w) xs ≡ Some (f (w + length xs))
  counted_run f turn w [] h = ap (λ m. Some (f m)) (let z : w ≡ w + 0 = omega arith in z)
  counted_run f turn w (b ∷ xs) h = rw (turn w b h.0) (counted_run f turn (w + 1) xs h.1 ∙ ap (λ m. Some (f m)) (let z : w + 1 + length xs ≡ w + length (b ∷ xs) = omega arith in z))

  stepped : (s t : RangeState) (b : ℕ) (xs : List ℕ) (r : Option RangeState) → range_by inner s b ≡ Some t → run (range_by inner) t xs ≡ r → run (range_by inner) s (b ∷ xs) ≡ r
  stepped s t b xs r e h = ap (λ o. option_and_then (λ u. run (range_by inner) u xs) o) e ∙ h

  turn_if : (x : Bool) (t : RangeState) → x ≡ true → (if x then Some t else None) ≡ Some t
  turn_if true t e = refl
  turn_if false t e = absurd (cc)

  -- a range in brackets ends in the state with the lengths of its parts
  pub bounded_runs : (Version : List ℕ → Parts → Type 0) → IsInner inner Version → (text : List ℕ) (low high : Parts) (low_in high_in : Bool) (h : IsBounded Version text low low_in high high_in)
      → run (range_by inner) (Before 0) text ≡ Some (Closed (0 + length h.lead) (0 + length h.low_text) (0 + length h.high_text) (0 + length h.tail))
  bounded_runs Version own text low high low_in high_in h =
      let lo = own.runs h.low_text low h.low_reads in
      let hi = own.runs h.high_text high h.high_reads in
      let k = 0 + length h.lead in
      let n = 0 + length h.low_text in
      let g = 0 + length h.high_text in
      let a = counted_run Before (λ w b e. ap (next_range inner (Before w) b) (blank_class b e)) 0 h.lead h.lead_blanks in
      let b = inner_runs (Low k) (λ n v u c is. low_turn own.within k n v u c (class_of c) refl is) 0 Lead lo.0 h.low_text lo.1 in
      let c = inner_runs (High k n) (λ g v u d is. high_turn own.within k n g v u d (class_of d) refl is) 0 Lead hi.0 h.high_text hi.1 in
      let d = counted_run (Closed k n g) (λ w x e. ap (next_range inner (Closed k n g w) x) (blank_class x e)) 0 h.tail h.tail_blanks in
      let opened : range_by inner (Before k) h.open_byte ≡ Some (Low k 0 Lead) = ap (next_range inner (Before k) h.open_byte) (open_class h.open_byte low_in h.opens) in
      let parted : range_by inner (Low k n lo.0) 44 ≡ Some (High k n 0 Lead) = ap (next_range inner (Low k n lo.0) 44) comma ∙ turn_if (may_end lo.0) (High k n 0 Lead) lo.2 in
      let closed : range_by inner (High k n g hi.0) h.close_byte ≡ Some (Closed k n g 0) = ap (next_range inner (High k n g hi.0) h.close_byte) (close_class h.close_byte high_in h.closes) ∙ turn_if (may_end hi.0) (Closed k n g 0) hi.2 in
      ap (λ x. run (range_by inner) (Before 0) x) h.parts ∙ run_then (range_by inner) (Before 0) (Before k) h.lead _ _ a
      (stepped (Before k) (Low k 0 Lead) h.open_byte _ _ opened (run_then (range_by inner) (Low k 0 Lead) (Low k n lo.0) h.low_text _ _ b
      (stepped (Low k n lo.0) (High k n 0 Lead) 44 _ _ parted (run_then (range_by inner) (High k n 0 Lead) (High k n g hi.0) h.high_text _ _ c
      (stepped (High k n g hi.0) (Closed k n g 0) h.close_byte h.tail _ closed d)))))

  -- what is in the grammar runs to a last state
  pub range_runs : (Version : List ℕ → Parts → Type 0) → IsInner inner Version → (text : List ℕ) (r : RangeParts) → IsRangeOf Version text r → (s : RangeState) × (run (range_by inner) (Before 0) text ≡ Some s) × (may_end_range s ≡ true)
  range_runs Version own text r (plain {v = q} h) = let v = own.runs text q h in let s = before_runs own.within own.lead_blank 0 text v.0 v.1 v.2 in (s.0, s.1, s.2)
  range_runs Version own text r (bounded {low = low} {high = high} {low_in = low_in} {high_in = high_in} h) = (_, bounded_runs Version own text low high low_in high_in h, refl)
