-- From the laws of a reader to the faults of a text.
use Rattle.std.proofs.Common.{◌≡◌, ◌⊎◌, inl, inr, ◌≤◌, ◌<◌, ◌+◌, ◌-◌, min, ℕ, zero, suc, Bool, true, false, Option, Some, None, List, [], ◌∷◌, ◌++◌, length, take, drop, get_or, refl, ap, ◌∙◌, sym, append_assoc, arith, length-append, length-take, drop-cons, get_or-take}
use Rattle.std.specs.Option.{option_and_then}
use Rattle.std.proofs.lemmas.List.{take-append-drop, take_all}
use Rattle.std.proofs.lemmas.Option.{option_and_then_some, none-some, same_Some}
use Rattle.osgi_version.specs.Bytes.{Each, IsDigit}
use Rattle.osgi_version.specs.Faults.{IsFault}
use Rattle.osgi_version.specs.FaultPlaces.{IsLongestPrefix}
use Rattle.osgi_version.specs.computed.Reader.{IsReader}
use Rattle.osgi_version.specs.computed.Run.{run, advance}
use Rattle.osgi_version.specs.laws.Running.{each_push, run_split, run_lax, run_loose, stops_longest, run_fine}
use Rattle.osgi_version.specs.declared.fault.VersionFault.TheVariants.{NotVersion, TooBig}

snoc_last : (prefix before : List ℕ) (b : ℕ) → prefix ≡ before ++ b ∷ [] → (0 < length prefix) × (get_or prefix (length prefix - 1) 0 ≡ b)
snoc_last prefix before b e = rw e (omega (arith, length-append before (b ∷ [])), rw (length-append before (b ∷ [])) (at_end before b))
  where
    at_end : (xs : List ℕ) (b : ℕ) → get_or (xs ++ b ∷ []) (length xs + 1 - 1) 0 ≡ b
    at_end xs b = rw (place xs) (last xs b)
      where
        place : (xs : List ℕ) → length xs + 1 - 1 ≡ length xs
        place xs = omega arith

        last : (xs : List ℕ) (b : ℕ) → get_or (xs ++ b ∷ []) (length xs) 0 ≡ b
        last [] b = refl
        last (x ∷ xs) b = last xs b

-- where a scan stops
pub record Stops (S : Type 0) (step : S → ℕ → Option S) (start : S) (text : List ℕ) (at : ℕ) (s : S) : Type 0 where
  pub within : at ≤ length text
  pub prefix : run step start (take at text) ≡ Some s
  pub stop : at < length text → step s (get_or text at 0) ≡ None

split : (a b : ℕ) → (a < b) ⊎ (b ≤ a)
split a zero = inr (omega arith)
split zero (suc b) = inl (omega arith)
split (suc a) (suc b) = elim (split a b) [ inl h ↦ inl (omega arith) | inr h ↦ inr (omega arith) ]

-- no run goes past the place where a scan stopped
stuck : {S : Type 0} (step : S → ℕ → Option S) (start s t : S) (text ys : List ℕ) (at : ℕ) → run step start (take at text) ≡ Some s → step s (get_or text at 0) ≡ None → run step start (take at text ++ get_or text at 0 ∷ ys) ≡ Some t → ⊥
stuck step start s t text ys at prefix none e =
    let cut = run_split step start t (take at text) (get_or text at 0 ∷ ys) e in
    let same : cut.0 ≡ s = same_Some _ _ (sym cut.1 ∙ prefix) in
    none-some t (sym (ap (λ o. option_and_then (λ u. run step u ys) o) (ap (λ u. step u (get_or text at 0)) same ∙ none)) ∙ cut.2)

whole_at : (text : List ℕ) (at : ℕ) → at < length text → take at text ++ get_or text at 0 ∷ drop (suc at) text ≡ text
whole_at text at lt = ap (λ x. take at text ++ x) (sym (drop-cons text at 0 lt)) ∙ take-append-drop at text

pub fine_not : (x : Bool) → x ≡ true → x ≡ false → ⊥
fine_not x h e = cc

-- the digits that end what was read, and where they begin
pub record IsLastDigits (xs : List ℕ) (start : ℕ) : Type 0 where
  pub within : start ≤ length xs
  pub digits : Each IsDigit (drop start xs)
  pub apart : 0 < start → IsDigit (get_or xs (start - 1) 0) → ⊥

module _ (S : Type 0) (fine : S → Bool) (step : S → ℕ → Option S) (last : S → Bool) (start : S) (Spelled Readable : List ℕ → Type 0) (own : IsReader S fine step last start Spelled Readable) where
  longest : (text : List ℕ) (at : ℕ) (s : S) → Stops S (advance fine step true) start text at s → IsLongestPrefix Readable text at
  longest text at s h = stops_longest (advance fine step true) start Readable own.readable_runs own.alive text at s h.within h.prefix h.stop

  at_end : (next : S → ℕ → Option S) (text : List ℕ) (at : ℕ) (s : S) → Stops S next start text at s → length text ≤ at → run next start text ≡ Some s
  at_end next text at s h le = ap (λ x. run next start x) (sym (take_all at text le)) ∙ h.prefix

  to_end : (next : S → ℕ → Option S) (text : List ℕ) (at : ℕ) (s t : S) → Stops S next start text at s → run next start text ≡ Some t → length text ≤ at
  to_end next text at s t h e = elim (split at (length text)) [ inl lt ↦ absurd (stuck next start s t text (drop (suc at) text) at h.prefix (h.stop lt) (ap (λ x. run next start x) (whole_at text at lt) ∙ e)) | inr le ↦ le ]

  -- a fault at the end of the text
  pub fault_end : (text : List ℕ) (at : ℕ) (s : S) → Stops S (advance fine step true) start text at s → length text ≤ at → last s ≡ false → IsFault Spelled Readable text (NotVersion at)
  fault_end text at s h le open_end = (
    λ spelled.
        let r = own.spelled_runs text spelled in
        let e = run_loose fine step true start s text (at_end (advance fine step true) text at s h le) in
        fine_not (last s) (ap last (same_Some _ _ (sym e ∙ r.1)) ∙ r.2) open_end,
    longest text at s h,
  )

  -- a fault inside, where larger numbers would not help
  pub fault_inside : (text : List ℕ) (at end : ℕ) (s t : S) → Stops S (advance fine step true) start text at s → Stops S (advance fine step false) start text end t → (length text ≤ end → last t ≡ true → ⊥) → IsFault Spelled Readable text (NotVersion at)
  fault_inside text at end s t h lax others = (
    λ spelled.
        let r = own.spelled_runs text spelled in
        let e = run_lax fine step start r.0 text r.1 in
        let le = to_end (advance fine step false) text end t r.0 lax e in
        others le (ap last (same_Some _ _ (sym (at_end (advance fine step false) text end t lax le) ∙ e)) ∙ r.2),
    longest text at s h,
  )

  digit_stops : (text : List ℕ) (at end : ℕ) (s t : S) → Stops S (advance fine step true) start text at s → Stops S (advance fine step false) start text end t → at < length text → length text ≤ end → IsDigit (get_or text at 0)
  digit_stops text at end s t h lax lt le =
      let e = run_loose fine step false start t text (at_end (advance fine step false) text end t lax le) in
      let cut = run_split step start t (take at text) (get_or text at 0 ∷ drop (suc at) text) (ap (λ x. run step start x) (whole_at text at lt) ∙ e) in
      let same : cut.0 ≡ s = same_Some _ _ (sym cut.1 ∙ run_loose fine step true start s (take at text) h.prefix) in
      option_and_then_some (λ u. run step u (drop (suc at) text)) (step cut.0 (get_or text at 0)) t cut.2 (λ u is rest.
      let turned : step s (get_or text at 0) ≡ Some u = ap (λ x. step x (get_or text at 0)) (sym same) ∙ is in
      elim ((rw turned at (own.by_digit s (get_or text at 0))) (run_fine fine step start s (take at text) own.start_fine h.prefix))
      [ inl f ↦ absurd (none-some u (sym (h.stop lt) ∙ rw turned (rw f refl))) | inr d ↦ d ])

  -- the first number that is too large
  pub fault_big : (text : List ℕ) (at end begin : ℕ) (s t : S) → Stops S (advance fine step true) start text at s → Stops S (advance fine step false) start text end t → at < length text → length text ≤ end → last t ≡ true → IsLastDigits (take at text) begin → IsFault Spelled Readable text (TooBig begin)
  fault_big text at end begin s t h lax lt le whole_end d =
      let strict = advance fine step true in
      let X = take at text in
      let D = drop begin X in
      let b = get_or text at 0 in
      let front_back : take begin X ++ D ≡ X = take-append-drop begin X in
      let past : (ys : List ℕ) → (take begin X ++ (D ++ b ∷ [])) ++ ys ≡ X ++ b ∷ ys = λ ys. ap (λ x. x ++ ys) (sym (append_assoc (take begin X) D (b ∷ []))) ∙ (append_assoc (take begin X ++ D) (b ∷ []) ys ∙ ap (λ x. x ++ (b ∷ ys)) front_back) in
      let cut = run_split strict start s (take begin X) D (ap (λ x. run strict start x) front_back ∙ h.prefix) in (
        own.end_spelled text t (run_loose fine step false start t text (at_end (advance fine step false) text end t lax le)) whole_end,
        λ readable. let r = own.readable_runs text readable in stuck strict start s r.0 text (drop (suc at) text) at h.prefix (h.stop lt) (ap (λ x. run strict start x) (whole_at text at lt) ∙ r.1),
        record {
          prefix = take begin X;
          digits = D ++ b ∷ [];
          rest = drop (suc at) text;
          parts = sym (past (drop (suc at) text) ∙ whole_at text at lt);
          place = length-take begin X ∙ min_le begin (length X) d.within;
          are_digits = each_push IsDigit D b d.digits (digit_stops text at end s t h lax lt le);
          apart = λ before c e is. ends_apart X begin before c d e is;
          begins = own.alive (take begin X) cut.0 cut.1;
          too_big = λ more readable. let r = own.readable_runs _ readable in stuck strict start s r.0 text more at h.prefix (h.stop lt) (ap (λ x. run strict start x) (sym (past more)) ∙ r.1);
        },
      )
    where
      min_le : (a b : ℕ) → a ≤ b → min a b ≡ a
      min_le a b le = omega arith

      ends_apart : (xs : List ℕ) (n : ℕ) (before : List ℕ) (c : ℕ) → IsLastDigits xs n → take n xs ≡ before ++ c ∷ [] → IsDigit c → ⊥
      ends_apart xs n before c d e is =
          let r = snoc_last (take n xs) before c e in
          let size : length (take n xs) ≡ n = length-take n xs ∙ min_le n (length xs) d.within in
          let some : 0 < n = omega (arith, size, r.0) in
          let found : get_or xs (n - 1) 0 ≡ c = sym (get_or-take n xs (n - 1) 0 (omega arith)) ∙ (ap (λ k. get_or (take n xs) (k - 1) 0) (sym size) ∙ r.1) in
          d.apart some (rw found is)
