-- Laws of all machines that read byte by byte.
use Rattle.std.proofs.Common.{◌≡◌, ◌≤◌, ◌<◌, ◌+◌, ℕ, zero, suc, Bool, true, false, not, ◌&&◌, if◌then◌else◌, Option, Some, None, List, [], ◌∷◌, ◌++◌, length, take, get_or, refl, ap, ◌∙◌, sym, append_assoc, arith}
use Rattle.std.specs.Option.{option_and_then, IfSome}
use Rattle.std.proofs.lemmas.List.{take_more, append-nil}
use Rattle.std.proofs.lemmas.Option.{option_and_then_some, none-some, same_Some}
use Rattle.osgi_version.specs.Bytes.{Each}
use Rattle.osgi_version.specs.FaultPlaces.{IsLongestPrefix}
use Rattle.osgi_version.specs.computed.Run.{run, advance, gather}

pub each_push : (P : ℕ → Type 0) (xs : List ℕ) (b : ℕ) → Each P xs → P b → Each P (xs ++ b ∷ [])
each_push P [] b h p = (p, tt)
each_push P (x ∷ xs) b h p = (h.0, each_push P xs b h.1 p)

-- what a reader has seen, kept by each step, holds after a run
pub run_keeps : {S : Type 0} (step : S → ℕ → Option S) (I : List ℕ → S → Type 0) → ((p : List ℕ) (s : S) (b : ℕ) → I p s → IfSome (step s b) (I (p ++ b ∷ []))) → (p q : List ℕ) (s t : S) → I p s → run step s q ≡ Some t → I (p ++ q) t
run_keeps step I keeps p [] s t h e = rw append-nil (rw (← same_Some _ _ e) h)
run_keeps step I keeps p (b ∷ q) s t h e = option_and_then_some (λ u. run step u q) (step s b) t e (λ u is e'. rw append_assoc at (run_keeps step I keeps (p ++ b ∷ []) q u t (rw is at (keeps p s b h)) e'))

pub run_append : {S : Type 0} (step : S → ℕ → Option S) (s : S) (xs ys : List ℕ) → run step s (xs ++ ys) ≡ option_and_then (λ t. run step t ys) (run step s xs)
run_append step s [] ys = refl
run_append step s (x ∷ xs) ys = elim (step s x) as (λ o. option_and_then (λ t. run step t (xs ++ ys)) o ≡ option_and_then (λ t. run step t ys) (option_and_then (λ t. run step t xs) o)) [ None ↦ refl | Some t ↦ run_append step t xs ys ]

pub run_then : {S : Type 0} (step : S → ℕ → Option S) (s t : S) (xs ys : List ℕ) (r : Option S) → run step s xs ≡ Some t → run step t ys ≡ r → run step s (xs ++ ys) ≡ r
run_then step s t xs ys r e h = run_append step s xs ys ∙ rw e h

pub run_split : {S : Type 0} (step : S → ℕ → Option S) (s u : S) (xs ys : List ℕ) → run step s (xs ++ ys) ≡ Some u → (t : S) × (run step s xs ≡ Some t) × (run step t ys ≡ Some u)
run_split step s u xs ys e = option_and_then_some (λ t. run step t ys) (run step s xs) u (sym (run_append step s xs ys) ∙ e) (λ t a b. (t, a, b))

pub run_more : {S : Type 0} (step : S → ℕ → Option S) (s t u : S) (xs : List ℕ) (i : ℕ) → i < length xs → run step s (take i xs) ≡ Some t → step t (get_or xs i 0) ≡ Some u → run step s (take (i + 1) xs) ≡ Some u
run_more step s t u xs i lt e h = rw (take_more xs i 0 lt) (run_then step s t (take i xs) (get_or xs i 0 ∷ []) (Some u) e (rw h refl))

-- a token: bytes of one kind, each of which keeps the state's form
pub run_each : {S A : Type 0} (step : S → ℕ → Option S) (P : ℕ → Type 0) (f : A → S) (g : A → ℕ → A) → ((a : A) (b : ℕ) → P b → step (f a) b ≡ Some (f (g a b))) → (a : A) (xs : List ℕ) → Each P xs → run step (f a) xs ≡ Some (f (gather g a xs))
run_each step P f g turn a [] h = refl
run_each step P f g turn a (x ∷ xs) h = rw (turn a x h.0) (run_each step P f g turn (g a x) xs h.1)

through : (at k : ℕ) (xs : List ℕ) → at < k → k ≤ length xs → (ys : List ℕ) × (take k xs ≡ take at xs ++ get_or xs at 0 ∷ ys)
through at k [] lt le = absurd (omega arith)
through at zero (x ∷ xs) lt le = absurd (omega arith)
through zero (suc k) (x ∷ xs) lt le = (take k xs, refl)
through (suc at) (suc k) (x ∷ xs) lt le = let r = through at k xs (omega arith) (omega arith) in (r.0, ap (λ zs. x ∷ zs) r.1)

-- the place of a fault: where a machine stops of which each state can still be completed
pub stops_longest : {S : Type 0} (step : S → ℕ → Option S) (start : S) (Readable : List ℕ → Type 0)
    → ((text : List ℕ) → Readable text → (t : S) × (run step start text ≡ Some t))
    → ((p : List ℕ) (t : S) → run step start p ≡ Some t → (rest : List ℕ) × Readable (p ++ rest))
    → (text : List ℕ) (at : ℕ) (t : S) → at ≤ length text → run step start (take at text) ≡ Some t → (at < length text → step t (get_or text at 0) ≡ None)
    → IsLongestPrefix Readable text at
stops_longest step start Readable runs alive text at t le e stop = record {
  within = le;
  begins = alive (take at text) t e;
  longest = λ k rest lt in_text readable.
      let r = runs (take k text ++ rest) readable in
      let prefix = run_split step start r.0 (take k text) rest r.1 in
      let more = through at k text lt in_text in
      let two = run_split step start prefix.0 (take at text) (get_or text at 0 ∷ more.0) (ap (λ x. run step start x) (sym more.1) ∙ prefix.1) in
      let same = same_Some _ _ (sym two.1 ∙ e) in
      none-some prefix.0 (sym (ap (λ o. option_and_then (λ u. run step u more.0) o) (ap (λ u. step u (get_or text at 0)) same ∙ stop (omega arith))) ∙ two.2);
}

module _ {S : Type 0} (fine : S → Bool) (step : S → ℕ → Option S) (back : (s : S) (b : ℕ) → IfSome (step s b) (λ t. fine t ≡ true → fine s ≡ true)) where
  fine_before : (s t : S) (xs : List ℕ) → run step s xs ≡ Some t → fine t ≡ true → fine s ≡ true
  fine_before s t [] e h = rw (same_Some _ _ e) h
  fine_before s t (b ∷ xs) e h = option_and_then_some (λ u. run step u xs) (step s b) t e (λ u is e'. (rw is at (back s b)) (fine_before u t xs e' h))

  -- a run to a state that is fine is a strict run
  pub run_strict : (s t : S) (xs : List ℕ) → run step s xs ≡ Some t → fine t ≡ true → run (advance fine step true) s xs ≡ Some t
  run_strict s t [] e h = e
  run_strict s t (b ∷ xs) e h = option_and_then_some (λ u. run step u xs) (step s b) t e (λ u is e'. rw is (rw (fine_before u t xs e' h) (run_strict u t xs e' h)))

-- what a step of `advance` was
guarded_was : (x y : Bool) {S : Type 0} (u t : S) → (if x && not y then None else Some u) ≡ Some t → (u ≡ t) × (x ≡ true → y ≡ true)
guarded_was false y u t e = (same_Some u t e, λ h. cc)
guarded_was true false u t e = absurd (none-some t e)
guarded_was true true u t e = (same_Some u t e, λ h. refl)

pub advance_was : {S : Type 0} (fine : S → Bool) (step : S → ℕ → Option S) (strict : Bool) (s t : S) (b : ℕ) → advance fine step strict s b ≡ Some t → (step s b ≡ Some t) × (strict ≡ true → fine t ≡ true)
advance_was fine step strict s t b e = option_and_then_some (λ u. if strict && not (fine u) then None else Some u) (step s b) t e
    (λ u is e'. let r = guarded_was strict (fine u) u t e' in (is ∙ ap Some r.0, λ h. rw (← r.0) (r.1 h)))

-- a strict run is a run
pub run_loose : {S : Type 0} (fine : S → Bool) (step : S → ℕ → Option S) (strict : Bool) (s t : S) (xs : List ℕ) → run (advance fine step strict) s xs ≡ Some t → run step s xs ≡ Some t
run_loose fine step strict s t [] e = e
run_loose fine step strict s t (b ∷ xs) e = option_and_then_some (λ u. run (advance fine step strict) u xs) (advance fine step strict s b) t e
    (λ u is e'. rw ((advance_was fine step strict s u b is).0) (run_loose fine step strict u t xs e'))

pub run_fine : {S : Type 0} (fine : S → Bool) (step : S → ℕ → Option S) (s t : S) (xs : List ℕ) → fine s ≡ true → run (advance fine step true) s xs ≡ Some t → fine t ≡ true
run_fine fine step s t [] h e = rw (← same_Some _ _ e) h
run_fine fine step s t (b ∷ xs) h e = option_and_then_some (λ u. run (advance fine step true) u xs) (advance fine step true s b) t e
    (λ u is e'. run_fine fine step u t xs ((advance_was fine step true s u b is).1 refl) e')

pub run_lax : {S : Type 0} (fine : S → Bool) (step : S → ℕ → Option S) (s t : S) (xs : List ℕ) → run step s xs ≡ Some t → run (advance fine step false) s xs ≡ Some t
run_lax fine step s t [] e = e
run_lax fine step s t (b ∷ xs) e = option_and_then_some (λ u. run step u xs) (step s b) t e (λ u is e'. rw is (run_lax fine step u t xs e'))
