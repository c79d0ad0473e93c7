-- The items at the start of a list that pass a test, and what follows them.
use Rattle.std.proofs.Common.{◌≡◌, suc, List, [], ◌∷◌, ◌++◌, length, take, drop, ap, sym, ◌∙◌, refl, arith}
use Rattle.std.specs.Prelude.{Bool, true, false}
use Rattle.std.specs.List.{AllPass, prefix_len}
use Rattle.std.proofs.lemmas.Bool.{cond-false, cond-true}
use Rattle.std.proofs.lemmas.List.Elements.{All-cons, All-head, All-nil, All-tail}

pub record Fronts {X : Type 0} (p : X → Bool) (xs : List X) : Type 0 where
  pub all : AllPass p (take (prefix_len p xs) xs)
  pub stops : (x : X) (rest : List X) → drop (prefix_len p xs) xs ≡ x ∷ rest → p x ≡ false

pub prefix_len-pass : {X : Type 0} (p : X → Bool) (x : X) (rest : List X) → p x ≡ true → prefix_len p (x ∷ rest) ≡ suc (prefix_len p rest)
prefix_len-pass p x rest e = cond-true (p x) _ _ e ∙ omega arith

pub prefix_len-fail : {X : Type 0} (p : X → Bool) (x : X) (rest : List X) → p x ≡ false → prefix_len p (x ∷ rest) ≡ 0
prefix_len-fail p x rest e = cond-false (p x) _ _ e

fronts_pass : {X : Type 0} (p : X → Bool) (x : X) (rest : List X) → p x ≡ true → Fronts p rest → Fronts p (x ∷ rest)
fronts_pass p x rest e more =
    let len = prefix_len-pass p x rest e in
    record {
      all = rw len (All-cons (λ y. p y ≡ true) x (take (prefix_len p rest) rest) e more.all);
      stops = λ y remainder is. more.stops y remainder (ap (λ n. drop n (x ∷ rest)) (sym len) ∙ is);
    }

fronts_fail : {X : Type 0} (p : X → Bool) (x : X) (rest : List X) → p x ≡ false → Fronts p (x ∷ rest)
fronts_fail p x rest e =
    let len = prefix_len-fail p x rest e in
    record {
      all = rw len (All-nil (λ y. p y ≡ true));
      stops = λ y remainder is.
          let same : x ∷ rest ≡ y ∷ remainder = ap (λ n. drop n (x ∷ rest)) (sym len) ∙ is in
          let here : x ≡ y = cc same in
          ap p (sym here) ∙ e;
    }

fronts_by : {X : Type 0} (p : X → Bool) (x : X) (rest : List X) (test : Bool) → p x ≡ test → Fronts p rest → Fronts p (x ∷ rest)
fronts_by p x rest true e more = fronts_pass p x rest e more
fronts_by p x rest false e more = fronts_fail p x rest e

pub fronts : {X : Type 0} (p : X → Bool) (xs : List X) → Fronts p xs
fronts p [] = record { all = All-nil (λ y. p y ≡ true); stops = λ y remainder is. absurd (cc is) }
fronts p (x ∷ rest) = fronts_by p x rest (p x) refl (fronts p rest)

-- a prefix that passes, before what does not
pub prefix_len-front : {X : Type 0} (p : X → Bool) (prefix rest : List X) → AllPass p prefix → prefix_len p rest ≡ 0 → prefix_len p (prefix ++ rest) ≡ length prefix
prefix_len-front p [] rest all stops = stops
prefix_len-front p (x ∷ prefix) rest all stops =
    let more : prefix_len p (prefix ++ rest) ≡ length prefix = prefix_len-front p prefix rest (All-tail (λ y. p y ≡ true) x prefix all) stops in
    cond-true (p x) _ _ (All-head (λ y. p y ≡ true) x prefix all) ∙ omega (arith, more)
