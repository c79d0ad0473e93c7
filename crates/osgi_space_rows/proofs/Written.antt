-- What is read of values by numbers, where one of them was written.
use Rattle.std.proofs.Common.{◌≡◌, ◌==◌, ◌&&◌, ℕ, Bool, true, false, cond, List, [], ◌++◌, refl, sym, ◌∙◌, ap, subst, rules, Option, Some, OnSome, Result, Ok, Err, OnErr}
use Rattle.std.proofs.lemmas.Bool.{eqb-true}
use Rattle.std.proofs.lemmas.List.{append-nil}
use Rattle.std.specs.BTreeMap.{is_at}
use Rattle.std.specs.Option.{option_map_or}
use Rattle.std.specs.Ordering.{nat_cmp}
use Rattle.osgi_base.specs.NumberMaps.{Puts, value_at}
use Rattle.osgi_base.specs.declared.number_map.NumberMap.{NumberMap}

pub on-some : {X : Type 0} (o : Option X) (x : X) (P : Type 0) → o ≡ Some x → OnSome o P → P
on-some o x P is on = subst (λ o. OnSome o P) is on

pub on-err : {T E P : Type 0} (r : Result T E) → P → OnErr r P
on-err (Ok x) p = tt
on-err (Err e) p = p

module _ {X Y : Type 0} (f : X → Y) (none : Y) (op : Y → Y) where
  one : (b : Bool) (was now : Option X) (before after : X) → now ≡ cond b (Some after) was → (b ≡ true → was ≡ Some before) → f after ≡ op (f before) →
      option_map_or f now none ≡ cond b (op (option_map_or f was none)) (option_map_or f was none)
  one true was now before after is at written = ap (λ o. option_map_or f o none) is ∙ written ∙ ap op (sym (ap (λ o. option_map_or f o none) (at refl)))
  one false was now before after is at written = ap (λ o. option_map_or f o none) is

cond-append : {V : Type 0} (b : Bool) (ys xs : List V) → cond b (ys ++ xs) ys ≡ ys ++ cond b xs []
cond-append true ys xs = refl
cond-append false ys xs = sym (append-nil ys)

cond-same : {Y : Type 0} (b : Bool) (y : Y) → cond b y y ≡ y
cond-same true y = refl
cond-same false y = refl

-- the value of a number was written
module _ {X : Type 0} (old new : NumberMap X) (number : ℕ) (before after : X) (was : Some before ≡ value_at old number) (puts : Puts old new number after) where
  -- the number reads as the write made it, and each other one as before
  pub at-written : {Y : Type 0} (f : X → Y) (none : Y) (op : Y → Y) → f after ≡ op (f before) → (n : ℕ) →
      option_map_or f (value_at new n) none ≡ cond (number == n) (op (option_map_or f (value_at old n) none)) (option_map_or f (value_at old n) none)
  at-written f none op written n =
      one f none op (number == n) (value_at old n) (value_at new n) before after (puts n) (λ t. ap (value_at old) (sym (eqb-true number n t)) ∙ sym was) written

  pub at-appended : {V : Type 0} (f : X → List V) (xs : List V) → f after ≡ f before ++ xs → (n : ℕ) →
      option_map_or f (value_at new n) [] ≡ option_map_or f (value_at old n) [] ++ cond (number == n) xs []
  at-appended f xs written n = at-written f [] (λ ys. ys ++ xs) written n ∙ cond-append (number == n) (option_map_or f (value_at old n) []) xs

  pub at-kept : {Y : Type 0} (f : X → Y) (none : Y) → f after ≡ f before → (n : ℕ) → option_map_or f (value_at new n) none ≡ option_map_or f (value_at old n) none
  at-kept f none written n = at-written f none (λ y. y) written n ∙ cond-same (number == n) (option_map_or f (value_at old n) none)

-- ---- two numbers

cond-both : {Y : Type 0} (a b : Bool) (y z : Y) → cond a (cond b y z) z ≡ cond (a && b) y z
cond-both true b y z = refl
cond-both false b y z = refl

is_at-nat : (x y : ℕ) → is_at (nat_cmp x) y ≡ (x == y)
is_at-nat x y = search rules

pub cond-two : {Y : Type 0} (r revision name n : ℕ) (y z : Y) → cond (revision == r) (cond (is_at (nat_cmp name) n) y z) z ≡ cond ((revision == r) && (name == n)) y z
cond-two r revision name n y z =
    ap (λ b. cond (revision == r) (cond b y z) z) (is_at-nat name n) ∙ cond-both (revision == r) (name == n) y z
