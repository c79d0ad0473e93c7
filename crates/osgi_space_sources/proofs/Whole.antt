-- Loops after which something holds of each item of a list, or of each that was found.
use Rattle.std.proofs.Common.{◌≡◌, inl, inr, ℕ, ◌+◌, ◌<◌, ◌≤◌, Bool, true, false, not, IsTrue, List, ◌++◌, length, get_or, take, refl, sym, ◌∙◌, ap, subst, arith, below_more, length-append, Contains}
use Rattle.std.specs.Prelude.{Option, Some, unwrap_or}
use Rattle.std.specs.Option.{ForSome}
use Rattle.std.proofs.lemmas.Bool.{false≢true}
use Rattle.std.proofs.lemmas.List.{get_or_append_left, get_or_default, take_all}
use Rattle.std.proofs.lemmas.List.Elements.{Contains-append_left}
use Rattle.osgi_space_sources.specs.laws.Adding.{contains-more}

pub each-none : {X : Type 0} (P : X → Type 0) (xs : List X) → (y : X) → Contains (take 0 xs) y → P y
each-none P xs y at = absurd (omega (arith, at.1))

pub each-more : {X : Type 0} (P Q : X → Type 0) (xs : List X) (i : ℕ) (x : X) → i < length xs → x ≡ get_or xs i x → ((y : X) → P y → Q y) → ((y : X) → Contains (take i xs) y → P y) → Q x
    → (y : X) → Contains (take (i + 1) xs) y → Q y
each-more P Q xs i x h at kept before here y c = elim ((contains-more xs i x h at y).0 c) [ inl old ↦ kept y (before y old) | inr e ↦ subst Q (sym e) here ]

pub each-whole : {X : Type 0} (P : X → Type 0) (xs : List X) (i : ℕ) → length xs ≤ i → ((y : X) → Contains (take i xs) y → P y) → (y : X) → Contains xs y → P y
each-whole P xs i h before y at = before y (subst (λ ys. Contains ys y) (sym (take_all i xs h)) at)

-- ---- a list that grows while it is gone through

pub grown-kept : {X : Type 0} (old new : List X) → (more : List X) × (new ≡ old ++ more) → (x : X) → Contains old x → Contains new x
grown-kept old new grown x at = subst (λ xs. Contains xs x) (sym grown.1) (Contains-append_left old grown.0 x at)

-- it holds of the items before `next`
pub record IsDone {X : Type 0} (P : X → Type 0) (all : List X) (next : ℕ) : Type 0 where
  pub in_range : next ≤ length all
  pub done : (k : ℕ) → k < next → (x : X) → get_or all k x ≡ x → P x

pub done-start : {X : Type 0} (P : X → Type 0) (all : List X) → IsDone P all 0
done-start P all = record { in_range = omega arith; done = λ k h. absurd (omega arith) }

pub done-next : {X : Type 0} (P Q : X → Type 0) (old new : List X) (next : ℕ) (from : X) → next < length old → from ≡ get_or old next from → (more : List X) × (new ≡ old ++ more) → ((x : X) → P x → Q x) → IsDone P old next → Q from
    → IsDone Q new (next + 1)
done-next P Q old new next from h at grown kept before here =
    let longer : length new ≡ length old + length grown.0 = ap length grown.1 ∙ length-append old grown.0 in
    let same = λ (k : ℕ) (x : _) (lt : k < length old). ap (λ (l : List _). get_or l k x) grown.1 ∙ get_or_append_left old grown.0 x k lt in
    record {
      in_range = omega arith;
      done = below_more (λ k. (x : _) → get_or new k x ≡ x → Q x) next
          (λ k lt x is. kept x (before.done k lt x (sym (same k x (omega (arith, before.in_range))) ∙ is)))
          (λ x is.
          let e : x ≡ from = sym is ∙ same next x h ∙ get_or_default old next x from h ∙ sym at in
          subst Q (sym e) here);
    }

pub done-all : {X : Type 0} (P : X → Type 0) (all : List X) (next : ℕ) → length all ≤ next → IsDone P all next → (x : X) → Contains all x → P x
done-all P all next h done x c = done.done c.0 (omega (arith, c.1)) x c.2

-- ---- answers that are turned

-- one keeps what it keeps, or breaks it
pub breaks-iff : (keeps : Bool) {P : Type 0} → (IsTrue keeps → P) × (P → IsTrue keeps) → (IsTrue (not keeps) → ¬ P) × (¬ P → IsTrue (not keeps))
breaks-iff true is = (λ t. absurd (false≢true t), λ breaks. absurd (breaks (is.0 refl)))
breaks-iff false is = (λ t p. false≢true (is.1 p), λ breaks. refl)

-- it is so, since the opposite cannot be
pub true-unless : (b : Bool) → ¬ ¬ IsTrue b → IsTrue b
true-unless true not = refl
true-unless false not = absurd (not (λ t. false≢true t))

-- ---- what holds of a value that there may be

pub for-one : {X : Type 0} (P : X → Type 0) (x : X) → P x → ForSome (Some x) P
for-one P x p y e = subst P (ap (λ (o : Option _). unwrap_or o x) e) p
