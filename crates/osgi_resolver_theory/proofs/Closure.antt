-- Questions that have an answer; and what is reached by steps, as a list.
use Rattle.std.proofs.Common.{◌≡◌, ℕ, zero, suc, ◌<◌, ◌≤◌, ◌⊎◌, ◌↔◌, inl, inr, Bool, true, false, IsTrue, List, [], ◌∷◌, length, filter, refl, sym, subst, arith}
use Rattle.osgi_world.specs.Lists.{In, Two}
use Rattle.osgi_resolver_theory.proofs.Ends.{filter-less}
use Rattle.osgi_resolver_theory.proofs.Lists.{filter-in, in-filter}
use Rattle.osgi_resolver_theory.proofs.Twos.{any-dec}
use Rattle.osgi_resolver_theory.proofs.Values.{nat-dec}

abbrev pub Decided : Type 0 → Type 0
Decided A = A ⊎ ¬ A

pub not-dec : {A : Type 0} → Decided A → Decided (¬ A)
not-dec (inl a) = inr (λ n. n a)
not-dec (inr n) = inl n

pub either-dec : {A B : Type 0} → Decided A → Decided B → Decided (A ⊎ B)
either-dec (inl a) b = inl (inl a)
either-dec (inr n) (inl b) = inl (inr b)
either-dec (inr n) (inr m) = inr (λ x. elim x [ inl a ↦ n a | inr b ↦ m b ])

pub both-dec : {A B : Type 0} → Decided A → Decided B → Decided (A × B)
both-dec (inl a) (inl b) = inl (a, b)
both-dec (inl a) (inr n) = inr (λ c. n c.1)
both-dec (inr n) b = inr (λ c. n c.0)

pub if-dec : {A B : Type 0} → Decided A → Decided B → Decided (A → B)
if-dec (inl a) (inl b) = inl (λ x. b)
if-dec (inl a) (inr n) = inr (λ f. n (f a))
if-dec (inr n) b = inl (λ a. absurd (n a))

pub map-dec : {A B : Type 0} → (A → B) → (B → A) → Decided A → Decided B
map-dec f g (inl a) = inl (f a)
map-dec f g (inr n) = inr (λ b. n (g b))

pub true-dec : (b : Bool) → Decided (IsTrue b)
true-dec true = inl refl
true-dec false = inr (λ t. cc)

pub less-dec : (a b : ℕ) → Decided (a < b)
less-dec a b = grind arith

pub all-dec : {X : Type 0} (P : X → Type 0) → ((x : X) → Decided (P x)) → (xs : List X) → Decided ((x : X) → In x xs → P x)
all-dec P dec [] = inl (λ x i. elim i [ ])
all-dec {X = X} P dec (z ∷ xs) = go (dec z) (all-dec P dec xs)
  where
    whole : P z → ((x : X) → In x xs → P x) → (x : X) → (x ≡ z) ⊎ In x xs → P x
    whole p rest x (inl e) = subst P (sym e) p
    whole p rest x (inr i) = rest x i

    go : Decided (P z) → Decided ((x : X) → In x xs → P x) → Decided ((x : X) → In x (z ∷ xs) → P x)
    go (inl p) (inl rest) = inl (whole p rest)
    go (inl p) (inr n) = inr (λ f. n (λ x i. f x (inr i)))
    go (inr n) rest = inr (λ f. n (f z (inl refl)))

pub item-dec : {X : Type 0} → ((x y : X) → Decided (x ≡ y)) → (x : X) (xs : List X) → Decided (In x xs)
item-dec same x [] = inr (λ i. elim i [ ])
item-dec same x (y ∷ ys) = either-dec (same x y) (item-dec same x ys)

cons-head : {X : Type 0} (x y : X) (xs ys : List X) → (x ∷ xs) ≡ (y ∷ ys) → x ≡ y
cons-head x y xs ys e = cc

cons-tail : {X : Type 0} (x y : X) (xs ys : List X) → (x ∷ xs) ≡ (y ∷ ys) → xs ≡ ys
cons-tail x y xs ys e = cc

cons-both : {X : Type 0} {x y : X} {xs ys : List X} → x ≡ y → xs ≡ ys → (x ∷ xs) ≡ (y ∷ ys)
cons-both e f = rw (e, f) refl

pub text-dec : (a b : List ℕ) → Decided (a ≡ b)
text-dec [] [] = inl refl
text-dec [] (y ∷ ys) = inr (λ e. cc)
text-dec (x ∷ xs) [] = inr (λ e. cc)
text-dec (x ∷ xs) (y ∷ ys) = map-dec (λ e. cons-both e.0 e.1) (λ e. (cons-head x y xs ys e, cons-tail x y xs ys e)) (both-dec (nat-dec x y) (text-dec xs ys))

pub empty-dec : {X : Type 0} (xs : List X) → Decided (xs ≡ [])
empty-dec [] = inl refl
empty-dec (x ∷ xs) = inr (λ e. cc)

pub two-dec : {X : Type 0} (R : X → X → Type 0) → ((x y : X) → Decided (R x y)) → (xs : List X) → Decided (Two R xs)
two-dec R dec [] = inr (λ t. elim t [ ])
two-dec R dec (x ∷ xs) = either-dec (any-dec (R x) (dec x) xs) (two-dec R dec xs)

-- ---- a test for each answer

abbrev pub test : {A : Type 0} → Decided A → Bool
test (inl a) = true
test (inr n) = false

pub test-true : {A : Type 0} (d : Decided A) → IsTrue (test d) → A
test-true (inl a) t = a
test-true (inr n) t = cc

pub true-test : {A : Type 0} (d : Decided A) → A → IsTrue (test d)
true-test (inl a) x = refl
true-test (inr n) x = absurd (n x)

pub false-test : {A : Type 0} (d : Decided A) → ¬ A → test d ≡ false
false-test (inl a) n = absurd (n a)
false-test (inr n) m = refl

-- ---- what is reached

pub data Reach {X : Type 0} (Start : X → Type 0) (Go : X → X → Type 0) : X → Type 0 where
  starts : {x : X} → Start x → Reach Start Go x
  goes : {x y : X} → Reach Start Go x → Go x y → Reach Start Go y

pub record IsClosure {X : Type 0} (Start : X → Type 0) (Go : X → X → Type 0) : Type 0 where
  pub all : List X
  pub is : (x : X) → In x all ↔ Reach Start Go x

-- decided starts and steps, that lead to the nodes
pub record Steps {X : Type 0} (Start : X → Type 0) (Go : X → X → Type 0) (nodes : List X) : Type 0 where
  pub same : (x y : X) → Decided (x ≡ y)
  pub start : (x : X) → Decided (Start x)
  pub go : (x y : X) → Decided (Go x y)
  pub begins : (x : X) → Start x → In x nodes
  pub leads : (x y : X) → Go x y → In y nodes

record IsPart {X : Type 0} (Start : X → Type 0) (Go : X → X → Type 0) (found : List X) : Type 0 where
  sound : (x : X) → In x found → Reach Start Go x
  begun : (x : X) → Start x → In x found

-- how many nodes are not found yet
missing : {X : Type 0} → ((x y : X) → Decided (x ≡ y)) → List X → List X → ℕ
missing same nodes found = length (filter (λ y. test (not-dec (item-dec same y found))) nodes)

missing-falls : {X : Type 0} (same : (x y : X) → Decided (x ≡ y)) (nodes found : List X) (y : X) → In y nodes → ¬ In y found → missing same nodes (y ∷ found) < missing same nodes found
unfolding missing
missing-falls same nodes found y i n = filter-less (λ z. test (not-dec (item-dec same z (y ∷ found)))) (λ z. test (not-dec (item-dec same z found)))
    (λ z t. true-test (not-dec (item-dec same z found)) (λ j. test-true (not-dec (item-dec same z (y ∷ found))) t (inr j))) nodes y i
    (false-test (not-dec (item-dec same y (y ∷ found))) (λ m. m (inl refl))) (true-test (not-dec (item-dec same y found)) n)

whole : {X : Type 0} (Start : X → Type 0) (Go : X → X → Type 0) (found : List X) → IsPart Start Go found → ((x y : X) → In x found → Go x y → In y found) → {x : X} → Reach Start Go x → In x found
whole Start Go found p c (starts s) = p.begun _ s
whole Start Go found p c (goes r g) = c _ _ (whole Start Go found p c r) g

part-more : {X : Type 0} (Start : X → Type 0) (Go : X → X → Type 0) (found : List X) → IsPart Start Go found → (x y : X) → In x found → Go x y → IsPart Start Go (y ∷ found)
part-more Start Go found p x y i g = record {
  sound = λ z j. elim j [ inl e ↦ subst (Reach Start Go) (sym e) (goes (p.sound x i) g) | inr k ↦ p.sound z k ];
  begun = λ z s. inr (p.begun z s);
}

closed : {X : Type 0} (Start : X → Type 0) (Go : X → X → Type 0) (nodes found : List X) → Steps Start Go nodes → ¬ ((y : X) × In y nodes × (((x : X) × In x found × Go x y) × ¬ In y found)) → (x y : X) → In x found → Go x y → In y found
closed Start Go nodes found s none x y i g = elim (item-dec s.same y found) [ inl j ↦ j | inr n ↦ absurd (none (y, s.leads x y g, ((x, i, g), n))) ]

look : {X : Type 0} (Start : X → Type 0) (Go : X → X → Type 0) (nodes found : List X) → Steps Start Go nodes → Decided ((y : X) × In y nodes × (((x : X) × In x found × Go x y) × ¬ In y found))
look {X = X} Start Go nodes found s = any-dec (λ y. ((x : X) × In x found × Go x y) × ¬ In y found) (λ y. both-dec (any-dec (λ x. Go x y) (λ x. s.go x y) found) (not-dec (item-dec s.same y found))) nodes

close-go : {X : Type 0} (Start : X → Type 0) (Go : X → X → Type 0) (nodes found : List X) → Steps Start Go nodes → IsPart Start Go found → Decided ((y : X) × In y nodes × (((x : X) × In x found × Go x y) × ¬ In y found)) →
    ((y : X) → In y nodes → ¬ In y found → IsPart Start Go (y ∷ found) → IsClosure Start Go) → IsClosure Start Go
close-go Start Go nodes found s p (inl a) rec = rec a.0 a.1 a.2.1 (part-more Start Go found p a.2.0.0 a.0 a.2.0.1 a.2.0.2)
close-go Start Go nodes found s p (inr none) rec = record { all = found; is = λ x. (p.sound x, whole Start Go found p (closed Start Go nodes found s none)) }

close : {X : Type 0} (Start : X → Type 0) (Go : X → X → Type 0) (nodes : List X) (s : Steps Start Go nodes) (n : ℕ) (found : List X) → IsPart Start Go found → missing s.same nodes found ≤ n → IsClosure Start Go
close Start Go nodes s zero found p h = close-go Start Go nodes found s p (look Start Go nodes found s) (λ y i m q. let f = missing-falls s.same nodes found y i m in absurd (omega (arith, f, h)))
close Start Go nodes s (suc n) found p h = close-go Start Go nodes found s p (look Start Go nodes found s) (λ y i m q. close Start Go nodes s n (y ∷ found) q (let f = missing-falls s.same nodes found y i m in omega (arith, f, h)))

-- what is reached is a list
pub closure : {X : Type 0} (Start : X → Type 0) (Go : X → X → Type 0) (nodes : List X) → Steps Start Go nodes → IsClosure Start Go
closure Start Go nodes s = close Start Go nodes s (missing s.same nodes (filter (λ x. test (s.start x)) nodes)) (filter (λ x. test (s.start x)) nodes)
    (record {
      sound = λ x i. starts (test-true (s.start x) (filter-in (λ x. test (s.start x)) nodes x i).1);
      begun = λ x b. in-filter (λ x. test (s.start x)) nodes x (s.begins x b) (true-test (s.start x) b);
    }) (omega arith)
