-- Lists by their items.
use Rattle.std.proofs.Common.{◌≡◌, inl, inr, zero, suc, ◌<◌, ℕ, List, [], ◌∷◌, ◌++◌, length, map, drop, take, get_or, refl, sym, ap, subst, arith, ◌∙◌, ◌≤◌}
use Rattle.std.specs.Prelude.{◌==◌, ◌&&◌, not, Bool, true, false, cond, All, AllPairs, filter, bytes_eq}
use Rattle.std.specs.List.{AllByRecursion, list_any}
use Rattle.std.specs.Cmp.{nat_eq_equiv}
use Rattle.std.proofs.lemmas.Bool.{or_parts}
use Rattle.std.proofs.lemmas.List.Elements.{All-contains, All-from_recursion}
use Rattle.osgi_world.specs.Lists.{In}
use Rattle.osgi_ops.specs.laws.Items.{In-contains}

pub eq-turn : (x y : ℕ) → (x == y) ≡ (y == x)
eq-turn x y = nat_eq_equiv.symm x y

pub all-in : {X : Type 0} (P : X → Type 0) (xs : List X) → ((x : X) → In x xs → P x) → All P xs
all-in {X} P xs each = All-from_recursion P xs (go xs each)
  where
    go : (ys : List X) → ((x : X) → In x ys → P x) → AllByRecursion P ys
    go [] p = tt
    go (y ∷ ys) p = (p y (inl refl), go ys (λ x i. p x (inr i)))

pub in-all : {X : Type 0} (P : X → Type 0) (xs : List X) (x : X) → All P xs → In x xs → P x
in-all P xs x all i = All-contains P xs x all (In-contains xs x i)

pub in-drop : {X : Type 0} (n : ℕ) (xs : List X) (x : X) → In x (drop n xs) → In x xs
in-drop zero xs x i = i
in-drop (suc n) [] x i = i
in-drop (suc n) (y ∷ xs) x i = inr (in-drop n xs x i)

in-middle : {X : Type 0} (xs : List X) (x : X) (rest : List X) → In x (xs ++ x ∷ rest)
in-middle [] x rest = inl refl
in-middle (y ∷ xs) x rest = inr (in-middle xs x rest)

-- what stands before an item stands in the relation to it that all pairs stand in
pub before-middle : {X : Type 0} (R : X → X → Type 0) (xs : List X) (x : X) (rest : List X) → AllPairs R (xs ++ x ∷ rest) → (y : X) → In y xs → R y x
before-middle R [] x rest p y i = elim i [ ]
before-middle R (z ∷ xs) x rest p y (inl e) =
    let head : All (R z) (xs ++ x ∷ rest) = (λ k d within. p 0 (suc k) d (omega arith) (omega (arith, within))) in
    subst (λ u. R u x) (sym e) (in-all (R z) (xs ++ x ∷ rest) x head (in-middle xs x rest))
before-middle R (z ∷ xs) x rest p y (inr i) = before-middle R xs x rest (λ j k d less within. p (suc j) (suc k) d (omega (arith, less)) (omega (arith, within))) y i

-- a list before, at and after a place
pub split-at : {X : Type 0} (xs : List X) (i : ℕ) (d : X) → i < length xs → xs ≡ take i xs ++ get_or xs i d ∷ drop (suc i) xs
split-at [] i d within = absurd (omega (arith, within))
split-at (x ∷ xs) zero d within = refl
split-at (x ∷ xs) (suc i) d within = ap (λ l. x ∷ l) (split-at xs i d (omega (arith, within)))

pub take-more : {X : Type 0} (xs : List X) (i : ℕ) (d : X) → i < length xs → take (suc i) xs ≡ take i xs ++ get_or xs i d ∷ []
take-more [] i d within = absurd (omega (arith, within))
take-more (x ∷ xs) zero d within = refl
take-more (x ∷ xs) (suc i) d within = ap (λ l. x ∷ l) (take-more xs i d (omega (arith, within)))

pub map-each : {A B : Type 0} (f g : A → B) → ((a : A) → f a ≡ g a) → (xs : List A) → map f xs ≡ map g xs
map-each f g same [] = refl
map-each f g same (x ∷ xs) = λ i. same x i ∷ map-each f g same xs i

pub map-twice : {A B C : Type 0} (f : A → B) (g : B → C) (h : A → C) → ((a : A) → g (f a) ≡ h a) → (xs : List A) → map g (map f xs) ≡ map h xs
map-twice f g h same [] = refl
map-twice f g h same (x ∷ xs) = λ i. same x i ∷ map-twice f g h same xs i

-- a filter of one item more at the end
pub filter-push : {X : Type 0} (p : X → Bool) (xs : List X) (x : X) (k : Bool) → p x ≡ k → filter p (xs ++ x ∷ []) ≡ filter p xs ++ cond k (x ∷ []) []
filter-push p [] x k is = ap (λ t. cond t (x ∷ []) []) is
filter-push p (y ∷ xs) x k is = by (p y) (filter-push p xs x k is)
  where
    by : (t : Bool) → filter p (xs ++ x ∷ []) ≡ filter p xs ++ cond k (x ∷ []) [] → cond t (y ∷ filter p (xs ++ x ∷ [])) (filter p (xs ++ x ∷ [])) ≡ cond t (y ∷ filter p xs) (filter p xs) ++ cond k (x ∷ []) []
    by true ih = ap (λ l. y ∷ l) ih
    by false ih = ih

pub filter-mapped : {A B : Type 0} (f : A → B) (p : B → Bool) (q : A → Bool) → ((a : A) → p (f a) ≡ q a) → (xs : List A) → filter p (map f xs) ≡ map f (filter q xs)
filter-mapped f p q same [] = refl
filter-mapped {A} {B} f p q same (x ∷ xs) = ap (λ t. cond t (f x ∷ filter p (map f xs)) (filter p (map f xs))) (same x) ∙ go (q x) (filter-mapped f p q same xs)
  where
    go : (k : Bool) → filter p (map f xs) ≡ map f (filter q xs) → cond k (f x ∷ filter p (map f xs)) (filter p (map f xs)) ≡ map f (cond k (x ∷ filter q xs) (filter q xs))
    go true ih = ap (λ l. f x ∷ l) ih
    go false ih = ih

pub none-taken : {X : Type 0} (p : X → Bool) (xs : List X) → list_any p xs ≡ false → filter (λ x. not (p x)) xs ≡ xs
none-taken p [] e = refl
none-taken p (x ∷ xs) e =
    let r = or_parts (p x) (list_any p xs) e in
    ap (λ t. cond (not t) (x ∷ filter (λ y. not (p y)) xs) (filter (λ y. not (p y)) xs)) r.0 ∙ ap (λ l. x ∷ l) (none-taken p xs r.1)

pub drop-append : {X : Type 0} (n : ℕ) (xs ys : List X) → n ≤ length xs → drop n (xs ++ ys) ≡ drop n xs ++ ys
drop-append zero xs ys low = refl
drop-append (suc n) [] ys low = absurd (omega (arith, low))
drop-append (suc n) (x ∷ xs) ys low = drop-append n xs ys (omega (arith, low))

pub drop-one : {X Y : Type 0} (f : X → Y) (n : ℕ) (xs : List X) → drop 1 (map f (drop n xs)) ≡ map f (drop (suc n) xs)
drop-one f zero [] = refl
drop-one f zero (x ∷ xs) = refl
drop-one f (suc n) [] = refl
drop-one f (suc n) (x ∷ xs) = drop-one f n xs

pub length-more : {X : Type 0} (xs : List X) (x : X) → length (xs ++ x ∷ []) ≡ suc (length xs)
length-more [] x = refl
length-more (y ∷ xs) x = ap suc (length-more xs x)

pub bytes-turn : (a b : List ℕ) → bytes_eq a b ≡ bytes_eq b a
bytes-turn [] [] = refl
bytes-turn [] (y ∷ ys) = refl
bytes-turn (x ∷ xs) [] = refl
bytes-turn (x ∷ xs) (y ∷ ys) = λ i. eq-turn x y i && bytes-turn xs ys i
