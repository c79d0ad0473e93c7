-- What is in a list that was made of others.
use Rattle.std.proofs.Common.{◌≡◌, ℕ, zero, suc, ◌+◌, ◌<◌, ◌⊎◌, inl, inr, Bool, true, false, ◌||◌, ◌&&◌, cond, IsTrue, if◌then◌else◌, List, [], ◌∷◌, ◌++◌, length, map, filter, flat_map, refl, sym, ◌∙◌, ap, subst, arith}
use Rattle.std.specs.List.{list_any}
use Rattle.osgi_world.specs.Lists.{In, item_at, below, nth_list}

-- ---- tests

pub true-or-false : (b : Bool) → (b ≡ true) ⊎ (b ≡ false)
true-or-false true = inl refl
true-or-false false = inr refl

pub or-cases : (a b : Bool) → IsTrue (a || b) → IsTrue a ⊎ IsTrue b
or-cases true b t = inl refl
or-cases false b t = inr t

pub or-left : (a b : Bool) → IsTrue a → IsTrue (a || b)
or-left true b t = refl
or-left false b t = cc

pub or-right : (a b : Bool) → IsTrue b → IsTrue (a || b)
or-right true b t = refl
or-right false b t = t

pub and-cases : (a b : Bool) → IsTrue (a && b) → IsTrue a × IsTrue b
and-cases true b t = (refl, t)
and-cases false b t = cc

pub and-both : (a b : Bool) → IsTrue a → IsTrue b → IsTrue (a && b)
and-both true b t u = u
and-both false b t u = cc

-- ---- `In`

pub in-append_left : {X : Type 0} (xs ys : List X) (x : X) → In x xs → In x (xs ++ ys)
in-append_left [] ys x i = elim i [ ]
in-append_left (z ∷ xs) ys x (inl e) = inl e
in-append_left (z ∷ xs) ys x (inr i) = inr (in-append_left xs ys x i)

pub in-append_right : {X : Type 0} (xs ys : List X) (x : X) → In x ys → In x (xs ++ ys)
in-append_right [] ys x i = i
in-append_right (z ∷ xs) ys x i = inr (in-append_right xs ys x i)

in-append-cons : {X : Type 0} (z x : X) (xs ys : List X) → In x xs ⊎ In x ys → In x (z ∷ xs) ⊎ In x ys
in-append-cons z x xs ys (inl i) = inl (inr i)
in-append-cons z x xs ys (inr i) = inr i

pub in-append_cases : {X : Type 0} (xs ys : List X) (x : X) → In x (xs ++ ys) → In x xs ⊎ In x ys
in-append_cases [] ys x i = inr i
in-append_cases (z ∷ xs) ys x (inl e) = inl (inl e)
in-append_cases (z ∷ xs) ys x (inr i) = in-append-cons z x xs ys (in-append_cases xs ys x i)

pub in-map : {X Y : Type 0} (f : X → Y) (xs : List X) (x : X) → In x xs → In (f x) (map f xs)
in-map f [] x i = elim i [ ]
in-map f (z ∷ xs) x (inl e) = inl (ap f e)
in-map f (z ∷ xs) x (inr i) = inr (in-map f xs x i)

pub map-in : {X Y : Type 0} (f : X → Y) (xs : List X) (y : Y) → In y (map f xs) → (x : X) × In x xs × (y ≡ f x)
map-in f [] y i = elim i [ ]
map-in f (z ∷ xs) y (inl e) = (z, inl refl, e)
map-in f (z ∷ xs) y (inr i) = let r = map-in f xs y i in (r.0, inr r.1, r.2)

filter-cons : {X : Type 0} (p : X → Bool) (z : X) (ys : List X) (b : Bool) (x : X) → p z ≡ b → (In x ys → In x (z ∷ ys) × IsTrue (p x)) → In x (cond b (z ∷ ys) ys) → (x ≡ z) × IsTrue (p x) ⊎ In x ys
filter-cons p z ys true x e rest (inl same) = inl (same, ap p same ∙ e)
filter-cons p z ys true x e rest (inr i) = inr i
filter-cons p z ys false x e rest i = inr i

filter-in-cons : {X : Type 0} (p : X → Bool) (z : X) (xs : List X) (x : X) → (x ≡ z) × IsTrue (p x) ⊎ In x (filter p xs) → (In x (filter p xs) → In x xs × IsTrue (p x)) → In x (z ∷ xs) × IsTrue (p x)
filter-in-cons p z xs x (inl h) rest = (inl h.0, h.1)
filter-in-cons p z xs x (inr i) rest = let r = rest i in (inr r.0, r.1)

filter-head : {X : Type 0} (p : X → Bool) (z : X) (ys : List X) (b : Bool) (x : X) → p z ≡ b → In x (cond b (z ∷ ys) ys) → (x ≡ z) × IsTrue (p x) ⊎ In x ys
filter-head p z ys true x e (inl same) = inl (same, ap p same ∙ e)
filter-head p z ys true x e (inr i) = inr i
filter-head p z ys false x e i = inr i

pub filter-in : {X : Type 0} (p : X → Bool) (xs : List X) (x : X) → In x (filter p xs) → In x xs × IsTrue (p x)
filter-in p [] x i = elim i [ ]
filter-in p (z ∷ xs) x i = filter-in-cons p z xs x (filter-head p z (filter p xs) (p z) x refl i) (filter-in p xs x)

in-filter-head : {X : Type 0} (p : X → Bool) (z : X) (ys : List X) (b : Bool) (x : X) → p z ≡ b → IsTrue (p x) → (x ≡ z) ⊎ In x ys → In x (cond b (z ∷ ys) ys)
in-filter-head p z ys true x e t (inl same) = inl same
in-filter-head p z ys true x e t (inr i) = inr i
in-filter-head p z ys false x e t (inl same) = let f : p x ≡ false = ap p same ∙ e in cc
in-filter-head p z ys false x e t (inr i) = i

in-filter-cons : {X : Type 0} (p : X → Bool) (z : X) (xs : List X) (x : X) → (x ≡ z) ⊎ In x xs → (In x xs → In x (filter p xs)) → (x ≡ z) ⊎ In x (filter p xs)
in-filter-cons p z xs x (inl same) rest = inl same
in-filter-cons p z xs x (inr i) rest = inr (rest i)

pub in-filter : {X : Type 0} (p : X → Bool) (xs : List X) (x : X) → In x xs → IsTrue (p x) → In x (filter p xs)
in-filter p [] x i t = elim i [ ]
in-filter p (z ∷ xs) x i t = in-filter-head p z (filter p xs) (p z) x refl t (in-filter-cons p z xs x i (λ j. in-filter p xs x j t))

pub flat_map-in : {X Y : Type 0} (f : X → List Y) (xs : List X) (y : Y) → In y (flat_map f xs) → (x : X) × In x xs × In y (f x)
flat_map-in f [] y i = elim i [ ]
flat_map-in f (z ∷ xs) y i = elim (in-append_cases (f z) (flat_map f xs) y i) [
  | inl l ↦ (z, inl refl, l)
  | inr r ↦ let w = flat_map-in f xs y r in (w.0, inr w.1, w.2)
]

pub in-flat_map : {X Y : Type 0} (f : X → List Y) (xs : List X) (x : X) (y : Y) → In x xs → In y (f x) → In y (flat_map f xs)
in-flat_map f [] x y i j = elim i [ ]
in-flat_map f (z ∷ xs) x y (inl e) j = in-append_left (f z) (flat_map f xs) y (subst (λ w. In y (f w)) e j)
in-flat_map f (z ∷ xs) x y (inr i) j = in-append_right (f z) (flat_map f xs) y (in-flat_map f xs x y i j)

pub any-in : {X : Type 0} (p : X → Bool) (xs : List X) → IsTrue (list_any p xs) → (x : X) × In x xs × IsTrue (p x)
any-in p [] t = cc
any-in p (z ∷ xs) t = elim (or-cases (p z) (list_any p xs) t) [
  | inl h ↦ (z, inl refl, h)
  | inr r ↦ let w = any-in p xs r in (w.0, inr w.1, w.2)
]

pub in-any : {X : Type 0} (p : X → Bool) (xs : List X) (x : X) → In x xs → IsTrue (p x) → IsTrue (list_any p xs)
in-any p [] x i t = elim i [ ]
in-any p (z ∷ xs) x (inl e) t = or-left (p z) (list_any p xs) (ap p (sym e) ∙ t)
in-any p (z ∷ xs) x (inr i) t = or-right (p z) (list_any p xs) (in-any p xs x i t)

-- ---- `below` and `item_at`

below-cases : (n i : ℕ) → In i (below n) ⊎ In i (n ∷ []) → (In i (below n) → i < n) → i < suc n
below-cases n i (inl j) rest = let h = rest j in omega (arith, h)
below-cases n i (inr (inl e)) rest = omega (arith, e)
below-cases n i (inr (inr j)) rest = elim j [ ]

pub below-in : (n i : ℕ) → In i (below n) → i < n
below-in zero i j = elim j [ ]
below-in (suc n) i j = below-cases n i (in-append_cases (below n) (n ∷ []) i j) (below-in n i)

in-below-cases : (n i : ℕ) → (i < n) ⊎ (i ≡ n) → (i < n → In i (below n)) → In i (below n ++ n ∷ [])
in-below-cases n i (inl h) rest = in-append_left (below n) (n ∷ []) i (rest h)
in-below-cases n i (inr e) rest = in-append_right (below n) (n ∷ []) i (inl e)

less-cases : (n i : ℕ) → i < suc n → (i < n) ⊎ (i ≡ n)
less-cases n i h = grind (arith, h)

pub in-below : (n i : ℕ) → i < n → In i (below n)
in-below zero i h = absurd (omega (arith, h))
in-below (suc n) i h = in-below-cases n i (less-cases n i h) (in-below n i)

pub at-in : {X : Type 0} (xs : List X) (n : ℕ) (x : X) → In x (item_at xs n) → In x xs
at-in [] n x i = elim i [ ]
at-in (z ∷ xs) zero x (inl e) = inl e
at-in (z ∷ xs) zero x (inr i) = elim i [ ]
at-in (z ∷ xs) (suc n) x i = inr (at-in xs n x i)

pub at-once : {X : Type 0} (xs : List X) (n : ℕ) (x y : X) → In x (item_at xs n) → In y (item_at xs n) → x ≡ y
at-once [] n x y i j = elim i [ ]
at-once (z ∷ xs) zero x y (inl e) (inl f) = e ∙ sym f
at-once (z ∷ xs) zero x y (inl e) (inr j) = elim j [ ]
at-once (z ∷ xs) zero x y (inr i) j = elim i [ ]
at-once (z ∷ xs) (suc n) x y i j = at-once xs n x y i j

pub in-at : {X : Type 0} (xs : List X) (x : X) → In x xs → (n : ℕ) × (n < length xs) × In x (item_at xs n)
in-at [] x i = elim i [ ]
in-at (z ∷ xs) x (inl e) = (0, omega arith, inl e)
in-at (z ∷ xs) x (inr i) = let r = in-at xs x i in (suc r.0, omega (arith, r.1), r.2)

pub at-some : {X : Type 0} (xs : List X) (n : ℕ) → n < length xs → (x : X) × In x (item_at xs n)
at-some [] n h = absurd (omega (arith, h))
at-some (z ∷ xs) zero h = (z, inl refl)
at-some (z ∷ xs) (suc n) h = at-some xs n (omega (arith, h))

pub at-within : {X : Type 0} (xs : List X) (n : ℕ) (x : X) → In x (item_at xs n) → n < length xs
at-within [] n x i = elim i [ ]
at-within (z ∷ xs) zero x i = omega arith
at-within (z ∷ xs) (suc n) x i = let h = at-within xs n x i in omega (arith, h)

pub entry-in : {X : Type 0} (xs : List (List X)) (n : ℕ) (x : X) → In x (nth_list xs n) → (l : List X) × In l xs × In x l
entry-in [] n x i = elim i [ ]
entry-in (z ∷ xs) zero x i = (z, inl refl, i)
entry-in (z ∷ xs) (suc n) x i = let r = entry-in xs n x i in (r.0, inr r.1, r.2)

-- the entries of one item each, and then of one empty one or none
entry-end : {X : Type 0} (b : Bool) (n : ℕ) (x : X) → In x (nth_list (if b then [] ∷ [] else []) n) → ⊥
entry-end true zero x i = i
entry-end true (suc n) x i = i
entry-end false n x i = i

pub entry-singles : {X Y : Type 0} (f : X → Y) (b : Bool) (xs : List X) (n : ℕ) (y : Y) → In y (nth_list (map (λ x. f x ∷ []) xs ++ (if b then [] ∷ [] else [])) n) → (x : X) × In x (item_at xs n) × (y ≡ f x)
entry-singles f b [] n y i = absurd (entry-end b n y i)
entry-singles f b (z ∷ xs) zero y (inl e) = (z, inl refl, e)
entry-singles f b (z ∷ xs) zero y (inr i) = elim i [ ]
entry-singles f b (z ∷ xs) (suc n) y i = entry-singles f b xs n y i

pub singles-entry : {X Y : Type 0} (f : X → Y) (more : List (List Y)) (xs : List X) (n : ℕ) (x : X) → In x (item_at xs n) → In (f x) (nth_list (map (λ x. f x ∷ []) xs ++ more) n)
singles-entry f more [] n x i = elim i [ ]
singles-entry f more (z ∷ xs) zero x (inl e) = inl (ap f e)
singles-entry f more (z ∷ xs) zero x (inr i) = elim i [ ]
singles-entry f more (z ∷ xs) (suc n) x i = singles-entry f more xs n x i

pub length-append : {X : Type 0} (xs ys : List X) → length (xs ++ ys) ≡ length xs + length ys
length-append [] ys = omega arith
length-append (x ∷ xs) ys = let e = length-append xs ys in omega (arith, e)

pub length-map : {X Y : Type 0} (f : X → Y) (xs : List X) → length (map f xs) ≡ length xs
length-map f [] = refl
length-map f (x ∷ xs) = let e = length-map f xs in omega (arith, e)
