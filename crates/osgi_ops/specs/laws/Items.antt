-- Items of lists, in the words of the rules of wirings: what filters, maps and look-ups do to them.
use Rattle.std.proofs.Common.{◌≡◌, ◌⊎◌, inl, inr, Bool, true, false, cond, List, [], ◌∷◌, ◌++◌, refl, sym, ap, ◌∙◌, subst}
use Rattle.std.specs.Prelude.{Some, filter, find, map, Contains}
use Rattle.osgi_world.specs.Lists.{In, Two}
use Rattle.osgi_ops.specs.laws.Members.{Contains-cases, Contains-first, Contains-more, Contains-none}

pub In-filter : {X : Type 0} (p : X → Bool) (xs : List X) (x : X) → In x (filter p xs) → In x xs × (p x ≡ true)
In-filter p [] x i = elim i [ ]
In-filter {X} p (y ∷ ys) x i = go (p y) refl i (In-filter p ys x)
  where
    go : (k : Bool) → p y ≡ k → In x (cond k (y ∷ filter p ys) (filter p ys)) → (In x (filter p ys) → In x ys × (p x ≡ true)) → In x (y ∷ ys) × (p x ≡ true)
    go true e (inl s) ih = (inl s, ap p s ∙ e)
    go true e (inr j) ih = let r = ih j in (inr r.0, r.1)
    go false e j ih = let r = ih j in (inr r.0, r.1)

pub In-kept : {X : Type 0} (p : X → Bool) (xs : List X) (x : X) → In x xs → p x ≡ true → In x (filter p xs)
In-kept p [] x i e = elim i [ ]
In-kept {X} p (y ∷ ys) x i e = go (p y) refl i (λ j. In-kept p ys x j e)
  where
    go : (k : Bool) → p y ≡ k → (x ≡ y) ⊎ In x ys → (In x ys → In x (filter p ys)) → In x (cond k (y ∷ filter p ys) (filter p ys))
    go true f (inl s) ih = inl s
    go true f (inr j) ih = inr (ih j)
    go false f (inl s) ih = absurd (let bad : true ≡ false = sym e ∙ ap p s ∙ f in cc bad)
    go false f (inr j) ih = ih j

pub In-map : {X Y : Type 0} (f : X → Y) (xs : List X) (y : Y) → In y (map f xs) → (x : X) × In x xs × (y ≡ f x)
In-map f [] y i = elim i [ ]
In-map f (x ∷ xs) y (inl e) = (x, inl refl, e)
In-map f (x ∷ xs) y (inr i) = let r = In-map f xs y i in (r.0, inr r.1, r.2)

pub In-mapped : {X Y : Type 0} (f : X → Y) (xs : List X) (x : X) → In x xs → In (f x) (map f xs)
In-mapped f [] x i = elim i [ ]
In-mapped f (y ∷ ys) x (inl e) = inl (ap f e)
In-mapped f (y ∷ ys) x (inr i) = inr (In-mapped f ys x i)

pub In-push : {X : Type 0} (xs : List X) (y x : X) → In x (xs ++ y ∷ []) → In x xs ⊎ (x ≡ y)
In-push [] y x (inl e) = inr e
In-push [] y x (inr i) = elim i [ ]
In-push (z ∷ zs) y x (inl e) = inl (inl e)
In-push (z ∷ zs) y x (inr i) = elim (In-push zs y x i) [ inl j ↦ inl (inr j) | inr e ↦ inr e ]

pub In-left : {X : Type 0} (xs ys : List X) (x : X) → In x xs → In x (xs ++ ys)
In-left [] ys x i = elim i [ ]
In-left (z ∷ zs) ys x (inl e) = inl e
In-left (z ∷ zs) ys x (inr i) = inr (In-left zs ys x i)

pub In-last : {X : Type 0} (xs : List X) (x : X) → In x (xs ++ x ∷ [])
In-last [] x = inl refl
In-last (z ∷ zs) x = inr (In-last zs x)

-- what is found is there, and passes
pub found-in : {X : Type 0} (p : X → Bool) (xs : List X) (x : X) → find p xs ≡ Some x → In x xs × (p x ≡ true)
found-in p [] x e = absurd (cc e)
found-in {X} p (y ∷ ys) x e = go (p y) refl e (found-in p ys x)
  where
    go : (k : Bool) → p y ≡ k → cond k (Some y) (find p ys) ≡ Some x → (find p ys ≡ Some x → In x ys × (p x ≡ true)) → In x (y ∷ ys) × (p x ≡ true)
    go true f q ih = let same : y ≡ x = cc q in (inl (sym same), ap p (sym same) ∙ f)
    go false f q ih = let r = ih q in (inr r.0, r.1)

-- something that passes is found where one does
pub find-some : {X : Type 0} (p : X → Bool) (xs : List X) (x : X) → In x xs → p x ≡ true → (y : X) × (find p xs ≡ Some y)
find-some p [] x i e = elim i [ ]
find-some {X} p (y ∷ ys) x i e = go (p y) refl i (λ j. find-some p ys x j e)
  where
    go : (k : Bool) → p y ≡ k → (x ≡ y) ⊎ In x ys → (In x ys → (z : X) × (find p ys ≡ Some z)) → (z : X) × (cond k (Some y) (find p ys) ≡ Some z)
    go true f j ih = (y, refl)
    go false f (inl s) ih = absurd (let bad : true ≡ false = sym e ∙ ap p s ∙ f in cc bad)
    go false f (inr j) ih = ih j

-- one more at the end does not change what is found
pub find-push : {X : Type 0} (p : X → Bool) (xs : List X) (y x : X) → find p xs ≡ Some x → find p (xs ++ y ∷ []) ≡ Some x
find-push p [] y x e = absurd (cc e)
find-push {X} p (z ∷ zs) y x e = go (p z) e (find-push p zs y x)
  where
    go : (k : Bool) → cond k (Some z) (find p zs) ≡ Some x → (find p zs ≡ Some x → find p (zs ++ y ∷ []) ≡ Some x) → cond k (Some z) (find p (zs ++ y ∷ [])) ≡ Some x
    go true q ih = q
    go false q ih = ih q

-- nor does a filter that keeps all that pass
pub find-kept : {X : Type 0} (p q : X → Bool) (xs : List X) → ((x : X) → p x ≡ true → q x ≡ true) → find p (filter q xs) ≡ find p xs
find-kept p q [] keeps = refl
find-kept {X} p q (y ∷ ys) keeps = go (p y) (q y) refl refl (find-kept p q ys keeps)
  where
    go : (k l : Bool) → p y ≡ k → q y ≡ l → find p (filter q ys) ≡ find p ys → find p (cond l (y ∷ filter q ys) (filter q ys)) ≡ cond k (Some y) (find p ys)
    go true true e f ih = ap (λ c. cond c (Some y) (find p (filter q ys))) e
    go true false e f ih = absurd (let bad : true ≡ false = sym (keeps y e) ∙ f in cc bad)
    go false true e f ih = ap (λ c. cond c (Some y) (find p (filter q ys))) e ∙ ih
    go false false e f ih = ih

-- nor a map that leaves what passes, and lets nothing more pass
pub find-mapped : {X : Type 0} (p : X → Bool) (f : X → X) (xs : List X) → ((x : X) → p (f x) ≡ p x) → ((x : X) → p x ≡ true → f x ≡ x) → find p (map f xs) ≡ find p xs
find-mapped p f [] same stays = refl
find-mapped {X} p f (y ∷ ys) same stays = go (p y) refl (find-mapped p f ys same stays)
  where
    go : (k : Bool) → p y ≡ k → find p (map f ys) ≡ find p ys → cond (p (f y)) (Some (f y)) (find p (map f ys)) ≡ cond (p y) (Some y) (find p ys)
    go true e ih = (λ i. cond (same y i) (Some (stays y e i)) (ih i))
    go false e ih = ap (λ c. cond c (Some (f y)) (find p (map f ys))) (same y ∙ e) ∙ ih ∙ sym (ap (λ c. cond c (Some y) (find p ys)) e)

-- items of which no two stand so are one
pub not-two : {X : Type 0} (R : X → X → Type 0) → ((x y : X) → R x y → R y x) → (xs : List X) → ¬ Two R xs → (x y : X) → In x xs → In y xs → R x y → x ≡ y
not-two R turn [] n x y i j r = elim i [ ]
not-two R turn (z ∷ zs) n x y (inl e) (inl f) r = e ∙ sym f
not-two R turn (z ∷ zs) n x y (inl e) (inr j) r = absurd (n (inl (y, j, subst (λ u. R u y) e r)))
not-two R turn (z ∷ zs) n x y (inr i) (inl f) r = absurd (n (inl (x, i, subst (λ u. R u x) f (turn x y r))))
not-two R turn (z ∷ zs) n x y (inr i) (inr j) r = not-two R turn zs (λ t. n (inr t)) x y i j r

pub In-contains : {X : Type 0} (xs : List X) (x : X) → In x xs → Contains xs x
In-contains [] x i = elim i [ ]
In-contains (y ∷ ys) x (inl e) = subst (Contains (y ∷ ys)) (sym e) (Contains-first y ys)
In-contains (y ∷ ys) x (inr i) = Contains-more y ys x (In-contains ys x i)

pub contains-In : {X : Type 0} (xs : List X) (x : X) → Contains xs x → In x xs
contains-In [] x c = absurd (Contains-none x c)
contains-In (y ∷ ys) x c = elim (Contains-cases y ys x c) [ inl e ↦ inl (sym e) | inr i ↦ inr (contains-In ys x i) ]
