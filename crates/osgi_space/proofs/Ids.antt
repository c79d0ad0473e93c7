-- Revisions by their numbers.
use Rattle.std.proofs.Common.{◌≡◌, ◌↔◌, inl, inr, ℕ, List, [], ◌∷◌, refl, sym, ap, arith, map, Contains}
use Rattle.osgi_base.specs.declared.ids.RevisionId.{RevisionId}
use Rattle.osgi_world.specs.Lists.{In}
use Rattle.osgi_space_rows.specs.Agree.{id}
use Rattle.osgi_space_sources.specs.laws.Members.{cons-cases, here, later}

pub in-contains : {X : Type 0} (xs : List X) (x : X) → In x xs → Contains xs x
in-contains [] x i = elim i [ ]
in-contains (y ∷ ys) x (inl e) = here y ys x (sym e)
in-contains (y ∷ ys) x (inr i) = later y ys x (in-contains ys x i)

pub contains-in : {X : Type 0} (xs : List X) (x : X) → Contains xs x → In x xs
contains-in [] x at = absurd (omega (arith, at.1))
contains-in (y ∷ ys) x at = elim (cons-cases y ys x at) [ inl e ↦ inl (sym e) | inr l ↦ inr (contains-in ys x l) ]

pub numbers-of : (xs : List ℕ) → map (λ (r : RevisionId). r.0) (map id xs) ≡ xs
numbers-of [] = refl
numbers-of (x ∷ xs) = ap (λ ys. x ∷ ys) (numbers-of xs)

in-ids : (xs : List ℕ) (x : RevisionId) → In x (map id xs) → In x.0 xs
in-ids [] x i = i
in-ids (y ∷ ys) x (inl e) = inl (ap (λ (r : RevisionId). r.0) e)
in-ids (y ∷ ys) x (inr i) = inr (in-ids ys x i)

ids-in : (xs : List ℕ) (x : RevisionId) → In x.0 xs → In x (map id xs)
ids-in [] x i = i
ids-in (y ∷ ys) x (inl e) = inl (ap id e)
ids-in (y ∷ ys) x (inr i) = inr (ids-in ys x i)

pub ids-contain : (xs : List ℕ) (x : RevisionId) → In x (map id xs) ↔ Contains xs x.0
ids-contain xs x = (λ i. in-contains xs x.0 (in-ids xs x i), λ at. ids-in xs x (contains-in xs x.0 at))

id-of : (xs : List RevisionId) (n : ℕ) → Contains (map (λ (r : RevisionId). r.0) xs) n → In (id n) xs
id-of [] n at = absurd (omega (arith, at.1))
id-of (x ∷ xs) n at = elim (cons-cases x.0 (map (λ (r : RevisionId). r.0) xs) n at) [ inl e ↦ inl (ap id (sym e)) | inr l ↦ inr (id-of xs n l) ]

of-id : (xs : List RevisionId) (n : ℕ) → In (id n) xs → Contains (map (λ (r : RevisionId). r.0) xs) n
of-id [] n i = elim i [ ]
of-id (x ∷ xs) n (inl e) = here x.0 (map (λ (r : RevisionId). r.0) xs) n (sym (ap (λ (r : RevisionId). r.0) e))
of-id (x ∷ xs) n (inr i) = later x.0 (map (λ (r : RevisionId). r.0) xs) n (of-id xs n i)

pub contain-id : (xs : List RevisionId) (n : ℕ) → Contains (map (λ (r : RevisionId). r.0) xs) n ↔ In (id n) xs
contain-id xs n = (id-of xs n, of-id xs n)
