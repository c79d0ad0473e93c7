-- Loops that list the numbers of revisions.
use Rattle.std.proofs.Common.{◌≡◌, ◌↔◌, inl, inr, ℕ, ◌+◌, ◌<◌, ◌≤◌, List, [], ◌∷◌, ◌++◌, length, get_or, take, ap, subst, Contains}
use Rattle.std.proofs.lemmas.List.{take_all}
use Rattle.osgi_base.specs.declared.ids.RevisionId.{RevisionId}
use Rattle.osgi_space_rules.proofs.Grow.{in_more}
use Rattle.osgi_space_sources.specs.laws.Adding.{adds-push}
use Rattle.osgi_space.proofs.Ids.{contains-in}
use Rattle.osgi_space_rows.specs.Agree.{id}
use Rattle.osgi_world.specs.Lists.{In}

-- the list has the numbers of these revisions
abbrev pub Numbers : List ℕ → List RevisionId → Type 0
Numbers numbers xs = (n : ℕ) → Contains numbers n ↔ In (id n) xs

pub no-numbers : (numbers : List ℕ) → numbers ≡ [] → (xs : List RevisionId) → Numbers numbers (take 0 xs)
no-numbers numbers e xs n = (λ has. elim (subst (In n) e (contains-in numbers n has)) [ ], λ here. elim here [ ])

pub one-number : (numbers : List ℕ) (xs : List RevisionId) (i : ℕ) (x : RevisionId) → i < length xs → x ≡ get_or xs i x → Numbers numbers (take i xs) → Numbers (numbers ++ x.0 ∷ []) (take (i + 1) xs)
one-number numbers xs i x within at before n =
    let put = (adds-push numbers x.0).exact n in
    let more = in_more xs i x within at (id n) in (
      λ has. elim (put.0 has) [ inl o ↦ more.1 (inl ((before n).0 o)) | inr e ↦ more.1 (inr (ap id e)) ],
      λ there. elim (more.0 there) [ inl o ↦ put.1 (inl ((before n).1 o)) | inr e ↦ put.1 (inr (ap (λ (r : RevisionId). r.0) e)) ],
    )

pub all-numbers : (numbers : List ℕ) (xs : List RevisionId) (i : ℕ) → length xs ≤ i → Numbers numbers (take i xs) → Numbers numbers xs
all-numbers numbers xs i past before = subst (Numbers numbers) (take_all i xs past) before
