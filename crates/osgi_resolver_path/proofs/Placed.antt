-- Members by their places.
use Rattle.std.proofs.Common.{◌≡◌, ℕ, zero, suc, inl, inr, ◌⊎◌, IsTrue, List, [], ◌∷◌, ◌++◌, length, take, refl, sym, ◌∙◌, ap, subst, arith}
use Rattle.std.specs.Prelude.{Bool, true, false, cond, ◌==◌, ◌||◌, None, Some, slice_get}
use Rattle.std.specs.List.{list_any}
use Rattle.std.proofs.lemmas.Bool.{eq-eqb}
use Rattle.osgi_base.specs.declared.ids.RevisionId.{RevisionId}
use Rattle.osgi_resolver_theory.proofs.Lists.{any-in, in-any}
use Rattle.osgi_resolver_theory.proofs.Values.{rev-eq, rev-same}
use Rattle.osgi_world.specs.Lists.{In}
use Rattle.osgi_resolver_path.proofs.Decided.{get-in}
use Rattle.osgi_resolver_path.proofs.Joining.{both-ways}
use Rattle.osgi_base.specs.NumberMaps.{Puts, value_at}
use Rattle.osgi_base.specs.declared.number_map.NumberMap.{NumberMap}
use Rattle.osgi_resolver_path.specs.computed.Placed.{ArePlaces}

pub in-get : {X : Type 0} (xs : List X) (x : X) → In x xs → (n : ℕ) × (slice_get xs n ≡ Some x)
in-get [] x i = elim i [ ]
in-get (y ∷ ys) x (inl e) = (zero, ap Some (sym e))
in-get (y ∷ ys) x (inr i) = let r = in-get ys x i in (suc r.0, r.1)

some-is : {X : Type 0} (x y : X) → Some x ≡ Some y → x ≡ y
some-is x y e = cc

pub none-some : {X : Type 0} (x : X) → None ≡ Some x → ⊥
none-some x e = cc

-- a member has a place
placed-at : (places : NumberMap ℕ) (ids : List RevisionId) (r : RevisionId) → ArePlaces places ids → IsTrue (list_any (λ (k : RevisionId). k.0 == r.0) ids) → (n : ℕ) × (slice_get ids n ≡ Some r) × (value_at places r.0 ≡ Some n)
placed-at places ids r are t =
    let found = any-in (λ (k : RevisionId). k.0 == r.0) ids t in
    let at = in-get ids r (subst (λ x. In x ids) (rev-eq found.0 r found.2) found.1) in
    (at.0, at.1, are r at.0 at.1)

-- where no place stands under its number, it is no member
pub none-placed : (places : NumberMap ℕ) (ids : List RevisionId) (r : RevisionId) → ArePlaces places ids → value_at places r.0 ≡ None → false ≡ list_any (λ (k : RevisionId). k.0 == r.0) ids
none-placed places ids r are none = both-ways false _ (λ t. absurd (cc t)) (λ t. absurd (none-some (placed-at places ids r are t).0 (sym none ∙ (placed-at places ids r are t).2)))

-- where no member stands at the place, it is none
pub none-there : (places : NumberMap ℕ) (ids : List RevisionId) (r : RevisionId) (n : ℕ) → ArePlaces places ids → value_at places r.0 ≡ Some n → slice_get ids n ≡ None → false ≡ list_any (λ (k : RevisionId). k.0 == r.0) ids
none-there places ids r n are place none = both-ways false _ (λ t. absurd (cc t)) (λ t.
    let at = placed-at places ids r are t in
    absurd (none-some r (sym none ∙ ap (slice_get ids) (some-is n at.0 (sym place ∙ at.2)) ∙ at.1)))

-- and else it is one exactly where it stands there
pub one-there : (places : NumberMap ℕ) (ids : List RevisionId) (r m : RevisionId) (n : ℕ) → ArePlaces places ids → value_at places r.0 ≡ Some n → slice_get ids n ≡ Some m → (m.0 == r.0) ≡ list_any (λ (k : RevisionId). k.0 == r.0) ids
one-there places ids r m n are place there = both-ways (m.0 == r.0) _ (λ t. in-any (λ (k : RevisionId). k.0 == r.0) ids m (get-in ids n m there) t) (λ t.
    let at = placed-at places ids r are t in
    rev-same m r (some-is m r (sym there ∙ ap (slice_get ids) (some-is n at.0 (sym place ∙ at.2)) ∙ at.1)))

-- ---- the first of them

take-get : {X : Type 0} (xs : List X) (k n : ℕ) (x : X) → slice_get (take k xs) n ≡ Some x → slice_get xs n ≡ Some x
take-get xs zero n x e = absurd (none-some x e)
take-get [] (suc k) n x e = e
take-get (y ∷ ys) (suc k) zero x e = e
take-get (y ∷ ys) (suc k) (suc n) x e = take-get ys k n x e

pub placed-first : (places : NumberMap ℕ) (ids : List RevisionId) (k : ℕ) → ArePlaces places ids → ArePlaces places (take k ids)
placed-first places ids k are r n e = are r n (take-get ids k n r e)

-- ---- one more

get-more : {X : Type 0} (xs : List X) (y : X) (n : ℕ) (x : X) → slice_get (xs ++ y ∷ []) n ≡ Some x → (slice_get xs n ≡ Some x) ⊎ ((n ≡ length xs) × (x ≡ y))
get-more [] y zero x e = inr (refl, sym (some-is y x e))
get-more [] y (suc n) x e = absurd (none-some x e)
get-more (z ∷ xs) y zero x e = inl e
get-more (z ∷ xs) y (suc n) x e = elim (get-more xs y n x e) [ inl a ↦ inl a | inr b ↦ inr (omega (arith, b.0), b.1) ]

no-member : (ids : List RevisionId) (r s : RevisionId) (n : ℕ) → list_any (λ (k : RevisionId). k.0 == r.0) ids ≡ false → slice_get ids n ≡ Some s → (r.0 == s.0) ≡ false
no-member ids r s n new there = sym (both-ways false (r.0 == s.0) (λ t. absurd (cc t)) (λ t.
    let same : s ≡ r = sym (rev-eq r s t) in
    sym new ∙ in-any (λ (k : RevisionId). k.0 == r.0) ids s (get-in ids n s there) (rev-same s r same)))

-- what is put under a number stands there
put-at : {T : Type 0} (old new : NumberMap T) (number : ℕ) (value : T) → Puts old new number value → value_at new number ≡ Some value
put-at old new number value puts = puts number ∙ ap (λ (b : Bool). cond b (Some value) (value_at old number)) (eq-eqb number number refl)

module _ (places then : NumberMap ℕ) (ids : List RevisionId) (r : RevisionId) (new : list_any (λ (k : RevisionId). k.0 == r.0) ids ≡ false) (puts : Puts places then r.0 (length ids)) (are : ArePlaces places ids) where
  -- the members stay where they are
  pub placed-still : ArePlaces then ids
  placed-still s n there = puts s.0 ∙ ap (λ (b : Bool). cond b (Some (length ids)) (value_at places s.0)) (no-member ids r s n new there) ∙ are s n there

  -- and the new one has its place
  pub placed-more : ArePlaces then (ids ++ r ∷ [])
  placed-more s n there = elim (get-more ids r n s there) [
    | inl old ↦ placed-still s n old
    | inr now ↦ ap (λ (x : RevisionId). value_at then x.0) now.1 ∙ put-at places then r.0 (length ids) puts ∙ ap Some (sym now.0)
  ]

-- ---- who joins

pub new-false : (a b : Bool) → (a || b) ≡ false → b ≡ false
new-false true b e = absurd (cc e)
new-false false b e = e
