-- Numbers of sources, and whether two revisions share their sources.
use Rattle.std.proofs.Common.{◌≡◌, ◌≢◌, ◌↔◌, inl, inr, ℕ, ◌<◌, Bool, true, false, List, [], ◌∷◌, ◌++◌, refl, sym, ◌∙◌, ap, subst, arith, Contains, IsTrue}
use Rattle.std.specs.Prelude.{None, Some}
use Rattle.std.specs.List.Sorted.{IsStrictlyIncreasing}
use Rattle.std.proofs.lemmas.List.Elements.{Contains-append_left, Contains-push, Contains-push_cases}
use Rattle.std.proofs.lemmas.List.Kept.{AllPairs-from_increasing}
use Rattle.osgi_base.specs.declared.ids.RevisionId.{RevisionId}
use Rattle.osgi_ops.specs.Assignable.{AreAssignable, ShareSources}
use Rattle.osgi_ops.specs.laws.Members.{Contains-cases, Contains-first, Contains-none, ordered-once}
use Rattle.osgi_wiring.specs.States.{IsKeptWorld}
use Rattle.osgi_world.specs.Sources.{Sources}
use Rattle.osgi_world.specs.declared.world.World.{World}
use Rattle.osgi_loader.specs.computed.Wires.{IsGiven, IsUnwiredSource, has_export, numbered, provider_of, required_by}
use Rattle.osgi_loader.proofs.Wired.{unwired-sources, wired-sources}

-- these are the numbers of the sources of p for r
abbrev pub AreSources : World → RevisionId → List ℕ → List ℕ → Type 0
AreSources world r p numbers = (n : ℕ) → Contains numbers n ↔ Sources world.known world.wirings r p (numbered n)

module _ (world : World) (issued : ℕ) (kept : IsKeptWorld world issued) (p : List ℕ) (r : RevisionId) where
  pub wired-numbers : (y : RevisionId) → provider_of world p r ≡ Some y → AreSources world r p (y.0 ∷ [])
  wired-numbers y is n =
      let same = wired-sources world issued kept p r (numbered n) y is in (
        λ at. elim (Contains-cases y.0 [] n at) [ inl e ↦ same.0 (λ i. record { 0 = sym e i }) | inr none ↦ absurd (Contains-none n none) ],
        λ s. subst (Contains (y.0 ∷ [])) (sym (ap (λ (x : RevisionId). x.0) (same.1 s))) (Contains-first y.0 []),
      )

  pub unwired-numbers : (all numbers : List ℕ) → provider_of world p r ≡ None → ((n : ℕ) → Contains all n ↔ Contains numbers n) → ((n : ℕ) → Contains numbers n ↔ IsUnwiredSource world p r n) → AreSources world r p all
  unwired-numbers all numbers none same are n =
      let s = same n in
      let u = are n in
      let source = unwired-sources world issued kept p r (numbered n) none in
      ((λ at. source.0 (u.0 (s.0 at))), (λ is. s.1 (u.1 (source.1 is))))

-- what is given, and the revision itself where it exports the package
module _ (world : World) (p : List ℕ) (r : RevisionId) (given : List ℕ) (are : (n : ℕ) → Contains given n ↔ IsGiven world p (required_by world r) n) where
  pub with-own : has_export world p r ≡ true → (n : ℕ) → Contains (given ++ r.0 ∷ []) n ↔ IsUnwiredSource world p r n
  with-own has n = (
    λ at. elim (Contains-push_cases given r.0 n at) [ inl old ↦ inl ((are n).0 old) | inr e ↦ inr (has, sym e) ],
    λ either. elim either [
      | inl old ↦ Contains-append_left given (r.0 ∷ []) n ((are n).1 old)
      | inr own ↦ subst (Contains (given ++ r.0 ∷ [])) (sym own.1) (Contains-push given r.0)
    ],
  )

  pub without-own : has_export world p r ≡ false → (n : ℕ) → Contains given n ↔ IsUnwiredSource world p r n
  without-own has n = (
    λ at. inl ((are n).0 at),
    λ either. elim either [ inl old ↦ (are n).1 old | inr own ↦ let bad : true ≡ false = sym own.0 ∙ has in absurd (cc bad) ],
  )

-- ---- two revisions

module _ (world : World) (p : List ℕ) (r s : RevisionId) (ours : List ℕ) (our_sources : AreSources world r p ours) where
  some-shared : (theirs : List ℕ) → AreSources world s p theirs → ours ≡ theirs → (n : ℕ) → Contains ours n → AreAssignable world r s p
  some-shared theirs their_sources same n at = inl (record {
    source = numbered n;
    is = (our_sources n).0 at;
    same = λ x. (
      λ i. (their_sources x.0).0 (subst (λ l. Contains l x.0) same ((our_sources x.0).1 i)),
      λ i. (our_sources x.0).0 (subst (λ l. Contains l x.0) (sym same) ((their_sources x.0).1 i)),
    );
  })

  -- a revision's own services
  pub own-assignable : r ≡ s → AreAssignable world r s p
  own-assignable e = by ours refl
    where
      by : (l : List ℕ) → ours ≡ l → AreAssignable world r s p
      by [] is = inr ((λ x i. Contains-none x.0 (subst (λ l. Contains l x.0) is ((our_sources x.0).1 i))), e)
      by (n ∷ l) is = some-shared ours (subst (λ q. AreSources world q p ours) e our_sources) refl n (subst (λ l. Contains l n) (sym is) (Contains-first n l))

  module _ (theirs : List ℕ) (their_sources : AreSources world s p theirs) (ours_rise : IsStrictlyIncreasing ours) (theirs_rise : IsStrictlyIncreasing theirs) where
    sharing : (ours ≢ []) × (ours ≡ theirs) → AreAssignable world r s p
    sharing both = by ours refl
      where
        by : (l : List ℕ) → ours ≡ l → AreAssignable world r s p
        by [] is = absurd (both.0 is)
        by (n ∷ l) is = some-shared theirs their_sources both.1 n (subst (λ l. Contains l n) (sym is) (Contains-first n l))

    shared : ShareSources world r s p → (ours ≢ []) × (ours ≡ theirs)
    shared sh = (
      λ none. Contains-none sh.source.0 (subst (λ l. Contains l sh.source.0) none ((our_sources sh.source.0).1 sh.is)),
      ordered-once (λ a b. a < b) (λ a less. absurd (omega arith)) (λ a b c first then. omega arith) ours theirs (AllPairs-from_increasing ours ours_rise) (AllPairs-from_increasing theirs theirs_rise)
          (λ n at. (their_sources n).1 ((sh.same (numbered n)).0 ((our_sources n).0 at))) (λ n at. (our_sources n).1 ((sh.same (numbered n)).1 ((their_sources n).0 at))),
    )

    -- the services of another
    pub others-assignable : (r ≢ s) → (answer : Bool) → IsTrue answer ↔ ((ours ≢ []) × (ours ≡ theirs)) → IsTrue answer ↔ AreAssignable world r s p
    others-assignable others answer is = (
      λ t. sharing (is.0 t),
      λ either. elim either [ inl sh ↦ is.1 (shared sh) | inr own ↦ absurd (others own.1) ],
    )
