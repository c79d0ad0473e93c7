-- What a revision sees carries on its constraints.
use Rattle.std.proofs.Common.{◌≡◌, ◌↔◌, ◌⊎◌, inl, inr, ℕ, List, refl, sym, subst, Contains}
use Rattle.osgi_space_rows.specs.Rows.{RowLists, Imports, imports_for, imports_of}
use Rattle.osgi_space_rows.specs.declared.rows.Import.{Import}
use Rattle.osgi_space_sources.specs.computed.Givens.{IsUnwired, IsWired}
use Rattle.osgi_space_sources.specs.computed.Pairs.{IsFirst, IsFollowing, IsImplied, IsNext, IsUse, IsUseAmong, IsUseOfSome, IsUseOfWired}
use Rattle.osgi_space_sources.specs.computed.Reach.{Reach, starts, steps}
use Rattle.osgi_space_sources.specs.declared.given.Given.{Given}
use Rattle.osgi_space_sources.specs.laws.Adding.{any-in, any-of}
use Rattle.osgi_space_sources.specs.laws.Following.{implied-reach}
use Rattle.osgi_space_sources.proofs.Givers.{imported-sources, seen-parts}
use Rattle.osgi_space_sources.proofs.Rows.{some-imported, some-wire}

-- more is reached from a larger start
reach-wider : {X : Type 0} {S T : X → Type 0} {Step : X → X → Type 0} → ((x : X) → S x → T x) → {x : X} → Reach S Step x → Reach T Step x
reach-wider wider (starts s) = starts (wider _ s)
reach-wider wider (steps before s) = steps (reach-wider wider before) s

module _ (R : RowLists) (A : ℕ → Type 0) where
  -- the uses of listed sources are those of what the list is of
  pub some-of : (Q : Given → Type 0) (givens : List Given) → ((h : Given) → Contains givens h ↔ Q h) → (g : Given) → IsUseOfSome R A givens g ↔ ((h : Given) × Q h × A h.source × IsUse R h.source h.package g)
  some-of Q givens is g = (
    λ any. (any.1, (is any.1).0 (any-in (λ (h : Given). A h.source × IsUse R h.source h.package g) givens any), any.4.0, any.4.1),
    λ some. any-of (λ (h : Given). A h.source × IsUse R h.source h.package g) givens some.0 ((is some.0).1 some.1) (some.2, some.3),
  )

  -- the uses of what is wired are those of what the wires lead to
  wired-of : (r : ℕ) (g : Given) → IsUseOfWired R A (imports_of R r) g ↔ ((h : Given) × IsWired R r h × IsUseAmong R A h g)
  wired-of r g =
      let some = some-imported R (λ p x. IsUseAmong R A (record { «package» = p; source = x }) g) r in (
        λ any. let w = some.0 any in (record { «package» = w.0; source = w.1 }, w.2, w.3),
        λ (h, at, uses). some.1 (h.package, h.source, at, uses),
      )

  -- what follows from a constraint for a package where that is wired
  pub wired-next : (pair : Given) → (x : ℕ) × Imports R pair.source pair.package x → (g : Given) → IsUseOfWired R A (imports_for R pair.source pair.package) g ↔ IsNext R A pair g
  wired-next pair there g =
      let e = pair.source in
      let u = pair.package in
      let some = some-wire R (λ p x. IsUseAmong R A (record { «package» = p; source = x }) g) e u in (
        λ any.
            let w = some.0 any in
            let h : Given = record { «package» = u; source = w.0 } in
            (h, (imported-sources R u e h there).0 (refl, w.1), w.2.0, w.2.1),
        λ (h, source, among, uses).
            let at = (imported-sources R u e h there).1 source in
            some.1 (h.source, at.1, (among, subst (λ p. IsUse R h.source p g) at.0 uses)),
      )

  -- the constraints of a revision are carried on from its wires, and from what it sees without them
  pub space-implied : (r : ℕ) → A r → (imports : List Import) → imports ≡ imports_of R r → (givens : List Given) → ((h : Given) → Contains givens h ↔ IsUnwired R r h) → (g : Given)
      → IsFollowing R A imports givens g ↔ IsImplied R A r g
  space-implied r there imports are givens is g =
      let first : (x : Given) → (IsUseOfWired R A imports x ⊎ IsUseOfSome R A givens x) ↔ IsFirst R A r x = λ x.
      let wired = subst (λ xs. IsUseOfWired R A xs x ↔ ((h : Given) × IsWired R r h × IsUseAmong R A h x)) (sym are) (wired-of r x) in
      let some = some-of (IsUnwired R r) givens is x in (
        λ either. elim either [
          | inl any ↦ let w = wired.0 any in (w.0, (seen-parts R r w.0).0 (inl w.1), w.2.0, w.2.1)
          | inr any ↦ let w = some.0 any in (w.0, (seen-parts R r w.0).0 (inr w.1), w.2, w.3)
        ],
        λ (h, seen, among, uses). elim ((seen-parts R r h).1 seen) [
          | inl at ↦ inl (wired.1 (h, at, (among, uses)))
          | inr given ↦ inr (some.1 (h, given, among, uses))
        ],
      ) in
      let reach = implied-reach R A r there g in
      (λ follows. reach.0 (reach-wider (λ x. (first x).0) follows), λ implied. reach-wider (λ x. (first x).1) (reach.1 implied))
