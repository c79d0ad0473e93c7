-- What is given is given directly by a bundle that is reached along reexports.
use Rattle.std.proofs.Common.{◌≡◌, ◌↔◌, ◌⊎◌, inl, inr, ℕ, ap, refl, sym, subst}
use Rattle.osgi_space_rows.specs.Rows.{RowLists, Imports, Reexports, imports_for}
use Rattle.osgi_space_sources.specs.computed.Givens.{IsGivenTo, IsImported, IsProvider, IsSeen, IsSourceOf, IsUnwired, IsWired}
use Rattle.osgi_space_sources.specs.computed.Reach.{Reach, starts, steps}
use Rattle.osgi_space_sources.specs.computed.RowSources.{GivesPackage, substituted, itself, reexported, GivesDirectly, NotImported}
use Rattle.osgi_space_sources.specs.declared.given.Given.{Given}
use Rattle.osgi_space_sources.proofs.Rows.{some-import}

module _ (R : RowLists) (p : ℕ) where
  gives-direct : (b x : ℕ) → GivesDirectly R p b x → GivesPackage R p b x
  gives-direct b x (inl w) = substituted w.0 w.1 w.2
  gives-direct b x (inr w) = let P : ℕ → Type 0 = λ y. GivesPackage R p b y in subst P (sym w.0) (itself w.1)

  gives-from_reach : {Start : ℕ → Type 0} {c x : ℕ} → Reach Start (Reexports R) c → GivesPackage R p c x → (b : ℕ) × Start b × GivesPackage R p b x
  gives-from_reach (starts s) g = (_, s, g)
  gives-from_reach (steps r s) g = gives-from_reach r (reexported s g)

  reach-from_gives : {Start : ℕ → Type 0} {b x : ℕ} → Reach Start (Reexports R) b → GivesPackage R p b x → (c : ℕ) × Reach Start (Reexports R) c × GivesDirectly R p c x
  reach-from_gives r (substituted at other has) = (_, r, inl (at, other, has))
  reach-from_gives r (itself on_offer) = (_, r, inr (refl, on_offer))
  reach-from_gives r (reexported at g) = reach-from_gives (steps r at) g

  module _ (r : ℕ) (g : Given) where
    -- where r has no wire for the package
    pub given-sources : NotImported R r p → IsGivenTo R r p g ↔ IsSourceOf R r p g
    given-sources none = (
      λ either. elim either [
        | inl (b, reached, (named, direct)) ↦ (named, inr (none, inl (gives-from_reach reached (gives-direct b g.source direct))))
        | inr (named, direct) ↦ (named, elim direct [ inl w ↦ absurd (none (g.source, w.0)) | inr w ↦ inr (none, inr w) ])
      ],
      λ (named, source). elim source [
        | inl at ↦ absurd (none (g.source, at))
        | inr (_, rest) ↦ elim rest [
          | inl (c, requires, gives) ↦ let w = reach-from_gives (starts requires) gives in inl (w.0, w.1, (named, w.2))
          | inr own ↦ inr (named, inr own)
        ]
      ],
    )

    -- and where it has one
    pub imported-sources : (x : ℕ) × Imports R r p x → IsImported R r p g ↔ IsSourceOf R r p g
    imported-sources some = (
      λ (named, at). (named, inl at),
      λ (named, source). (named, elim source [ inl at ↦ at | inr (none, rest) ↦ absurd (none some) ]),
    )

-- the providers of the wires that are looked up are the sources that r is wired to
pub provider-imported : (R : RowLists) (r p : ℕ) (g : Given) → IsProvider (imports_for R r p) p g ↔ IsImported R r p g
provider-imported R r p g =
    let some = some-import R (λ x. g ≡ record { «package» = p; source = x }) r p in (
      λ any. let s = some.0 any in
          (ap (λ (h : Given). h.package) s.2, subst (λ x. Imports R r p x) (sym (ap (λ (h : Given). h.source) s.2)) s.1),
      λ (named, at). some.1 (g.source, at, λ i. record { «package» = named i; source = g.source }),
    )

-- what a revision sees, by its wires and without them
pub seen-parts : (R : RowLists) (r : ℕ) (g : Given) → (IsWired R r g ⊎ IsUnwired R r g) ↔ IsSeen R r g
seen-parts R r g = (
  λ either. elim either [
    | inl wired ↦ inl wired
    | inr unwired ↦ elim unwired [
      | inl (b, reached, given) ↦ ((given-sources R g.package r g given.0).0 (inl (b, reached, given.1))).1
      | inr own ↦ ((given-sources R g.package r g own.0).0 (inr own.1)).1
    ]
  ],
  λ source. elim source [
    | inl wired ↦ inl wired
    | inr rest ↦ elim ((given-sources R g.package r g rest.0).1 (refl, inr rest)) [
      | inl w ↦ inr (inl (w.0, w.1, (rest.0, w.2)))
      | inr own ↦ inr (inr (rest.0, own))
    ]
  ],
)
