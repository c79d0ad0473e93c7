-- The revisions in use, one wiring after another.
use Rattle.std.proofs.Common.{◌≡◌, ◌↔◌, ◌⊎◌, inl, inr, ℕ, refl, sym, ap, subst}
use Rattle.std.specs.Prelude.{true}
use Rattle.std.specs.BTreeSet.{BTreeSet, Updates}
use Rattle.std.specs.Ordering.{nat_cmp}
use Rattle.std.proofs.lemmas.Cmp.{nat_cmp_total}
use Rattle.std.proofs.lemmas.Map.Lookups.{exact_unsigned}
use Rattle.osgi_base.specs.declared.ids.RevisionId.{RevisionId}
use Rattle.osgi_candidates.specs.computed.InUses.{HasRevision, PutsInUse}
use Rattle.osgi_space_rules.proofs.Exact.{inserted}
use Rattle.osgi_space_rules.specs.computed.Growing.{Grows}
use Rattle.osgi_world.specs.Lists.{In}
use Rattle.osgi_world.specs.declared.wiring.Wiring.{Wiring}

-- ---- one wiring

abbrev pub IsSame : RevisionId → RevisionId → Type 0
IsSame f r = r ≡ f

pub put_revision : (old new : BTreeSet ℕ) (key : RevisionId) → Updates nat_cmp old new key.0 true → (r : RevisionId) → HasRevision new r ↔ (HasRevision old r ⊎ IsSame key r)
put_revision old new key updates r =
    let added = inserted nat_cmp_total exact_unsigned old new key.0 updates r.0 in (
      λ h. elim (added.0 h) [ inl o ↦ inl o | inr e ↦ (let same : r ≡ key = λ i. record { 0 = e i } in inr same) ],
      λ either. added.1 (elim either [ inl o ↦ inl o | inr e ↦ inr (ap (λ (x : RevisionId). x.0) e) ]),
    )

pub puts_in_use : (old first new : BTreeSet ℕ) (g : Wiring) → ((r : RevisionId) → HasRevision first r ↔ (HasRevision old r ⊎ IsSame g.revision r)) → Grows (HasRevision first) (HasRevision new) IsSame g.fragments → PutsInUse old new g
puts_in_use old first new g put grown r = (
  λ h. elim ((grown r).0 h) [
    | inl before ↦ elim ((put r).0 before) [ inl o ↦ inl o | inr e ↦ inr (inl e) ]
    | inr some ↦ inr (inr (subst (λ x. In x g.fragments) (sym some.2) some.1))
  ],
  λ either. (grown r).1 (elim either [
    | inl o ↦ inl ((put r).1 (inl o))
    | inr used ↦ elim used [ inl e ↦ inl ((put r).1 (inr e)) | inr i ↦ inr (r, i, refl) ]
  ]),
)
