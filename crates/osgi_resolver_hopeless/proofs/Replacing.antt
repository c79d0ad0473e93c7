-- What a wire takes of a host that is decided is on offer, where no bundle wire goes to the host, it imports nothing that it exports,
-- and no fragment can be attached to it.
use Rattle.std.proofs.Common.{◌≡◌, ◌≢◌, ◌<◌, ◌↔◌, inl, inr, ℕ, true, List, [], Any, refl, sym, ◌∙◌, ap, subst, Contains}
use Rattle.osgi_base.specs.declared.ids.RevisionId.{RevisionId}
use Rattle.osgi_resolver_hopeless.proofs.Settling.{reach-from}
use Rattle.osgi_resolver_hopeless.specs.computed.Clashing.{HasLostAt}
use Rattle.osgi_resolver_hopeless.specs.computed.Losing.{IsReplacing, ReplacesOwn}
use Rattle.osgi_resolver_theory.proofs.Complete.{wire-of_member}
use Rattle.osgi_resolver_theory.proofs.States.{member-new}
use Rattle.osgi_resolver_theory.proofs.Views.{got-candidate}
use Rattle.osgi_resolver_theory.specs.States.{State}
use Rattle.osgi_space_rows.specs.Agree.{AreRowsOf, id}
use Rattle.osgi_space_rows.specs.Rows.{OwnExport, Reexports, Requires, RowLists, imports_of}
use Rattle.osgi_space_rows.specs.declared.rows.Required.{Required}
use Rattle.osgi_space_sources.proofs.Rows.{some-imported}
use Rattle.osgi_space_sources.specs.computed.Reach.{Reach, starts, steps}
use Rattle.osgi_space_sources.specs.laws.Adding.{any-in, any-of}
use Rattle.osgi_world.specs.Candidates.{IsCandidate, IsProblem, matching}
use Rattle.osgi_world.specs.Decisions.{Made}
use Rattle.osgi_world.specs.DueDecisions.{members}
use Rattle.osgi_world.specs.Lists.{In}
use Rattle.osgi_world.specs.Lookups.{capability_count}
use Rattle.osgi_world.specs.Partial.{partial}
use Rattle.osgi_world.specs.Wirings.{ImportsElsewhere, InForce, IsExport, OnOffer}
use Rattle.osgi_world.specs.declared.problem.Problem.{Problem}
use Rattle.osgi_world.specs.declared.wiring.CapRef.{CapRef}
use Rattle.osgi_world.specs.declared.wiring.ReqRef.{ReqRef}
use Rattle.osgi_world.specs.declared.wiring.Wiring.{Wiring}
use Rattle.osgi_world.specs.declared.world.Known.{Known}

-- some row replaces an own export
pub some-replacing : (R : RowLists) (r : ℕ) → Any (IsReplacing R r) (imports_of R r) ↔ ReplacesOwn R r
some-replacing R r =
    let some = some-imported R (λ p x. (x ≢ r) × OwnExport R r p) r in (
      λ any. let at = some.0 any in (at.0, at.1, at.2, at.3.0, at.3.1),
      λ own. some.1 (own.0, own.1, own.2, (own.3, own.4)),
    )

-- whose bundle wire goes to h
pub row-required : (R : RowLists) (h : ℕ) → Any (λ (row : Required). row.provider ≡ h) R.required → (r : ℕ) × Requires R r h
row-required R h any =
    let row = any.1 in
    (row.revision, (row.reexport, subst (λ (x : ℕ). Contains R.required (record { revision = row.revision; provider = x; reexport = row.reexport })) any.4 (any-in (λ (i : Required). i.provider ≡ h) R.required any)))

-- where h is reached, a bundle wire goes to it
pub reached-required : (R : RowLists) (r h : ℕ) → Reach (Requires R r) (Reexports R) h → Any (λ (row : Required). row.provider ≡ h) R.required
reached-required R r h (starts {x = x} at) = any-of (λ (row : Required). row.provider ≡ x) R.required (record { revision = r; provider = x; reexport = at.0 }) at.1 refl
reached-required R r h (steps {x = x} {y = y} l at) = any-of (λ (row : Required). row.provider ≡ y) R.required (record { revision = x; provider = y; reexport = true }) at refl

-- a capability of a host's own is on offer, where the host imports nothing that it exports
module _ (K : List Known) (W : List Wiring) (N : ℕ → List ℕ) (R : RowLists) (is : AreRowsOf K W N R) (h : RevisionId) where
  own-stays : ¬ ReplacesOwn R h.0 → (c : CapRef) → c.provider ≡ h → c.owner ≡ h → c.index < capability_count K c.owner → OnOffer K W c
  own-stays stays c p o within = record {
    has = (inl (o ∙ sym p), within);
    stays = λ name export elsewhere.
        let here : ImportsElsewhere K W h name = subst (λ r. ImportsElsewhere K W r name) p elsewhere in
        let row = is.imports_from h.0 here.from.0 name here.imports in
        let own : IsExport K h c.index name = subst (λ r. IsExport K r c.index name) o export in
        let at = is.exports_from h.0 c.index name (subst (λ r. c.index < capability_count K r) o within, own) in
        let same : at.0 ≡ row.0 = is.names at.0 row.0 (at.1 ∙ sym row.1) in
        stays (row.0, here.from.0, row.2, λ e. here.elsewhere (ap id e), subst (OwnExport R h.0) same at.2);
  }

module _ (P : Problem) (L : IsProblem P) (D : Made) (s : State P D) (h : RevisionId) (i : In h (members P D)) where
  -- a candidate of a member to which no fragment can be attached is its own
  own-candidate : matching P h ≡ [] → (q : ReqRef) (c : CapRef) → IsCandidate P q c → c.provider ≡ h → (c.owner ≡ h) × (c.index < capability_count P.world.known c.owner)
  own-candidate none q c is p = elim is.stands [
    | inl old ↦ absurd (member-new P L.root_is.not_in_force D h i (subst (InForce P.world.wirings) p old.0))
    | inr new ↦ elim new.1 [
      | inl own ↦ (own ∙ p, new.2)
      | inr f ↦ elim (subst (In c.owner) (ap (matching P) p ∙ none) f) [ ]
    ]
  ]

  pub nothing-lost : (N : ℕ → List ℕ) (R : RowLists) → AreRowsOf P.world.known (partial P D) N R → ¬ Any (λ (row : Required). row.provider ≡ h.0) R.required → ¬ ReplacesOwn R h.0 → matching P h ≡ [] → ¬ HasLostAt P D h
  nothing-lost N R is alone stays none l = elim l.reaches [
    | inl p ↦
        let w = l.lost.wire in
        let c = got-candidate P L D s l.lost.member w (wire-of_member P L D l.lost.member w l.lost.is_member l.lost.has) in
        let own = own-candidate none w.requirement w.capability c p in
        l.lost.lost (own-stays P.world.known (partial P D) N R is h stays w.capability p own.0 own.1)
    | inr far ↦ alone (reached-required R l.lost.wire.capability.provider.0 h.0 (reach-from P.world.known (partial P D) N R is l.lost.wire.capability.provider.0 far))
  ]
