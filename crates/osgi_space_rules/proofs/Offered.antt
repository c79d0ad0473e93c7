-- What is on offer, by the package that a capability is an export of.
use Rattle.std.proofs.Common.{◌≡◌, ◌≢◌, ◌↔◌, ℕ, List, sym, refl, subst, IsTrue}
use Rattle.std.specs.Prelude.{Bool, true, false, not, None, Some}
use Rattle.std.specs.BTreeMap.{BTreeMap, get}
use Rattle.std.proofs.lemmas.Bool.{false≢true}
use Rattle.osgi_base.specs.declared.ids.RevisionId.{RevisionId}
use Rattle.osgi_space_rules.specs.computed.Entries.{AreProviders}
use Rattle.osgi_space_rules.specs.computed.Keys.{package_at, package_cmp}
use Rattle.osgi_space_rules.specs.declared.keys.PackageAt.{PackageAt}
use Rattle.osgi_world.specs.Wirings.{HasCapability, IsExport, OnOffer}
use Rattle.osgi_world.specs.declared.wiring.CapRef.{CapRef}
use Rattle.osgi_world.specs.declared.wiring.Wiring.{Wiring}
use Rattle.osgi_world.specs.declared.world.Known.{Known}

module _ (K : List Known) (W : List Wiring) (c : CapRef) (has : HasCapability K W c.provider c.owner c.index) where
  -- a capability that is no export
  pub offered_no_export : ((p : List ℕ) → (None ≡ Some p) ↔ IsExport K c.owner c.index p) → IsTrue true ↔ OnOffer K W c
  offered_no_export is = (λ t. record { has = has; stays = λ p export. absurd (cc ((is p).1 export)) }, λ o. refl)

  -- an export
  pub offered_export : (map : BTreeMap PackageAt RevisionId) (name : List ℕ) (key : PackageAt) (elsewhere : Bool) → AreProviders K W map → ((p : List ℕ) → (Some name ≡ Some p) ↔ IsExport K c.owner c.index p) → key ≡ package_at c.provider name →
      IsTrue elsewhere ↔ ((x : RevisionId) × (get package_cmp map key ≡ Some x) × (x ≢ key.revision)) → IsTrue (not elsewhere) ↔ OnOffer K W c
  offered_export map name key elsewhere are is made test =
      let Elsewhere : PackageAt → Type 0 = λ k. (x : RevisionId) × (get package_cmp map k ≡ Some x) × (x ≢ k.revision) in
      let tested : IsTrue elsewhere ↔ Elsewhere (package_at c.provider name) = subst (λ k. IsTrue elsewhere ↔ Elsewhere k) made test in (
        λ stays. record {
          has = has;
          stays = λ p export imports.
              let named : name ≡ p = cc ((is p).1 export) in
              let found : Elsewhere (package_at c.provider p) = (imports.from, (are c.provider p imports.from).1 imports.imports, imports.elsewhere) in
              not_both elsewhere stays (tested.1 (subst (λ n. Elsewhere (package_at c.provider n)) (sym named) found));
        },
        λ offer. is_not elsewhere (λ t.
            let found = tested.0 t in
            offer.stays name ((is name).0 refl) (record { from = found.0; imports = (are c.provider name found.0).0 found.1; elsewhere = found.2 })),
      )
    where
      not_both : (b : Bool) → IsTrue (not b) → IsTrue b → ⊥
      not_both true n t = false≢true n
      not_both false n t = false≢true t

      is_not : (b : Bool) → (IsTrue b → ⊥) → IsTrue (not b)
      is_not true f = absurd (f refl)
      is_not false f = refl
