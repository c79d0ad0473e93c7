-- The providers of packages, from what the wires enter.
use Rattle.std.proofs.Common.{◌≡◌, ◌↔◌, ◌⊎◌, inl, inr, ℕ, List, ap, sym, ◌∙◌}
use Rattle.std.specs.Prelude.{Some}
use Rattle.std.specs.BTreeMap.{BTreeMap}
use Rattle.osgi_base.specs.declared.ids.RevisionId.{RevisionId}
use Rattle.osgi_space_rules.specs.computed.Entries.{AreProviders, IsImport, OneProvider}
use Rattle.osgi_space_rules.specs.computed.Growing.{Grows, HasEntry, IsFunction, Nothing, AnyOf}
use Rattle.osgi_space_rules.specs.computed.Keys.{package_at, package_cmp}
use Rattle.osgi_space_rules.specs.declared.keys.PackageAt.{PackageAt}
use Rattle.osgi_world.specs.Wirings.{IsExport, PackageWire}
use Rattle.osgi_world.specs.declared.wiring.Wire.{Wire}
use Rattle.osgi_world.specs.declared.wiring.Wiring.{Wiring}
use Rattle.osgi_world.specs.declared.world.Known.{Known}

module _ (K : List Known) (W : List Wiring) where
  -- what all wirings enter
  abbrev pub Entered : PackageAt × RevisionId → Type 0
  Entered e = AnyOf (λ (g : Wiring). AnyOf (λ w. IsImport K g.revision w e) g.wires) W

  wire_of : (e : PackageAt × RevisionId) → Entered e → PackageWire K W e.0.revision e.0.name e.1
  wire_of e some =
      let g = some.0 in
      let w = some.2.0 in
      let imports = some.2.2 in
      record { wire = w; has = record { wiring = g; stands = some.1; revision = sym imports.0; has = some.2.1 }; export = imports.1; provider = imports.2 }

  entered_of : (r : RevisionId) (p : List ℕ) (x : RevisionId) → PackageWire K W r p x → Entered (package_at r p, x)
  entered_of r p x wire = (wire.has.wiring, wire.has.stands, (wire.wire, wire.has.has, (sym wire.has.revision, wire.export, wire.provider)))

  pub providers_are : (map : BTreeMap PackageAt RevisionId) → Grows Nothing (HasEntry package_cmp map) (λ (g : Wiring) e. AnyOf (λ w. IsImport K g.revision w e) g.wires) W → AreProviders K W map
  providers_are map grown r p x = (
    λ is. elim ((grown (package_at r p, x)).0 is) [ inl n ↦ absurd n | inr some ↦ wire_of (package_at r p, x) some ],
    λ wire. (grown (package_at r p, x)).1 (inr (entered_of r p x wire)),
  )

  pub not_one : ¬ IsFunction (λ (e : PackageAt × RevisionId). Nothing e ⊎ Entered e) → ¬ OneProvider K W
  not_one fails one =
      let up : (e : PackageAt × RevisionId) → Nothing e ⊎ Entered e → PackageWire K W e.0.revision e.0.name e.1 = λ e either. elim either [ inl n ↦ absurd n | inr some ↦ wire_of e some ] in
      fails (λ k x y here there. one k.revision k.name x y (up (k, x) here) (up (k, y) there))

-- what a wire for a package enters
pub imports_one : (K : List Known) (r : RevisionId) (w : Wire) (name : List ℕ) (key : PackageAt) → key ≡ package_at r name → ((p : List ℕ) → (Some name ≡ Some p) ↔ IsExport K w.capability.owner w.capability.index p) →
    (e : PackageAt × RevisionId) → ((e.0 ≡ key) × (e.1 ≡ w.capability.provider)) ↔ IsImport K r w e
imports_one K r w name key made is e = (
  λ h.
      let same : e.0 ≡ package_at r name = h.0 ∙ made in
      (ap (λ (a : PackageAt). a.revision) same, (is e.0.name).0 (ap Some (sym (ap (λ (a : PackageAt). a.name) same))), sym h.1),
  λ h.
      let named : name ≡ e.0.name = cc ((is e.0.name).1 h.1) in
      let same : e.0 ≡ package_at r name = λ i. package_at (h.0 i) (sym named i) in
      (same ∙ sym made, sym h.2),
)

pub one_of : (K : List Known) (W : List Wiring) (map : BTreeMap PackageAt RevisionId) → AreProviders K W map → OneProvider K W
one_of K W map are r p x y one other =
    let same : Some x ≡ Some y = sym ((are r p x).1 one) ∙ (are r p y).1 other in
    cc same
