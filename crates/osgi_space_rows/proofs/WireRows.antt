-- The row of a wire, by the capability that the wire goes to.
use Rattle.std.proofs.Common.{◌≡◌, ℕ, ◌<◌, List, [], ◌∷◌, ◌++◌, length, refl, sym, ◌∙◌, ap, subst}
use Rattle.std.specs.Prelude.{false, IsTrue, None, Some}
use Rattle.std.specs.Option.{option_map_or}
use Rattle.std.proofs.lemmas.List.Elements.{All-contains}
use Rattle.std.proofs.lemmas.Option.{slice_get-get_or}
use Rattle.osgi_base.specs.declared.ids.RevisionId.{RevisionId}
use Rattle.osgi_world.specs.Decisions.{wired}
use Rattle.osgi_world.specs.Lookups.{capability_at, capability_namespace, is_reexport}
use Rattle.osgi_world.specs.Satisfaction.{is_bundle, is_package}
use Rattle.osgi_world.specs.declared.capability.Capability.{Capability}
use Rattle.osgi_world.specs.declared.wiring.Wire.{Wire}
use Rattle.osgi_world.specs.declared.wiring.Wiring.{Wiring}
use Rattle.osgi_world.specs.declared.world.Known.{Known}
use Rattle.osgi_space_rows.specs.Agree.{AreRowsOf}
use Rattle.osgi_space_rows.specs.Names.{HasNumber, name_numbered}
use Rattle.osgi_space_rows.specs.Rows.{RowLists, with_import, with_required}
use Rattle.osgi_space_rows.specs.Steps.{step_wiring}
use Rattle.osgi_space_rows.specs.Worlds.{AreNumbered}
use Rattle.osgi_space_rows.specs.declared.rows.Export.{Export}
use Rattle.osgi_space_rows.proofs.KnownRows.{counted, export-at, namespace-at}
use Rattle.osgi_space_rows.proofs.NameOf.{name-known}
use Rattle.osgi_space_rows.proofs.StepRows.{import-added, other-added, required-added}

module _ (K : List Known) (names : List (List ℕ)) (R : RowLists) (W : List Wiring) (r : RevisionId) (w : Wire) (are : AreRowsOf K W (name_numbered names) R) where
  abbrev more : List Wiring
  more = W ++ step_wiring (wired r w) ∷ []

  -- it is not there
  pub wire-none : capability_at K w.capability.owner w.capability.index ≡ None → AreRowsOf K more (name_numbered names) R
  wire-none none =
      let empty : capability_namespace K w.capability.owner w.capability.index ≡ [] = ap (λ o. option_map_or (λ (c : Capability). c.namespace) o []) none in
      other-added K W r w (name_numbered names) R (λ p e. let no : IsTrue (is_package []) = subst (λ n. IsTrue (is_package n)) empty e.0 in cc)
      (λ b. let no : IsTrue (is_bundle []) = subst (λ n. IsTrue (is_bundle n)) empty b in cc) are

  module _ (c : Capability) (at : capability_at K w.capability.owner w.capability.index ≡ Some c) where
    namespace : capability_namespace K w.capability.owner w.capability.index ≡ c.namespace
    namespace = namespace-at K w.capability.owner w.capability.index c at

    -- it is a bundle
    pub wire-bundle : IsTrue (is_bundle c.namespace) →
        AreRowsOf K more (name_numbered names) (with_required R (record { revision = r.0; provider = w.capability.provider.0; reexport = is_reexport K w.requirement }))
    wire-bundle bundle = required-added K W r w (name_numbered names) R (subst (λ n. IsTrue (is_bundle n)) (sym namespace) bundle) are

    -- it is neither
    pub wire-other : is_bundle c.namespace ≡ false → is_package c.namespace ≡ false → AreRowsOf K more (name_numbered names) R
    wire-other no_bundle no_package =
        other-added K W r w (name_numbered names) R (λ p e. let is : IsTrue (is_package c.namespace) = subst (λ n. IsTrue (is_package n)) namespace e.0 in cc)
        (λ b. let is : IsTrue (is_bundle c.namespace) = subst (λ n. IsTrue (is_bundle n)) namespace b in cc) are

    -- it is a package
    pub wire-package : IsTrue (is_package c.namespace) → (n : ℕ) → HasNumber names c.name n →
        AreRowsOf K more (name_numbered names) (with_import R (record { revision = r.0; imported = n; provider = w.capability.provider.0 }))
    wire-package of_package n has =
        import-added K W r w (name_numbered names) R n (export-at K w.capability.owner w.capability.index c (name_numbered names n) at of_package (sym (name-known names n c.name has))) are

    -- a package that rows hold has a number
    pub wire-unnumbered : AreNumbered names R → IsTrue (is_package c.namespace) → ((n : ℕ) → ¬ HasNumber names c.name n) → AreRowsOf K more (name_numbered names) R
    wire-unnumbered numbered of_package none =
        let o = w.capability.owner.0 in
        let index = w.capability.index in
        let export = export-at K w.capability.owner index c c.name at of_package refl in
        let row = are.exports_from o index c.name (counted K w.capability.owner index c at, export) in
        let within = All-contains (λ (e : Export). e.exported < length names) R.exports _ numbered.exports row.2 in
        let known = slice_get-get_or names row.0 [] within in
        let same = sym (name-known names row.0 _ known) ∙ row.1 in
        absurd (none row.0 (known ∙ ap Some same))
