-- Rows of wirings, when more revisions are known: what is said of those that were known stays, and what the others say is added.
use Rattle.std.proofs.Common.{◌≡◌, inl, inr, ℕ, ◌<◌, List, [], ◌++◌, length, take, drop, refl, sym, ◌∙◌, ap, subst, arith, Contains}
use Rattle.std.specs.Prelude.{true, false, ◌==◌, IsSome, IsTrue, Option, None, Some, option_and_then, slice_get}
use Rattle.std.specs.Option.{option_map, option_map_or, option_or}
use Rattle.std.proofs.lemmas.List.{take-append-drop}
use Rattle.std.proofs.lemmas.List.Elements.{All-contains}
use Rattle.std.proofs.lemmas.List.Folds.{find-append}
use Rattle.std.proofs.lemmas.Option.{slice_get-get_or}
use Rattle.osgi_base.specs.declared.ids.RevisionId.{RevisionId}
use Rattle.osgi_world.specs.Lists.{In}
use Rattle.osgi_world.specs.Lookups.{IsKnown, capability_at, capability_count, known_at, revision_at, used_packages}
use Rattle.osgi_world.specs.Satisfaction.{is_bundle, is_package}
use Rattle.osgi_world.specs.Wirings as wirings
use Rattle.osgi_world.specs.Wirings.{BundleWire, HasWire, IsBundleWire, IsExport, PackageWire}
use Rattle.osgi_world.specs.declared.capability.Capability.{Capability}
use Rattle.osgi_world.specs.declared.requirement.Requirement.{Requirement}
use Rattle.osgi_world.specs.declared.revision.Revision.{Revision}
use Rattle.osgi_world.specs.declared.wiring.Wire.{Wire}
use Rattle.osgi_world.specs.declared.wiring.Wiring.{Wiring}
use Rattle.osgi_world.specs.declared.world.Known.{Known}
use Rattle.osgi_space_rows.specs.Agree.{AreRowsOf, ExportAt, id}
use Rattle.osgi_space_rows.specs.AllKnown.{AreAllKnown}
use Rattle.osgi_space_rows.specs.Names.{HasNumber, name_numbered}
use Rattle.osgi_space_rows.specs.Rows.{OwnExport, no_rows}
use Rattle.osgi_space_rows.specs.Worlds.{AddsKnown, AreNamed}
use Rattle.osgi_space_rows.specs.computed.Payloads.{Adds, capabilities_of, HasFact, KnownSays, OneSays, exporting, using}
use Rattle.osgi_space_rows.specs.declared.named.Named.{Named}
use Rattle.osgi_space_rows.specs.declared.rows.Attachment.{Attachment}
use Rattle.osgi_space_rows.specs.declared.rows.Export.{Export}
use Rattle.osgi_space_rows.specs.declared.rows.Import.{Import}
use Rattle.osgi_space_rows.specs.declared.rows.Required.{Required}
use Rattle.osgi_space_rows.specs.declared.rows.Use.{Use}
use Rattle.osgi_space_rows.specs.laws.AllKnown.{capability-known, is-known}
use Rattle.osgi_space_rows.proofs.KnownRows.{at_by, count_by, export-at, listed-by, name-at, namespace-at, owner-known, place-by, uses-at}
use Rattle.osgi_space_rows.proofs.NameOf.{name-known, name-one_to_one}
use Rattle.osgi_space_rows.proofs.Stepped.{in-append_cases}

-- ---- look-ups

some-first : {X : Type 0} (a b : Option X) → IsSome a → option_or a b ≡ a
some-first None b some = absurd (cc some)
some-first (Some k) b some = refl

module _ (K L : List Known) where
  revision-same : (r : RevisionId) → IsKnown K r → revision_at (K ++ L) r ≡ revision_at K r
  revision-same r known =
      ap (λ (o : Option Known). option_map (λ (k : Known). k.revision) o) (find-append (λ (k : Known). k.id.0 == r.0) K L ∙ some-first (known_at K r) (known_at L r) known)

  -- what is so of the revision
  up : (P : Option Revision → Type 0) (r : RevisionId) → IsKnown K r → P (revision_at K r) → P (revision_at (K ++ L) r)
  up P r known = subst P (sym (revision-same r known))

  down : (P : Option Revision → Type 0) (r : RevisionId) → IsKnown K r → P (revision_at (K ++ L) r) → P (revision_at K r)
  down P r known = subst P (revision-same r known)

-- what look-ups say of the revision that they find
abbrev namespace_by : Option Revision → ℕ → List ℕ
namespace_by o index = option_map_or (λ (c : Capability). c.namespace) (at_by o index) []

abbrev uses_by : Option Revision → ℕ → List (List ℕ)
uses_by o index = option_map_or (λ (c : Capability). c.uses) (at_by o index) []

abbrev IsExportBy : ℕ → List ℕ → Option Revision → Type 0
IsExportBy index p o = IsTrue (is_package (namespace_by o index)) × (option_map_or (λ (c : Capability). c.name) (at_by o index) [] ≡ p)

abbrev ExportBy : ℕ → List ℕ → Option Revision → Type 0
ExportBy index p o = (index < count_by o) × IsExportBy index p o

abbrev IsBundleBy : ℕ → Option Revision → Type 0
IsBundleBy index o = IsTrue (is_bundle (namespace_by o index))

abbrev IsReexportBy : ℕ → Option Revision → Type 0
IsReexportBy index o = IsTrue (option_map_or (λ (n : Requirement). n.reexport) (option_and_then (λ (v : Revision). slice_get (v.requirements ++ v.dynamics) index) o) false)

-- ---- wires

-- what wires between known revisions say
module _ (K L : List Known) (W : List Wiring) (all_known : AreAllKnown K W) where
  export-up : (r : RevisionId) (w : Wire) (p : List ℕ) → HasWire W r w → IsExport K w.capability.owner w.capability.index p → IsExport (K ++ L) w.capability.owner w.capability.index p
  export-up r w p has = up K L (IsExportBy w.capability.index p) w.capability.owner (all_known.capabilities r w has)

  export-down : (r : RevisionId) (w : Wire) (p : List ℕ) → HasWire W r w → IsExport (K ++ L) w.capability.owner w.capability.index p → IsExport K w.capability.owner w.capability.index p
  export-down r w p has = down K L (IsExportBy w.capability.index p) w.capability.owner (all_known.capabilities r w has)

  bundle-up : (r : RevisionId) (w : Wire) → HasWire W r w → IsBundleWire K w → IsBundleWire (K ++ L) w
  bundle-up r w has = up K L (IsBundleBy w.capability.index) w.capability.owner (all_known.capabilities r w has)

  bundle-down : (r : RevisionId) (w : Wire) → HasWire W r w → IsBundleWire (K ++ L) w → IsBundleWire K w
  bundle-down r w has = down K L (IsBundleBy w.capability.index) w.capability.owner (all_known.capabilities r w has)

  imports-up : (r : RevisionId) (p : List ℕ) (x : RevisionId) → PackageWire K W r p x → PackageWire (K ++ L) W r p x
  imports-up r p x h = record { wire = h.wire; has = h.has; export = export-up r h.wire p h.has h.export; provider = h.provider }

  imports-down : (r : RevisionId) (p : List ℕ) (x : RevisionId) → PackageWire (K ++ L) W r p x → PackageWire K W r p x
  imports-down r p x h = record { wire = h.wire; has = h.has; export = export-down r h.wire p h.has h.export; provider = h.provider }

  requires-up : (r x : RevisionId) → BundleWire K W r x → BundleWire (K ++ L) W r x
  requires-up r x h = record { wire = h.wire; has = h.has; bundle = bundle-up r h.wire h.has h.bundle; provider = h.provider }

  requires-down : (r x : RevisionId) → BundleWire (K ++ L) W r x → BundleWire K W r x
  requires-down r x h = record { wire = h.wire; has = h.has; bundle = bundle-down r h.wire h.has h.bundle; provider = h.provider }

  reexports-up : (r x : RevisionId) → wirings.Reexports K W r x → wirings.Reexports (K ++ L) W r x
  reexports-up r x h = record {
    wire = h.wire;
    has = h.has;
    bundle = bundle-up r h.wire h.has h.bundle;
    provider = h.provider;
    reexport = up K L (IsReexportBy h.wire.requirement.index) h.wire.requirement.owner (all_known.requirements r h.wire h.has) h.reexport;
  }

  reexports-down : (r x : RevisionId) → wirings.Reexports (K ++ L) W r x → wirings.Reexports K W r x
  reexports-down r x h = record {
    wire = h.wire;
    has = h.has;
    bundle = bundle-down r h.wire h.has h.bundle;
    provider = h.provider;
    reexport = down K L (IsReexportBy h.wire.requirement.index) h.wire.requirement.owner (all_known.requirements r h.wire h.has) h.reexport;
  }

-- ---- what known revisions say

-- what a known revision says stands at a place
module _ (K : List Known) where
  placed : (k : Known) (c : Capability) → In c (capabilities_of K k.id) → (index : ℕ) × (index < capability_count K k.id) × (capability_at K k.id index ≡ Some c)
  placed k c at = place-by (revision_at K k.id) c at

  says-export : (L : List Known) (o : ℕ) (p : List ℕ) → OneSays (KnownSays K) L (exporting o p) → (index : ℕ) × ExportAt K (id o) index p
  says-export L o p s =
      let place = placed s.item s.says.item s.says.stands in
      elim s.says.says.fact [
        | inl e ↦
            let here = export-at K s.item.id place.0 s.says.item p place.2 s.says.says.of_package e.1 in
            subst (λ owner. (index : ℕ) × ExportAt K owner index p) (ap (λ m. id m) e.0) (place.0, (place.1, here))
        | inr none ↦ absurd none
      ]

  says-use : (L : List Known) (o : ℕ) (p u : List ℕ) → OneSays (KnownSays K) L (using o p u) → (index : ℕ) × ExportAt K (id o) index p × In u (used_packages K (id o) index)
  says-use L o p u s =
      let place = placed s.item s.says.item s.says.stands in
      elim s.says.says.fact [
        | inl none ↦ absurd none
        | inr e ↦
            let here = export-at K s.item.id place.0 s.says.item p place.2 s.says.says.of_package e.1 in
            let uses = subst (In u) (sym (uses-at K s.item.id place.0 s.says.item place.2)) e.2 in
            subst (λ owner. (index : ℕ) × ExportAt K owner index p × In u (used_packages K owner index)) (ap (λ m. id m) e.0) (place.0, (place.1, here), uses)
      ]

  -- and what stands at a place is said
  export-says : (o index : ℕ) (p : List ℕ) → ExportAt K (id o) index p →
      (k : Known) × (c : Capability) × In k K × (k.id ≡ id o) × In c (capabilities_of K k.id) × IsTrue (is_package c.namespace) × (c.name ≡ p) × (used_packages K (id o) index ≡ c.uses)
  export-says o index p export =
      let listed = listed-by (revision_at K (id o)) index export.0 in
      let c = listed.0 in
      let k = owner-known K (id o) c listed.1 in (
        k.0,
        c,
        k.1,
        k.2,
        subst (λ owner. In c (capabilities_of K owner)) (sym k.2) listed.1,
        subst (λ s. IsTrue (is_package s)) (namespace-at K (id o) index c listed.2) export.1.0,
        sym (name-at K (id o) index c listed.2) ∙ export.1.1,
        uses-at K (id o) index c listed.2,
      )

-- ---- the rows

module _ (K L : List Known) (W : List Wiring) (old n : Named) (named : AreNamed old) (all_known : AreAllKnown K W) (are : AreRowsOf K W (name_numbered old.names) old.rows) (adds : Adds old n (OneSays (KnownSays (K ++ L)) L)) where
  abbrev all : List Known
  all = K ++ L

  numbered : (names : List (List ℕ)) (i : ℕ) → i < length names → (text : List ℕ) × HasNumber names text i
  numbered names i within = (_, slice_get-get_or names i [] within)

  -- old numbers are of the same names
  name-kept : (i : ℕ) → i < length old.names → name_numbered n.names i ≡ name_numbered old.names i
  name-kept i within =
      let text = numbered old.names i within in
      name-known n.names i text.0 (adds.kept text.0 i text.1) ∙ sym (name-known old.names i text.0 text.1)

  -- a number of a name
  has-number : (i : ℕ) (p : List ℕ) → i < length old.names → name_numbered old.names i ≡ p → HasNumber old.names p i
  has-number i p within is =
      let text = numbered old.names i within in
      subst (λ t. HasNumber old.names t i) (sym (name-known old.names i text.0 text.1) ∙ is) text.1

  import-within : (r p x : ℕ) → Contains old.rows.imports (record { revision = r; imported = p; provider = x }) → p < length old.names
  import-within r p x row = All-contains (λ (i : Import). i.imported < length old.names) old.rows.imports _ named.numbered.imports row

  export-within : (o p : ℕ) → OwnExport old.rows o p → p < length old.names
  export-within o p row = All-contains (λ (e : Export). e.exported < length old.names) old.rows.exports _ named.numbered.exports row

  use-within : (o p u : ℕ) → Contains old.rows.uses (record { owner = o; exported = p; used = u }) → (p < length old.names) × (u < length old.names)
  use-within o p u row = All-contains (λ (e : Use). (e.exported < length old.names) × (e.used < length old.names)) old.rows.uses _ named.numbered.uses row

  says-exported : (o : ℕ) (p : List ℕ) → HasFact n (exporting o p) → (index : ℕ) × ExportAt all (id o) index p
  says-exported o p has = elim ((adds.facts (exporting o p)).0 has) [
    | inl before ↦
        let e = are.exports_to o before.0 before.2 in
        let here : ExportAt K (id o) e.0 p = subst (ExportAt K (id o) e.0) (name-known old.names before.0 p before.1) e.1 in
        (e.0, up K L (ExportBy e.0 p) (id o) (capability-known K (id o) e.0 here.0) here)
    | inr new ↦ says-export all L o p new
  ]

  says-used : (o : ℕ) (p u : List ℕ) → HasFact n (using o p u) → (index : ℕ) × ExportAt all (id o) index p × In u (used_packages all (id o) index)
  says-used o p u has = elim ((adds.facts (using o p u)).0 has) [
    | inl before ↦
        let e = are.uses_to o before.0 before.1 before.4 in
        let here : ExportAt K (id o) e.0 p = subst (ExportAt K (id o) e.0) (name-known old.names before.0 p before.2) e.1 in
        let used : In u (used_packages K (id o) e.0) = subst (λ t. In t (used_packages K (id o) e.0)) (name-known old.names before.1 u before.3) e.2 in
        let known = capability-known K (id o) e.0 here.0 in
        (e.0, up K L (ExportBy e.0 p) (id o) known here, up K L (λ v. In u (uses_by v e.0)) (id o) known used)
    | inr new ↦ says-use all L o p u new
  ]

  exported-says : (o index : ℕ) (p : List ℕ) → ExportAt all (id o) index p → HasFact n (exporting o p)
  exported-says o index p export = let e = export-says all o index p export in elim (in-append_cases e.0 K L e.2) [
    | inl before ↦
        let known = is-known K e.0 (id o) before e.3 in
        let f = are.exports_from o index p (down K L (ExportBy index p) (id o) known export) in
        (adds.facts (exporting o p)).1 (inl (f.0, has-number f.0 p (export-within o f.0 f.2) f.1, f.2))
    | inr new ↦
        let owner = ap (λ (i : RevisionId). i.0) e.3 in
        (adds.facts (exporting o p)).1 (inr (record { item = e.0; stands = new; says = record { item = e.1; stands = e.4; says = record { of_package = e.5; fact = inl (owner, e.6) } } }))
  ]

  used-says : (o index : ℕ) (p u : List ℕ) → ExportAt all (id o) index p → In u (used_packages all (id o) index) → HasFact n (using o p u)
  used-says o index p u export used = let e = export-says all o index p export in elim (in-append_cases e.0 K L e.2) [
    | inl before ↦
        let known = is-known K e.0 (id o) before e.3 in
        let f = are.uses_from o index p u (down K L (ExportBy index p) (id o) known export) (down K L (λ v. In u (uses_by v index)) (id o) known used) in
        let within = use-within o f.0 f.1 f.4 in
        (adds.facts (using o p u)).1 (inl (f.0, f.1, has-number f.0 p within.0 f.2, has-number f.1 u within.1 f.3, f.4))
    | inr new ↦
        let owner = ap (λ (i : RevisionId). i.0) e.3 in
        (adds.facts (using o p u)).1 (inr (record {
          item = e.0;
          stands = new;
          says = record { item = e.1; stands = e.4; says = record { of_package = e.5; fact = inr (owner, e.6, subst (In u) e.7 used) } };
        }))
  ]

  grown-rows : AreRowsOf all W (name_numbered n.names) n.rows
  grown-rows = record {
    names = name-one_to_one n.names adds.named.once;
    imports_to = λ r p x row.
        let before = subst (λ (xs : List Import). Contains xs (record { revision = r; imported = p; provider = x })) adds.imports row in
        subst (λ t. PackageWire all W (id r) t (id x)) (sym (name-kept p (import-within r p x before))) (imports-up K L W all_known (id r) (name_numbered old.names p) (id x) (are.imports_to r p x before));
    imports_from = λ r x p h.
        let f = are.imports_from r x p (imports-down K L W all_known (id r) p (id x) h) in
        (f.0, name-kept f.0 (import-within r f.0 x f.2) ∙ f.1, subst (λ (xs : List Import). Contains xs (record { revision = r; imported = f.0; provider = x })) (sym adds.imports) f.2);
    requires = λ r x. (
      λ row. requires-up K L W all_known (id r) (id x) ((are.requires r x).0 (row.0, subst (λ (xs : List Required). Contains xs (record { revision = r; provider = x; reexport = row.0 })) adds.required row.1)),
      λ h.
          let f = (are.requires r x).1 (requires-down K L W all_known (id r) (id x) h) in
          (f.0, subst (λ (xs : List Required). Contains xs (record { revision = r; provider = x; reexport = f.0 })) (sym adds.required) f.1),
    );
    reexports = λ r x. (
      λ row. reexports-up K L W all_known (id r) (id x) ((are.reexports r x).0 (subst (λ (xs : List Required). Contains xs (record { revision = r; provider = x; reexport = true })) adds.required row)),
      λ h. subst (λ (xs : List Required). Contains xs (record { revision = r; provider = x; reexport = true })) (sym adds.required) ((are.reexports r x).1 (reexports-down K L W all_known (id r) (id x) h)),
    );
    attaches = λ h f. (
      λ row. (are.attaches h f).0 (subst (λ (xs : List Attachment). Contains xs (record { host = h; fragment = f })) adds.attached row),
      λ a. subst (λ (xs : List Attachment). Contains xs (record { host = h; fragment = f })) (sym adds.attached) ((are.attaches h f).1 a),
    );
    exports_to = λ o i row.
        let text = numbered n.names i (All-contains (λ (e : Export). e.exported < length n.names) n.rows.exports _ adds.named.numbered.exports row) in
        subst (λ p. (index : ℕ) × ExportAt all (id o) index p) (sym (name-known n.names i text.0 text.1)) (says-exported o text.0 (i, text.1, row));
    exports_from = λ o index p export. let fact = exported-says o index p export in (fact.0, name-known n.names fact.0 p fact.1, fact.2);
    uses_to = λ o i j row.
        let within = All-contains (λ (e : Use). (e.exported < length n.names) × (e.used < length n.names)) n.rows.uses _ adds.named.numbered.uses row in
        let text = numbered n.names i within.0 in
        let other = numbered n.names j within.1 in
        subst (λ p. (index : ℕ) × ExportAt all (id o) index p × In (name_numbered n.names j) (used_packages all (id o) index)) (sym (name-known n.names i text.0 text.1))
        (subst (λ u. (index : ℕ) × ExportAt all (id o) index text.0 × In u (used_packages all (id o) index)) (sym (name-known n.names j other.0 other.1))
        (says-used o text.0 other.0 (i, j, text.1, other.1, row)));
    uses_from = λ o index p u export used.
        let fact = used-says o index p u export used in
        (fact.0, fact.1, name-known n.names fact.0 p fact.2, name-known n.names fact.1 u fact.3, fact.4);
  }

  -- those that were known get no exports
  exports-kept : (o p : ℕ) → IsKnown K (id o) → OwnExport n.rows o p → OwnExport old.rows o p
  exports-kept o p known row =
      let e = grown-rows.exports_to o p row in
      let f = are.exports_from o e.0 (name_numbered n.names p) (down K L (ExportBy e.0 (name_numbered n.names p)) (id o) known e.1) in
      let same : f.0 ≡ p = grown-rows.names f.0 p (name-kept f.0 (export-within o f.0 f.2) ∙ f.1) in
      subst (OwnExport old.rows o) same f.2

pub more-known : (K M : List Known) (first : ℕ) (W : List Wiring) (old n : Named) → AreNamed old → AreAllKnown (take first K) W → AreRowsOf (take first K) W (name_numbered old.names) old.rows → M ≡ drop first K → Adds old n (OneSays (KnownSays K) M) →
    AddsKnown (take first K) W old (record { known = K; names = n.names; rows = n.rows })
more-known K M first W old n named all_known are is adds =
    let front = take first K in
    let joined : front ++ drop first K ≡ K = take-append-drop first K in
    let said = subst (λ S. Adds old n (OneSays (KnownSays K) S)) is adds in
    let added = subst (λ S. Adds old n (OneSays (KnownSays S) (drop first K))) (sym joined) said in
    record {
      rows = subst (λ S. AreRowsOf S W (name_numbered n.names) n.rows) joined (grown-rows front (drop first K) W old n named all_known are added);
      imports = adds.imports;
      required = adds.required;
      attached = adds.attached;
      exports = exports-kept front (drop first K) W old n named all_known are added;
    }

-- ---- of nothing there are no rows

nothing : AreRowsOf [] [] (name_numbered []) no_rows
nothing = record {
  names = name-one_to_one [] (λ text i j at other. absurd (cc at));
  imports_to = λ r p x row. absurd (omega (arith, row.1));
  imports_from = λ r x p h. absurd h.has.stands;
  requires = λ r x. (λ row. absurd (omega (arith, row.1.1)), λ h. absurd h.has.stands);
  reexports = λ r x. (λ row. absurd (omega (arith, row.1)), λ h. absurd h.has.stands);
  attaches = λ h f. (λ row. absurd (omega (arith, row.1)), λ a. absurd a.stands);
  exports_to = λ o p row. absurd (omega (arith, row.1));
  exports_from = λ o index p export. absurd (omega (arith, export.0));
  uses_to = λ o p u row. absurd (omega (arith, row.1));
  uses_from = λ o index p u export used. absurd (omega (arith, export.0));
}

pub nothing-named : (n : Named) → n.names ≡ [] → n.rows ≡ no_rows → AreNamed n
nothing-named n no_names none =
    let empty : AreNamed (record { names = []; rows = no_rows }) = record {
      numbered = record { imports = λ k row within. absurd (omega (arith, within)); exports = λ k row within. absurd (omega (arith, within)); uses = λ k row within. absurd (omega (arith, within)) };
      once = λ text i j at other. absurd (cc at);
    } in
    subst AreNamed (λ i. record { names = sym no_names i; rows = sym none i }) empty

pub nothing-known : (n : Named) → n.names ≡ [] → n.rows ≡ no_rows → AreRowsOf [] [] (name_numbered n.names) n.rows
nothing-known n no_names none = subst (λ (m : Named). AreRowsOf [] [] (name_numbered m.names) m.rows) (λ i. record { names = sym no_names i; rows = sym none i }) nothing

pub nothing-all_known : AreAllKnown [] []
nothing-all_known = record {
  requirements = λ r w h. absurd h.stands;
  capabilities = λ r w h. absurd h.stands;
  fragments = λ h f a. absurd a.stands;
}
