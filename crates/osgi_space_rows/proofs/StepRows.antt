-- Rows of wirings with one wire or fragment more.
use Rattle.std.proofs.Common.{◌≡◌, ◌↔◌, ◌⊎◌, inl, inr, ℕ, true, IsTrue, List, [], ◌∷◌, ◌++◌, refl, sym, ◌∙◌, ap, subst, Contains}
use Rattle.std.specs.Prelude.{codes}
use Rattle.std.proofs.lemmas.List.Elements.{Contains-append_left, Contains-push, Contains-push_cases}
use Rattle.std.proofs.lemmas.Slice.Eq.{bytes_eq-Decides}
use Rattle.osgi_base.specs.declared.ids.RevisionId.{RevisionId}
use Rattle.osgi_world.specs.Lookups.{capability_namespace, is_reexport}
use Rattle.osgi_world.specs.Satisfaction.{is_bundle, is_package}
use Rattle.osgi_world.specs.Wirings as wirings
use Rattle.osgi_world.specs.Wirings.{Attached, BundleWire, HasWire, IsBundleWire, IsExport, PackageWire}
use Rattle.osgi_world.specs.declared.wiring.Wire.{Wire}
use Rattle.osgi_world.specs.declared.wiring.Wiring.{Wiring}
use Rattle.osgi_world.specs.declared.world.Known.{Known}
use Rattle.osgi_space_rows.specs.Agree.{AreRowsOf, id}
use Rattle.osgi_space_rows.specs.Rows.{RowLists, with_attachment, with_import, with_required}
use Rattle.osgi_space_rows.specs.declared.rows.Attachment.{Attachment}
use Rattle.osgi_space_rows.specs.declared.rows.Import.{Import}
use Rattle.osgi_space_rows.specs.declared.rows.Required.{Required}
use Rattle.osgi_space_rows.proofs.Stepped.{AreAlike, fragment-cases, fragment-kept, fragment-new, in-one, wire-cases, wire-kept, wire-new}

apart : (namespace : List ℕ) → namespace ≡ codes "osgi.wiring.bundle" → namespace ≡ codes "osgi.wiring.package" → ⊥
apart namespace of_bundle of_package = let e : codes "osgi.wiring.bundle" ≡ codes "osgi.wiring.package" = sym of_bundle ∙ of_package in cc

pub not_both : (namespace : List ℕ) → IsTrue (is_bundle namespace) → IsTrue (is_package namespace) → ⊥
not_both namespace of_bundle of_package =
    apart namespace ((bytes_eq-Decides namespace (codes "osgi.wiring.bundle")).0 of_bundle) ((bytes_eq-Decides namespace (codes "osgi.wiring.package")).0 of_package)

-- ---- more wires

module _ (K : List Known) (V W : List Wiring) (kept : (r : RevisionId) (w : Wire) → HasWire V r w → HasWire W r w) where
  pub package-kept : (r : RevisionId) (p : List ℕ) (x : RevisionId) → PackageWire K V r p x → PackageWire K W r p x
  package-kept r p x h = record { wire = h.wire; has = kept r h.wire h.has; export = h.export; provider = h.provider }

  pub bundle-kept : (r x : RevisionId) → BundleWire K V r x → BundleWire K W r x
  bundle-kept r x h = record { wire = h.wire; has = kept r h.wire h.has; bundle = h.bundle; provider = h.provider }

  pub reexport-kept : (r x : RevisionId) → wirings.Reexports K V r x → wirings.Reexports K W r x
  reexport-kept r x h = record { wire = h.wire; has = kept r h.wire h.has; bundle = h.bundle; provider = h.provider; reexport = h.reexport }

-- rows speak of wires and fragments alone
pub rows-alike : (K : List Known) (V W : List Wiring) (N : ℕ → List ℕ) (R : RowLists) → AreAlike V W → AreRowsOf K V N R → AreRowsOf K W N R
rows-alike K V W N R alike are =
    let there = λ (r : RevisionId) (w : Wire). (alike.wires r w).0 in
    let back = λ (r : RevisionId) (w : Wire). (alike.wires r w).1 in
    record {
      names = are.names;
      imports_to = λ r p x row. package-kept K V W there (id r) (N p) (id x) (are.imports_to r p x row);
      imports_from = λ r x p h. are.imports_from r x p (package-kept K W V back (id r) p (id x) h);
      requires = λ r x. (λ row. bundle-kept K V W there (id r) (id x) ((are.requires r x).0 row), λ h. (are.requires r x).1 (bundle-kept K W V back (id r) (id x) h));
      reexports = λ r x. (λ row. reexport-kept K V W there (id r) (id x) ((are.reexports r x).0 row), λ h. (are.reexports r x).1 (reexport-kept K W V back (id r) (id x) h));
      attaches = λ h f. (λ row. (alike.fragments (id h) (id f)).0 ((are.attaches h f).0 row), λ a. (are.attaches h f).1 ((alike.fragments (id h) (id f)).1 a));
      exports_to = are.exports_to;
      exports_from = are.exports_from;
      uses_to = are.uses_to;
      uses_from = are.uses_from;
    }

-- ---- one wire more

module _ (K : List Known) (W : List Wiring) (r : RevisionId) (w : Wire) where
  abbrev one : Wiring
  one = record { revision = r; wires = w ∷ []; fragments = [] }

  abbrev more : List Wiring
  more = W ++ one ∷ []

  old-wire : (a : RevisionId) (v : Wire) → HasWire W a v → HasWire more a v
  old-wire a v h = wire-kept W one a v h

  new-wire : (a : ℕ) → r.0 ≡ a → HasWire more (id a) w
  new-wire a same = wire-new W one (id a) w (ap id same) (inl refl)

  cases : (a : ℕ) (v : Wire) → HasWire more (id a) v → HasWire W (id a) v ⊎ ((r.0 ≡ a) × (v ≡ w))
  cases a v h = elim (wire-cases W one (id a) v h) [ inl old ↦ inl old | inr new ↦ inr (ap (λ (i : RevisionId). i.0) new.0, in-one v w new.1) ]

  package-cases : (a : ℕ) (p : List ℕ) (x : ℕ) → PackageWire K more (id a) p (id x) → PackageWire K W (id a) p (id x) ⊎ ((r.0 ≡ a) × IsExport K w.capability.owner w.capability.index p × (w.capability.provider.0 ≡ x))
  package-cases a p x h = elim (cases a h.wire h.has) [
    | inl old ↦ inl (record { wire = h.wire; has = old; export = h.export; provider = h.provider })
    | inr new ↦ inr (
      new.0,
      subst (λ (v : Wire). IsExport K v.capability.owner v.capability.index p) new.1 h.export,
      ap (λ (v : Wire). v.capability.provider.0) (sym new.1) ∙ ap (λ (i : RevisionId). i.0) h.provider,
    )
  ]

  bundle-cases : (a x : ℕ) → BundleWire K more (id a) (id x) → BundleWire K W (id a) (id x) ⊎ ((r.0 ≡ a) × IsBundleWire K w × (w.capability.provider.0 ≡ x))
  bundle-cases a x h = elim (cases a h.wire h.has) [
    | inl old ↦ inl (record { wire = h.wire; has = old; bundle = h.bundle; provider = h.provider })
    | inr new ↦ inr (new.0, subst (IsBundleWire K) new.1 h.bundle, ap (λ (v : Wire). v.capability.provider.0) (sym new.1) ∙ ap (λ (i : RevisionId). i.0) h.provider)
  ]

  reexport-cases : (a x : ℕ) → wirings.Reexports K more (id a) (id x) →
      wirings.Reexports K W (id a) (id x) ⊎ ((r.0 ≡ a) × IsBundleWire K w × (w.capability.provider.0 ≡ x) × IsTrue (is_reexport K w.requirement))
  reexport-cases a x h = elim (cases a h.wire h.has) [
    | inl old ↦ inl (record { wire = h.wire; has = old; bundle = h.bundle; provider = h.provider; reexport = h.reexport })
    | inr new ↦ inr (
      new.0,
      subst (IsBundleWire K) new.1 h.bundle,
      ap (λ (v : Wire). v.capability.provider.0) (sym new.1) ∙ ap (λ (i : RevisionId). i.0) h.provider,
      subst (λ (v : Wire). IsTrue (is_reexport K v.requirement)) new.1 h.reexport,
    )
  ]

  same-fragments : (h f : RevisionId) → Attached W h f ↔ Attached more h f
  same-fragments h f = (fragment-kept W one h f, λ a. elim (fragment-cases W one h f a) [ inl old ↦ old | inr new ↦ absurd new.1 ])

  -- for a package
  pub import-added : (N : ℕ → List ℕ) (R : RowLists) (n : ℕ) → IsExport K w.capability.owner w.capability.index (N n) → AreRowsOf K W N R →
      AreRowsOf K more N (with_import R (record { revision = r.0; imported = n; provider = w.capability.provider.0 }))
  import-added N R n export are =
      let z : Import = record { revision = r.0; imported = n; provider = w.capability.provider.0 } in
      record {
        names = are.names;
        imports_to = λ a p x row. elim (Contains-push_cases R.imports z (record { revision = a; imported = p; provider = x }) row) [
          | inl old ↦ package-kept K W more old-wire (id a) (N p) (id x) (are.imports_to a p x old)
          | inr same ↦ record {
            wire = w;
            has = new-wire a (ap (λ (i : Import). i.revision) same);
            export = subst (λ q. IsExport K w.capability.owner w.capability.index (N q)) (ap (λ (i : Import). i.imported) same) export;
            provider = ap id (ap (λ (i : Import). i.provider) same);
          }
        ];
        imports_from = λ a x p h. elim (package-cases a p x h) [
          | inl old ↦ let found = are.imports_from a x p old in (found.0, found.1, Contains-append_left R.imports (z ∷ []) _ found.2)
          | inr new ↦ (
            n,
            sym export.1 ∙ new.1.1,
            subst (Contains (R.imports ++ z ∷ [])) (λ i. record { revision = new.0 i; imported = n; provider = new.2 i }) (Contains-push R.imports z),
          )
        ];
        requires = λ a x. (
          λ row. bundle-kept K W more old-wire (id a) (id x) ((are.requires a x).0 row),
          λ h. elim (bundle-cases a x h) [ inl old ↦ (are.requires a x).1 old | inr new ↦ absurd (not_both (capability_namespace K w.capability.owner w.capability.index) new.1 export.0) ],
        );
        reexports = λ a x. (
          λ row. reexport-kept K W more old-wire (id a) (id x) ((are.reexports a x).0 row),
          λ h. elim (reexport-cases a x h) [ inl old ↦ (are.reexports a x).1 old | inr new ↦ absurd (not_both (capability_namespace K w.capability.owner w.capability.index) new.1 export.0) ],
        );
        attaches = λ h f. (λ row. (same-fragments (id h) (id f)).0 ((are.attaches h f).0 row), λ a. (are.attaches h f).1 ((same-fragments (id h) (id f)).1 a));
        exports_to = are.exports_to;
        exports_from = are.exports_from;
        uses_to = are.uses_to;
        uses_from = are.uses_from;
      }

  -- for a bundle
  pub required-added : (N : ℕ → List ℕ) (R : RowLists) → IsBundleWire K w → AreRowsOf K W N R →
      AreRowsOf K more N (with_required R (record { revision = r.0; provider = w.capability.provider.0; reexport = is_reexport K w.requirement }))
  required-added N R bundle are =
      let z : Required = record { revision = r.0; provider = w.capability.provider.0; reexport = is_reexport K w.requirement } in
      let xs = R.required ++ z ∷ [] in
      record {
        names = are.names;
        imports_to = λ a p x row. package-kept K W more old-wire (id a) (N p) (id x) (are.imports_to a p x row);
        imports_from = λ a x p h. elim (package-cases a p x h) [ inl old ↦ are.imports_from a x p old | inr new ↦ absurd (not_both (capability_namespace K w.capability.owner w.capability.index) bundle new.1.0) ];
        requires = λ a x. (
          λ row. elim (Contains-push_cases R.required z (record { revision = a; provider = x; reexport = row.0 }) row.1) [
            | inl old ↦ bundle-kept K W more old-wire (id a) (id x) ((are.requires a x).0 (row.0, old))
            | inr same ↦ record { wire = w; has = new-wire a (ap (λ (i : Required). i.revision) same); bundle = bundle; provider = ap id (ap (λ (i : Required). i.provider) same) }
          ],
          λ h. elim (bundle-cases a x h) [
            | inl old ↦ let found = (are.requires a x).1 old in (found.0, Contains-append_left R.required (z ∷ []) _ found.1)
            | inr new ↦ (z.reexport, subst (Contains xs) (λ i. record { revision = new.0 i; provider = new.2 i; reexport = z.reexport }) (Contains-push R.required z))
          ],
        );
        reexports = λ a x. (
          λ row. elim (Contains-push_cases R.required z (record { revision = a; provider = x; reexport = true }) row) [
            | inl old ↦ reexport-kept K W more old-wire (id a) (id x) ((are.reexports a x).0 old)
            | inr same ↦ record {
              wire = w;
              has = new-wire a (ap (λ (i : Required). i.revision) same);
              bundle = bundle;
              provider = ap id (ap (λ (i : Required). i.provider) same);
              reexport = ap (λ (i : Required). i.reexport) same;
            }
          ],
          λ h. elim (reexport-cases a x h) [
            | inl old ↦ Contains-append_left R.required (z ∷ []) _ ((are.reexports a x).1 old)
            | inr new ↦ subst (Contains xs) (λ i. record { revision = new.0 i; provider = new.2 i; reexport = new.3 i }) (Contains-push R.required z)
          ],
        );
        attaches = λ h f. (λ row. (same-fragments (id h) (id f)).0 ((are.attaches h f).0 row), λ a. (are.attaches h f).1 ((same-fragments (id h) (id f)).1 a));
        exports_to = are.exports_to;
        exports_from = are.exports_from;
        uses_to = are.uses_to;
        uses_from = are.uses_from;
      }

  -- for neither
  pub other-added : (N : ℕ → List ℕ) (R : RowLists) → ((p : List ℕ) → ¬ IsExport K w.capability.owner w.capability.index p) → ¬ IsBundleWire K w → AreRowsOf K W N R → AreRowsOf K more N R
  other-added N R no_export no_bundle are = record {
    names = are.names;
    imports_to = λ a p x row. package-kept K W more old-wire (id a) (N p) (id x) (are.imports_to a p x row);
    imports_from = λ a x p h. elim (package-cases a p x h) [ inl old ↦ are.imports_from a x p old | inr new ↦ absurd (no_export p new.1) ];
    requires = λ a x. (
      λ row. bundle-kept K W more old-wire (id a) (id x) ((are.requires a x).0 row),
      λ h. elim (bundle-cases a x h) [ inl old ↦ (are.requires a x).1 old | inr new ↦ absurd (no_bundle new.1) ],
    );
    reexports = λ a x. (
      λ row. reexport-kept K W more old-wire (id a) (id x) ((are.reexports a x).0 row),
      λ h. elim (reexport-cases a x h) [ inl old ↦ (are.reexports a x).1 old | inr new ↦ absurd (no_bundle new.1) ],
    );
    attaches = λ h f. (λ row. (same-fragments (id h) (id f)).0 ((are.attaches h f).0 row), λ a. (are.attaches h f).1 ((same-fragments (id h) (id f)).1 a));
    exports_to = are.exports_to;
    exports_from = are.exports_from;
    uses_to = are.uses_to;
    uses_from = are.uses_from;
  }

-- ---- one fragment more

module _ (K : List Known) (W : List Wiring) (host fragment : RevisionId) where
  abbrev with_one : Wiring
  with_one = record { revision = host; wires = []; fragments = fragment ∷ [] }

  same-wire : (r : RevisionId) (w : Wire) → HasWire W r w → HasWire (W ++ with_one ∷ []) r w
  same-wire r w h = wire-kept W with_one r w h

  back-wire : (r : RevisionId) (w : Wire) → HasWire (W ++ with_one ∷ []) r w → HasWire W r w
  back-wire r w h = elim (wire-cases W with_one r w h) [ inl old ↦ old | inr new ↦ absurd new.1 ]

  pub attachment-added : (N : ℕ → List ℕ) (R : RowLists) → AreRowsOf K W N R → AreRowsOf K (W ++ with_one ∷ []) N (with_attachment R (record { host = host.0; fragment = fragment.0 }))
  attachment-added N R are =
      let z : Attachment = record { host = host.0; fragment = fragment.0 } in
      let more = W ++ with_one ∷ [] in
      record {
        names = are.names;
        imports_to = λ a p x row. package-kept K W more same-wire (id a) (N p) (id x) (are.imports_to a p x row);
        imports_from = λ a x p h. are.imports_from a x p (package-kept K more W back-wire (id a) p (id x) h);
        requires = λ a x. (λ row. bundle-kept K W more same-wire (id a) (id x) ((are.requires a x).0 row), λ h. (are.requires a x).1 (bundle-kept K more W back-wire (id a) (id x) h));
        reexports = λ a x. (λ row. reexport-kept K W more same-wire (id a) (id x) ((are.reexports a x).0 row), λ h. (are.reexports a x).1 (reexport-kept K more W back-wire (id a) (id x) h));
        attaches = λ h f. (
          λ row. elim (Contains-push_cases R.attached z (record { host = h; fragment = f }) row) [
            | inl old ↦ fragment-kept W with_one (id h) (id f) ((are.attaches h f).0 old)
            | inr same ↦ fragment-new W with_one (id h) (id f) (ap id (ap (λ (i : Attachment). i.host) same)) (inl (ap id (sym (ap (λ (i : Attachment). i.fragment) same))))
          ],
          λ a. elim (fragment-cases W with_one (id h) (id f) a) [
            | inl old ↦ Contains-append_left R.attached (z ∷ []) _ ((are.attaches h f).1 old)
            | inr new ↦
                let of = ap (λ (i : RevisionId). i.0) new.0 in
                let is = ap (λ (i : RevisionId). i.0) (sym (in-one (id f) fragment new.1)) in
                subst (Contains (R.attached ++ z ∷ [])) (λ i. record { host = of i; fragment = is i }) (Contains-push R.attached z)
          ],
        );
        exports_to = are.exports_to;
        exports_from = are.exports_from;
        uses_to = are.uses_to;
        uses_from = are.uses_from;
      }
