-- What is looked up in rows.
use Rattle.std.proofs.Common.{◌≡◌, ◌==◌, ◌&&◌, ◌↔◌, ℕ, ◌<◌, length, get_or, true, false, Bool, List, [], ◌∷◌, refl, sym, subst, arith, Contains, Any, IsTrue}
use Rattle.std.proofs.lemmas.Bool.{eqb-true, eq-eqb}
use Rattle.osgi_space_rows.specs.Rows.{RowLists, is_import, imports_for, imports_of, required_by, attached_to, exports_of, exports_for, is_export, uses_for, is_use, Imports, Requires, Reexports, Attaches, OwnExport, OwnUse}
use Rattle.osgi_space_rows.specs.declared.rows.Attachment.{Attachment}
use Rattle.osgi_space_rows.specs.declared.rows.Export.{Export}
use Rattle.osgi_space_rows.specs.declared.rows.Import.{Import}
use Rattle.osgi_space_rows.specs.declared.rows.Required.{Required}
use Rattle.osgi_space_rows.specs.declared.rows.Use.{Use}
use Rattle.osgi_space_sources.specs.laws.Adding.{Each, any-of, any-in, any-none}
use Rattle.osgi_space_sources.specs.laws.Members.{contains-filter, filter-contains, here}

pub and-cases : (a b : Bool) → (a && b) ≡ true → (a ≡ true) × (b ≡ true)
and-cases true b t = (refl, t)
and-cases false b t = cc

pub and-both : (a b : Bool) → a ≡ true → b ≡ true → (a && b) ≡ true
and-both true b t u = u
and-both false b t u = cc

module _ (R : RowLists) where
  pub in-required : (r : ℕ) (row : Required) → Contains (required_by R r) row ↔ (Contains R.required row × (row.revision ≡ r))
  in-required r row = (
    λ at. let f = filter-contains (λ (i : Required). i.revision == r) R.required row at in (f.0, eqb-true row.revision r f.1),
    λ (at, e). contains-filter (λ (i : Required). i.revision == r) R.required row at (eq-eqb row.revision r e),
  )

  pub requires-each : (r x : ℕ) → Each (λ (row : Required) (t : ℕ). t ≡ row.provider) (required_by R r) x ↔ Requires R r x
  requires-each r x = (
    λ any.
        let row = any.1 in
        let f = (in-required r row).0 (any-in (λ (i : Required). x ≡ i.provider) (required_by R r) any) in
        (row.reexport, subst (Contains R.required) (λ i. record { revision = f.1 i; provider = sym any.4 i; reexport = row.reexport }) f.0),
    λ (reexport, at). any-of (λ (i : Required). x ≡ i.provider) (required_by R r) (record { revision = r; provider = x; reexport = reexport }) ((in-required r _).1 (at, refl)) refl,
  )

  pub reexports-each : (r x : ℕ) → Each (λ (row : Required) (t : ℕ). IsTrue row.reexport × (t ≡ row.provider)) (required_by R r) x ↔ Reexports R r x
  reexports-each r x = (
    λ any.
        let row = any.1 in
        let f = (in-required r row).0 (any-in (λ (i : Required). IsTrue i.reexport × (x ≡ i.provider)) (required_by R r) any) in
        subst (Contains R.required) (λ i. record { revision = f.1 i; provider = sym any.4.1 i; reexport = any.4.0 i }) f.0,
    λ at. any-of (λ (i : Required). IsTrue i.reexport × (x ≡ i.provider)) (required_by R r) (record { revision = r; provider = x; reexport = true }) ((in-required r _).1 (at, refl)) (refl, refl),
  )

  -- what holds of some row of a look-up

  pub some-attached : (P : ℕ → Type 0) (h : ℕ) → Any (λ (row : Attachment). P row.fragment) (attached_to R h) ↔ ((f : ℕ) × Attaches R h f × P f)
  some-attached P h = (
    λ any.
        let row = any.1 in
        let f = filter-contains (λ (i : Attachment). i.host == h) R.attached row (any-in (λ (i : Attachment). P i.fragment) (attached_to R h) any) in
        let e = eqb-true row.host h f.1 in
        (row.fragment, subst (Contains R.attached) (λ i. record { host = e i; fragment = row.fragment }) f.0, any.4),
    λ (f, at, p). any-of (λ (i : Attachment). P i.fragment) (attached_to R h) (record { host = h; fragment = f }) (contains-filter (λ (i : Attachment). i.host == h) R.attached _ at (eq-eqb h h refl)) p,
  )

  pub some-import : (P : ℕ → Type 0) (r p : ℕ) → Any (λ (row : Import). P row.provider) (imports_for R r p) ↔ ((x : ℕ) × Imports R r p x × P x)
  some-import P r p = (
    λ any.
        let row = any.1 in
        let f = filter-contains (is_import r p) R.imports row (any-in (λ (i : Import). P i.provider) (imports_for R r p) any) in
        let b = and-cases (row.revision == r) (row.imported == p) f.1 in
        let e = eqb-true row.revision r b.0 in
        let k = eqb-true row.imported p b.1 in
        (row.provider, subst (Contains R.imports) (λ i. record { revision = e i; imported = k i; provider = row.provider }) f.0, any.4),
    λ (x, at, q). any-of (λ (i : Import). P i.provider) (imports_for R r p) (record { revision = r; imported = p; provider = x })
        (contains-filter (is_import r p) R.imports _ at (and-both (r == r) (p == p) (eq-eqb r r refl) (eq-eqb p p refl))) q,
  )

  pub some-wire : (P : ℕ → ℕ → Type 0) (r p : ℕ) → Any (λ (row : Import). P row.imported row.provider) (imports_for R r p) ↔ ((x : ℕ) × Imports R r p x × P p x)
  some-wire P r p = (
    λ any.
        let row = any.1 in
        let f = filter-contains (is_import r p) R.imports row (any-in (λ (i : Import). P i.imported i.provider) (imports_for R r p) any) in
        let b = and-cases (row.revision == r) (row.imported == p) f.1 in
        let e = eqb-true row.revision r b.0 in
        let k = eqb-true row.imported p b.1 in
        (row.provider, subst (Contains R.imports) (λ i. record { revision = e i; imported = k i; provider = row.provider }) f.0, subst (λ q. P q row.provider) k any.4),
    λ (x, at, q). any-of (λ (i : Import). P i.imported i.provider) (imports_for R r p) (record { revision = r; imported = p; provider = x })
        (contains-filter (is_import r p) R.imports _ at (and-both (r == r) (p == p) (eq-eqb r r refl) (eq-eqb p p refl))) q,
  )

  pub some-imported : (P : ℕ → ℕ → Type 0) (r : ℕ) → Any (λ (row : Import). P row.imported row.provider) (imports_of R r) ↔ ((p x : ℕ) × Imports R r p x × P p x)
  some-imported P r = (
    λ any.
        let row = any.1 in
        let f = filter-contains (λ (i : Import). i.revision == r) R.imports row (any-in (λ (i : Import). P i.imported i.provider) (imports_of R r) any) in
        let e = eqb-true row.revision r f.1 in
        (row.imported, row.provider, subst (Contains R.imports) (λ i. record { revision = e i; imported = row.imported; provider = row.provider }) f.0, any.4),
    λ (p, x, at, q). any-of (λ (i : Import). P i.imported i.provider) (imports_of R r) (record { revision = r; imported = p; provider = x })
        (contains-filter (λ (i : Import). i.revision == r) R.imports _ at (eq-eqb r r refl)) q,
  )

  pub some-export : (P : ℕ → Type 0) (o : ℕ) → Any (λ (row : Export). P row.exported) (exports_of R o) ↔ ((p : ℕ) × OwnExport R o p × P p)
  some-export P o = (
    λ any.
        let row = any.1 in
        let f = filter-contains (λ (i : Export). i.owner == o) R.exports row (any-in (λ (i : Export). P i.exported) (exports_of R o) any) in
        let e = eqb-true row.owner o f.1 in
        (row.exported, subst (Contains R.exports) (λ i. record { owner = e i; exported = row.exported }) f.0, any.4),
    λ (p, at, q). any-of (λ (i : Export). P i.exported) (exports_of R o) (record { owner = o; exported = p }) (contains-filter (λ (i : Export). i.owner == o) R.exports _ at (eq-eqb o o refl)) q,
  )

  pub some-use : (P : ℕ → Type 0) (o p : ℕ) → Any (λ (row : Use). P row.used) (uses_for R o p) ↔ ((u : ℕ) × OwnUse R o p u × P u)
  some-use P o p = (
    λ any.
        let row = any.1 in
        let f = filter-contains (is_use o p) R.uses row (any-in (λ (i : Use). P i.used) (uses_for R o p) any) in
        let b = and-cases (row.owner == o) (row.exported == p) f.1 in
        let e = eqb-true row.owner o b.0 in
        let k = eqb-true row.exported p b.1 in
        (row.used, subst (Contains R.uses) (λ i. record { owner = e i; exported = k i; used = row.used }) f.0, any.4),
    λ (u, at, q). any-of (λ (i : Use). P i.used) (uses_for R o p) (record { owner = o; exported = p; used = u })
        (contains-filter (is_use o p) R.uses _ at (and-both (o == o) (p == p) (eq-eqb o o refl) (eq-eqb p p refl))) q,
  )

  pub no_export : (o p : ℕ) → exports_for R o p ≡ [] → ¬ OwnExport R o p
  no_export o p none at =
      let c = contains-filter (is_export o p) R.exports (record { owner = o; exported = p }) at (and-both (o == o) (p == p) (eq-eqb o o refl) (eq-eqb p p refl)) in
      let empty : Contains [] (record { owner = o; exported = p }) = subst (λ rows. Contains rows (record { owner = o; exported = p })) none c in
      absurd (omega (arith, empty.1))

  export-of : (o p : ℕ) (rows : List Export) → rows ≡ exports_for R o p → ¬ (rows ≡ []) → OwnExport R o p
  export-of o p [] is some = absurd (some refl)
  export-of o p (row ∷ rows) is some =
      let f = filter-contains (is_export o p) R.exports row (subst (λ xs. Contains xs row) is (here row rows row refl)) in
      let b = and-cases (row.owner == o) (row.exported == p) f.1 in
      let e = eqb-true row.owner o b.0 in
      let k = eqb-true row.exported p b.1 in
      subst (Contains R.exports) (λ i. record { owner = e i; exported = k i }) f.0

  pub has_export : (o p : ℕ) → ¬ (exports_for R o p ≡ []) → OwnExport R o p
  has_export o p some = export-of o p (exports_for R o p) refl some

  pub no_import : (r p : ℕ) → imports_for R r p ≡ [] → ¬ ((x : ℕ) × Imports R r p x)
  no_import r p none (x, at) =
      let any = (some-import (λ y. Unit {0}) r p).1 (x, at, tt) in
      any-none (λ (row : Import). Unit {0}) (subst (λ rows. Any (λ (row : Import). Unit {0}) rows) none any)

  import-of : (r p : ℕ) (rows : List Import) → rows ≡ imports_for R r p → ¬ (rows ≡ []) → (x : ℕ) × Imports R r p x
  import-of r p [] is some = absurd (some refl)
  import-of r p (row ∷ rows) is some =
      let any = any-of (λ (i : Import). Unit {0}) (imports_for R r p) row (subst (λ xs. Contains xs row) is (here row rows row refl)) tt in
      let w = (some-import (λ y. Unit {0}) r p).0 any in
      (w.0, w.1)

  pub some_import : (r p : ℕ) → ¬ (imports_for R r p ≡ []) → (x : ℕ) × Imports R r p x
  some_import r p some = import-of r p (imports_for R r p) refl some

  -- the rows of a look-up, one by one

  pub export-at : (o : ℕ) (rows : List Export) (i : ℕ) (row : Export) → rows ≡ exports_of R o → i < length rows → row ≡ get_or rows i row → OwnExport R o row.exported
  export-at o rows i row is h at =
      let any = subst (λ xs. Any (λ (x : Export). x.exported ≡ row.exported) xs) is (any-of (λ (x : Export). x.exported ≡ row.exported) rows row (i, h, sym at) refl) in
      let some = (some-export (λ p. p ≡ row.exported) o).0 any in
      subst (λ p. OwnExport R o p) some.2 some.1

  pub attached-at : (r : ℕ) (rows : List Attachment) (i : ℕ) (row : Attachment) → rows ≡ attached_to R r → i < length rows → row ≡ get_or rows i row → Attaches R r row.fragment
  attached-at r rows i row is h at =
      let any = subst (λ xs. Any (λ (x : Attachment). x.fragment ≡ row.fragment) xs) is (any-of (λ (x : Attachment). x.fragment ≡ row.fragment) rows row (i, h, sym at) refl) in
      let some = (some-attached (λ f. f ≡ row.fragment) r).0 any in
      subst (λ f. Attaches R r f) some.2 some.1
