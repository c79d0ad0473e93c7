-- A revision has two providers of a package where a row of it differs from the first one for that package, or from a wire that is given.
use Rattle.std.proofs.Common.{◌≡◌, ◌≢◌, ◌<◌, ◌↔◌, inl, inr, ℕ, Bool, IsTrue, List, [], ◌∷◌, length, refl, sym, ◌∙◌, ap, subst, arith, Any, Contains}
use Rattle.osgi_base.specs.declared.ids.RevisionId.{RevisionId}
use Rattle.osgi_resolver_theory.proofs.Values.{nat-dec}
use Rattle.osgi_resolver_hopeless.proofs.Answering.{known-is}
use Rattle.osgi_resolver_hopeless.specs.computed.Providers.{FirstDiffers, HasTwoProviders}
use Rattle.osgi_resolver_hopeless.specs.computed.Stuck.{OtherProvider, TwoProviders}
use Rattle.osgi_resolver_path.specs.Standing.{IsProblemOf, Standing, made}
use Rattle.osgi_resolver_path.specs.declared.wired.Wired.{Wired}
use Rattle.osgi_space_sources.specs.laws.Adding.{any-in, any-none, any-of}
use Rattle.osgi_space.proofs.Bridge.{imports-from, imports-to}
use Rattle.osgi_space.proofs.Ids.{contains-in}
use Rattle.osgi_space_sources.specs.laws.Members.{here}
use Rattle.osgi_space_sources.proofs.Rows.{no_import, some-import, some-imported}
use Rattle.osgi_space_rows.specs.Agree.{AreRowsOf, id}
use Rattle.osgi_space_rows.specs.Names.{name_numbered}
use Rattle.osgi_space_rows.specs.Rows.{Imports, RowLists, imports_for, imports_of}
use Rattle.osgi_space_rows.specs.Worlds.{AreRowsIn, WorldLists}
use Rattle.osgi_space_rows.specs.declared.rows.Import.{Import}
use Rattle.osgi_world.specs.Partial.{partial}
use Rattle.osgi_world.specs.Wirings.{IsExport, PackageWire}
use Rattle.osgi_world.specs.declared.problem.Problem.{Problem}
use Rattle.osgi_world.specs.declared.wiring.Wiring.{Wiring}
use Rattle.osgi_world.specs.declared.world.Known.{Known}

module _ (R : RowLists) (r : ℕ) where
  differing : (p x : ℕ) (rows : List Import) → rows ≡ imports_for R r p → FirstDiffers rows x → (y : ℕ) × Imports R r p y × (y ≢ x)
  differing p x [] e d = absurd d
  differing p x (row ∷ rows) e d =
      let any = any-of (λ (i : Import). i.provider ≡ row.provider) (imports_for R r p) row (subst (λ xs. Contains xs row) e (here row rows row refl)) refl in
      let at = (some-import R (λ y. y ≡ row.provider) r p).0 any in
      (row.provider, subst (Imports R r p) at.2 at.1, d)

  one-differs : (p x y : ℕ) → Imports R r p x → Imports R r p y → x ≢ y → (rows : List Import) → rows ≡ imports_for R r p → (z : ℕ) × Imports R r p z × FirstDiffers rows z
  one-differs p x y a b apart [] e = absurd (no_import R r p (sym e) (x, a))
  one-differs p x y a b apart (row ∷ rows) e = elim (nat-dec row.provider x) [
    | inl same ↦ (y, b, λ s. apart (sym same ∙ s))
    | inr other ↦ (x, a, other)
  ]

  abbrev pub Differs : Import → Type 0
  Differs row = FirstDiffers (imports_for R r row.imported) row.provider

  pub some-differs : Any Differs (imports_of R r) ↔ HasTwoProviders R r
  some-differs =
      let some = some-imported R (λ p x. FirstDiffers (imports_for R r p) x) r in (
        λ any. let at = some.0 any in
            let y = differing at.0 at.1 (imports_for R r at.0) refl at.3 in
            (at.0, y.0, at.1, y.1, at.2, y.2),
        λ two. let z = one-differs two.0 two.1 two.2 two.3 two.4 two.5 (imports_for R r two.0) refl in
            some.1 (two.0, z.0, z.1, z.2),
      )

  -- a single wire goes to one provider
  only : (Q : Import → Type 0) (row : Import) → Any Q (row ∷ []) → Q row
  only Q row any = elim (contains-in (row ∷ []) any.1 (any-in Q (row ∷ []) any)) [ inl e ↦ subst Q e any.4 | inr i ↦ elim i [ ] ]

  abbrev Is : ℕ → ℕ → Import → Type 0
  Is p x row = (row.imported ≡ p) × (row.provider ≡ x)

  an-import : (p x : ℕ) → Imports R r p x → Any (Is p x) (imports_of R r)
  an-import p x i = (some-imported R (λ q y. (q ≡ p) × (y ≡ x)) r).1 (p, x, i, (refl, refl))

  pub few-same : (rows : List Import) → rows ≡ imports_of R r → length rows < 2 → ¬ HasTwoProviders R r
  few-same [] e few two = any-none (Is two.0 two.1) (subst (λ xs. Any (Is two.0 two.1) xs) (sym e) (an-import two.0 two.1 two.3))
  few-same (row ∷ []) e few two =
      let a = only (Is two.0 two.1) row (subst (λ xs. Any (Is two.0 two.1) xs) (sym e) (an-import two.0 two.1 two.3)) in
      let b = only (Is two.0 two.2) row (subst (λ xs. Any (Is two.0 two.2) xs) (sym e) (an-import two.0 two.2 two.4)) in
      two.5 (sym a.1 ∙ b.1)
  few-same (row ∷ other ∷ rows) e few two = absurd (omega (arith, few))

-- the same of the wirings whose rows these are
module _ (K : List Known) (W : List Wiring) (N : ℕ → List ℕ) (R : RowLists) (is : AreRowsOf K W N R) (m : RevisionId) where
  pub two-providers : HasTwoProviders R m.0 ↔ TwoProviders K W m
  two-providers = (
    λ two. record {
      name = N two.0;
      one = id two.1;
      other = id two.2;
      one_wire = imports-to K W N R is m.0 two.0 two.1 two.3;
      other_wire = imports-to K W N R is m.0 two.0 two.2 two.4;
      differ = λ e. two.5 (ap (λ (i : RevisionId). i.0) e);
    },
    λ t.
        let a = is.imports_from m.0 t.one.0 t.name t.one_wire in
        let b = is.imports_from m.0 t.other.0 t.name t.other_wire in
        let same = is.names b.0 a.0 (b.1 ∙ sym a.1) in
        (a.0, t.one.0, t.other.0, a.2, subst (λ i. Imports R m.0 i t.other.0) same b.2, λ e. t.differ (ap id e)),
  )

-- an answer by the rows of what is decided
pub two-told : (s : Standing) (P : Problem) → IsProblemOf s P → (world : WorldLists) → world.known ≡ s.world.known → AreRowsIn world (partial P (made P s)) → (R : RowLists) → world.rows ≡ R → (m : RevisionId) (b : Bool) → IsTrue b ↔ HasTwoProviders R m.0 →
    IsTrue b ↔ TwoProviders P.world.known (partial P (made P s)) m
two-told s P L world known-s is R rows-are m b told =
    let W = partial P (made P s) in
    let known = known-is s P L world.known known-s in
    let two = two-providers world.known W (name_numbered world.names) world.rows is m in (
      λ t. subst (λ K. TwoProviders K W m) known (two.0 (subst (λ (T : RowLists). HasTwoProviders T m.0) (sym rows-are) (told.0 t))),
      λ p. told.1 (subst (λ (T : RowLists). HasTwoProviders T m.0) rows-are (two.1 (subst (λ K. TwoProviders K W m) (sym known) p))),
    )

-- a wire of r for the package of this number, and another provider of it
module _ (K : List Known) (W : List Wiring) (N : ℕ → List ℕ) (R : RowLists) (is : AreRowsOf K W N R) (r : RevisionId) (w : Wired) (n : ℕ) (export : IsExport K w.wire.capability.owner w.wire.capability.index (N n)) where
  pub other-provider : w.revision ≡ r → Any (λ (row : Import). row.provider ≢ w.wire.capability.provider.0) (imports_for R r.0 n) ↔ OtherProvider K W r w
  other-provider own =
      let others = some-import R (λ y. y ≢ w.wire.capability.provider.0) r.0 n in (
        λ any. let at = others.0 any in record {
          name = N n;
          other = id at.0;
          holder = own;
          export = export;
          other_wire = imports-to K W N R is r.0 n at.0 at.1;
          differ = λ e. at.2 (sym (ap (λ (i : RevisionId). i.0) e));
        },
        λ o.
            let same : o.name ≡ N n = sym o.export.1 ∙ export.1 in
            others.1 (o.other.0, imports-from K W N R is r.0 n o.other.0 (subst (λ p. PackageWire K W r p o.other) same o.other_wire), λ e. o.differ (sym (ap id e))),
      )
