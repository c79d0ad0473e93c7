-- What each bundle that is reached gives, and then the revision itself.
use Rattle.std.proofs.Common.{◌↔◌, ◌⊎◌, inl, inr, ℕ, List, subst, Contains}
use Rattle.std.proofs.lemmas.List.{get_or_default}
use Rattle.osgi_space_sources.specs.computed.Adds.{Adds}
use Rattle.osgi_space_sources.specs.computed.Givens.{IsDirect, IsGivenTo, IsReached}
use Rattle.osgi_space_sources.specs.declared.given.Given.{Given}
use Rattle.osgi_space_sources.specs.laws.Adding.{Each, any-in, any-of, adds-more, adds-whole, adds-same, adds-then}
use Rattle.osgi_space_rows.specs.Rows.{RowLists}
use Rattle.osgi_space_sources.proofs.package_sources.add_given.Goals as goal

abbrev gives : RowLists → ℕ → ℕ → Given → Type 0
gives R p b g = IsDirect R b p g

pub loop-bundle-preserved : goal.loop-bundle-preserved
loop-bundle-preserved c =
    let bundles = c.items-bundle-items.result.now in
    let at = get_or_default bundles c.loop-bundle.bundle-index 0 _ c.loop-bundle-test.true in
    adds-more (gives c.args.rows.now c.args.package) bundles c.loop-bundle.bundle-index _ c.loop-bundle-test.true at c.loop-bundle.invariant c.in_ok-add_direct.ensures.added

given-each : (R : RowLists) (r p : ℕ) (reached : List ℕ) → ((b : ℕ) → Contains reached b ↔ IsReached R r b) → (g : Given) → (Each (gives R p) reached g ⊎ IsDirect R r p g) ↔ IsGivenTo R r p g
given-each R r p reached is g = (
  λ either. elim either [
    | inl any ↦ inl (any.1, (is any.1).0 (any-in (λ b. IsDirect R b p g) reached any), any.4)
    | inr own ↦ inr own
  ],
  λ either. elim either [
    | inl w ↦ inl (any-of (λ b. IsDirect R b p g) reached w.0 ((is w.0).1 w.1) w.2)
    | inr own ↦ inr own
  ],
)

pub returns : goal.returns
returns c =
    let bundles = c.items-bundle-items.result.now in
    let P : List ℕ → Type 0 = λ xs. Adds (Each (gives c.args.rows.now c.args.package) xs) c.args.givens.now.items c.loop-bundle.givens.items in
    record {
      added = adds-same (given-each c.args.rows.now c.args.revision c.args.package c.in_ok-reached.reached c.in_ok-reached.ensures.reached)
          (adds-then (subst P c.items-bundle-items.ensures.items (adds-whole (gives c.args.rows.now c.args.package) bundles c.loop-bundle.bundle-index c.loop-bundle-test.false c.loop-bundle.invariant)) c.in_ok-add_direct-2.ensures.added);
    }
