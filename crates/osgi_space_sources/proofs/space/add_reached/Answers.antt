-- What each bundle that is reached gives, and nothing where none is required.
use Rattle.std.proofs.Common.{◌≡◌, ◌↔◌, [], ℕ, List, sym, ◌∙◌, subst, Contains}
use Rattle.std.proofs.lemmas.List.{get_or_default}
use Rattle.osgi_space_sources.specs.computed.Adds.{Adds}
use Rattle.osgi_space_sources.specs.computed.Givens.{IsGivenBy, IsGivenByReached, IsReached}
use Rattle.osgi_space_sources.specs.declared.given.Given.{Given}
use Rattle.osgi_space_sources.specs.laws.Adding.{Each, any-in, any-of, adds-more, adds-nothing, adds-whole, adds-same}
use Rattle.osgi_space_sources.proofs.Lengths.{empty-true}
use Rattle.osgi_space_sources.proofs.Alone.{none-reached}
use Rattle.osgi_space_rows.specs.Rows.{RowLists, required_by}
use Rattle.osgi_space_sources.proofs.space.add_reached.Goals as goal

abbrev gives : RowLists → ℕ → ℕ → Given → Type 0
gives R r b g = IsGivenBy R r b g

pub returns-then-is_empty : goal.returns-then-is_empty
returns-then-is_empty c =
    let R = c.args.rows.now in
    let r = c.args.revision in
    let none : required_by R r ≡ [] = sym c.of.ensures.rows ∙ empty-true c.of.result.now (sym c.is_empty.ensures ∙ c.if-is_empty.true) in
    record { added = adds-nothing _ c.args.givens.now.items (λ g given. none-reached R r none given.0 given.1) }

pub loop-bundle-preserved : goal.loop-bundle-preserved
loop-bundle-preserved c =
    let bundles = c.items-bundle-items.result.now in
    let at = get_or_default bundles c.loop-bundle.bundle-index 0 _ c.loop-bundle-test.true in
    adds-more (gives c.args.rows.now c.args.revision) bundles c.loop-bundle.bundle-index _ c.loop-bundle-test.true at c.loop-bundle.invariant c.in_ok-add_bundle.ensures.added

by-reached : (R : RowLists) (r : ℕ) (reached : List ℕ) → ((b : ℕ) → Contains reached b ↔ IsReached R r b) → (g : Given) → Each (gives R r) reached g ↔ IsGivenByReached R r g
by-reached R r reached is g = (
  λ any. (any.1, (is any.1).0 (any-in (λ b. IsGivenBy R r b g) reached any), any.4),
  λ w. any-of (λ b. IsGivenBy R r b g) reached w.0 ((is w.0).1 w.1) w.2,
)

pub returns : goal.returns
returns c =
    let R = c.args.rows.now in
    let bundles = c.items-bundle-items.result.now in
    let P : List ℕ → Type 0 = λ xs. Adds (Each (gives R c.args.revision) xs) c.args.givens.now.items c.loop-bundle.givens.items in
    record {
      added = adds-same (by-reached R c.args.revision c.in_ok-reached.reached c.in_ok-reached.ensures.reached)
          (subst P c.items-bundle-items.ensures.items (adds-whole (gives R c.args.revision) bundles c.loop-bundle.bundle-index c.loop-bundle-test.false c.loop-bundle.invariant));
    }
