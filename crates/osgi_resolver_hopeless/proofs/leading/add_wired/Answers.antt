-- One member more.
use Rattle.std.proofs.Common.{◌≡◌, ◌↔◌, ℕ, List, get_or, refl, sym, subst}
use Rattle.std.proofs.lemmas.List.{get_or_default}
use Rattle.osgi_space.proofs.Ids.{contains-in, in-contains}
use Rattle.osgi_space_sources.specs.laws.Adding.{Each, adds-more, adds-same, adds-start, adds-whole, any-in, any-of}
use Rattle.osgi_world.specs.Lists.{In}
use Rattle.osgi_resolver_hopeless.proofs.leading.add_wired.Goals as goal

abbrev gives : ℕ → ℕ → Type 0
gives member n = n ≡ member

-- what the items give is what they have
each-in : (items : List ℕ) (n : ℕ) → Each gives items n ↔ In n items
each-in items n = (
  λ any. subst (λ k. In k items) (sym any.4) (contains-in items any.1 (any-in (λ m. gives m n) items any)),
  λ i. any-of (λ m. gives m n) items n (in-contains items n i) refl,
)

pub loop-member-init : goal.loop-member-init
loop-member-init c = adds-start gives c.wired_to-member-items.result.now c.args.found.now

pub loop-member-preserved : goal.loop-member-preserved
loop-member-preserved c =
    let items = c.wired_to-member-items.result.now in
    let i = c.loop-member.member-index in
    let within = c.loop-member-test.true in
    let n = get_or items i 0 in
    adds-more gives items i n within (get_or_default items i 0 n within) c.loop-member.invariant c.in_ok-add.ensures.added

pub returns : goal.returns
returns c = record {
  added = λ P L.
      let items = c.wired_to-member-items.result.now in
      adds-same (λ n. let has = c.wired_to-member-items.ensures.wired P L n in let each = each-in items n in (λ e. has.0 (each.0 e), λ w. each.1 (has.1 w)))
      (adds-whole gives items c.loop-member.member-index c.loop-member-test.false c.loop-member.invariant);
}
