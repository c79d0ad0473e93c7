-- The numbers rise and are those of the sources, and so are the revisions'.
use Rattle.std.proofs.Common.{◌≡◌, ◌↔◌, ℕ, List, Any, Contains, sym, ◌∙◌, ap, subst, map}
use Rattle.std.specs.List.Sorted.{IsStrictlyIncreasing}
use Rattle.osgi_base.specs.declared.ids.RevisionId.{RevisionId}
use Rattle.osgi_space_rows.specs.Agree.{id}
use Rattle.osgi_world.specs.Lists.{In}
use Rattle.osgi_space_sources.specs.declared.given.Given.{Given}
use Rattle.osgi_space_sources.specs.laws.Adding.{any-in, any-of}
use Rattle.osgi_space_sources.specs.laws.Members.{contains-map, map-contains}
use Rattle.osgi_space.proofs.Ids.{ids-contain, numbers-of}
use Rattle.osgi_space.proofs.naming.source_ids.Goals as goal

pub returns-clause-rising : goal.returns-clause-rising
returns-clause-rising c =
    let numbers = c.rising-numbers.result.items in
    let is : c.in_ok-as_ids.field-0 ≡ map id numbers = c.in_ok-as_ids.ensures.ids ∙ ap (map id) c.as_slice.ensures.value in
    let P : List ℕ → Type 0 = λ xs. IsStrictlyIncreasing xs in
    let Q : List RevisionId → Type 0 = λ ids. IsStrictlyIncreasing (map (λ (r : RevisionId). r.0) ids) in
    subst Q (sym is) (subst P (sym (numbers-of numbers)) c.rising-numbers.ensures.rising)

sourced : (givens : List Given) (n : ℕ) → Contains (map (λ (g : Given). g.source) givens) n ↔ Any (λ (g : Given). g.source ≡ n) givens
sourced givens n = (
  λ at. let m = map-contains (λ (g : Given). g.source) givens n at in any-of (λ (g : Given). g.source ≡ n) givens m.0 m.1 m.2,
  λ any. subst (Contains (map (λ (g : Given). g.source) givens)) any.4 (contains-map (λ (g : Given). g.source) givens any.1 (any-in (λ (g : Given). g.source ≡ n) givens any)),
)

pub returns-clause-same : goal.returns-clause-same
returns-clause-same c =
    let numbers = c.rising-numbers.result.items in
    let is : c.in_ok-as_ids.field-0 ≡ map id numbers = c.in_ok-as_ids.ensures.ids ∙ ap (map id) c.as_slice.ensures.value in
    λ x.
    let same = c.rising-numbers.ensures.same x.0 in
    let of = sourced c.args.givens.now x.0 in
    let P : List ℕ → Type 0 = λ xs. Contains xs x.0 in
    let there : In x (map id numbers) ↔ Any (λ (g : Given). g.source ≡ x.0) c.args.givens.now = (
      λ i. of.0 (subst P c.in_ok-sources.ensures.sources (same.0 ((ids-contain numbers x).0 i))),
      λ any. (ids-contain numbers x).1 (same.1 (subst P (sym c.in_ok-sources.ensures.sources) (of.1 any))),
    ) in
    subst (λ ids. In x ids ↔ Any (λ (g : Given). g.source ≡ x.0) c.args.givens.now) (sym is) there
