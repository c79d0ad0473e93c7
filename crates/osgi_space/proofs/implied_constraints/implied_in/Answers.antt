-- The set has the implied constraints by their names, and the list has what the set has.
use Rattle.std.proofs.Common.{◌≡◌, ◌↔◌, ◌<◌, ℕ, List, length, get_or, sym, ◌∙◌, subst, All, Any, Contains}
use Rattle.std.proofs.lemmas.List.{get_or_default}
use Rattle.std.proofs.lemmas.Map.Views.{btree_set_contains_iff}
use Rattle.osgi_space_rows.specs.Rows.{RowLists}
use Rattle.osgi_space_sources.specs.computed.Pairs.{IsImplied}
use Rattle.osgi_space_sources.specs.declared.given.Given.{Given}
use Rattle.osgi_space.specs.computed.NamedPairs.{named_pair}
use Rattle.osgi_space.specs.declared.implied_constraints.Implied.{Implied}
use Rattle.osgi_space.proofs.Firsts.{implied-number}
use Rattle.osgi_space.proofs.Ids.{contains-in, in-contains}
use Rattle.osgi_space.proofs.ImpliedNames.{equal_implied, implied_total, named-implied}
use Rattle.osgi_space.proofs.implied_constraints.implied_in.Goals as goal

pub named_pairs-requires : goal.named_pairs-requires
named_pairs-requires c =
    let world = c.args.rows.now in
    let pairs = c.in_ok-found.found in
    let P : Given → Type 0 = λ g. g.package < length world.names in
    let all : All P pairs = λ k d lt.
    let g = get_or pairs k d in
    implied-number world.rows world.names c.rows.ensures.numbered
    (subst (λ (R : RowLists). IsImplied R (λ x. Unit {0}) c.args.revision.0 g) c.rows.ensures.rows ((c.in_ok-found.ensures.implied g).0 (k, lt, get_or_default pairs k g d lt))) in
    record {
      named = subst (λ (xs : List Given). All (λ (g : Given). g.package < length c.names.result.now) xs) (sym c.items.ensures.items)
          (subst (λ (names : List (List ℕ)). All (λ (g : Given). g.package < length names) pairs) (sym c.names.ensures.names) all);
    }

pub returns-clause-implied : goal.returns-clause-implied
returns-clause-implied c = λ W is v.
    let world = c.args.rows.now in
    let pairs = c.in_ok-found.found in
    let set = c.in_ok-pairs.pairs in
    let are : (g : Given) → Contains pairs g ↔ IsImplied world.rows (λ x. Unit {0}) c.args.revision.0 g =
    subst (λ (R : RowLists). (g : Given) → Contains pairs g ↔ IsImplied R (λ x. Unit {0}) c.args.revision.0 g) c.rows.ensures.rows c.in_ok-found.ensures.implied in
    let list : c.from.result ≡ set.keys = c.from.ensures ∙ c.in_ok-in_order.ensures.same in
    let put = subst (λ (names : List (List ℕ)). Any (λ (g : Given). named_pair names g ≡ v) pairs) c.names.ensures.names in
    let back = subst (λ (names : List (List ℕ)). Any (λ (g : Given). named_pair names g ≡ v) pairs) (sym c.names.ensures.names) in
    let slice : List Given → Type 0 = λ xs. Any (λ (g : Given). named_pair c.names.result.now g ≡ v) xs in
    let keys = btree_set_contains_iff implied_total equal_implied set v in
    let named = named-implied world.known W world.names world.rows is c.args.revision pairs are v in (
      λ i. named.0 (put (subst slice c.items.ensures.items ((c.in_ok-pairs.ensures.pairs v).0 (keys.1 (subst (λ (xs : List Implied). Contains xs v) list (in-contains c.from.result v i)))))),
      λ implied. contains-in c.from.result v (subst (λ (xs : List Implied). Contains xs v) (sym list) (keys.0 ((c.in_ok-pairs.ensures.pairs v).1 (subst slice (sym c.items.ensures.items) (back (named.1 implied)))))),
    )
