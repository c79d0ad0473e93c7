-- The pairs are the implied constraints, of packages with numbers.
use Rattle.std.proofs.Common.{◌↔◌, ◌<◌, ℕ, List, length, get_or, sym, subst, All, Contains, IsTrue}
use Rattle.std.proofs.lemmas.List.{get_or_default}
use Rattle.std.specs.BTreeSet.{contains}
use Rattle.std.specs.Ordering.{nat_cmp}
use Rattle.osgi_space_rows.specs.Rows.{RowLists}
use Rattle.osgi_space_sources.specs.computed.Pairs.{IsImplied}
use Rattle.osgi_space_sources.specs.declared.given.Given.{Given}
use Rattle.osgi_space.specs.computed.Firsts.{IsFirstClash}
use Rattle.osgi_space.proofs.Firsts.{first-implied, implied-number}
use Rattle.osgi_space.proofs.first.first_of.Goals as goal

pub first_clash-requires : goal.first_clash-requires
first_clash-requires c =
    let world = c.args.rows.now in
    let pairs = c.in_ok-found.found in
    let P : Given → Type 0 = λ g. g.package < length world.names in
    let all : All P pairs = λ k d lt.
    let g = get_or pairs k d in
    implied-number world.rows world.names c.rows.ensures.numbered
    (subst (λ (R : RowLists). IsImplied R (λ r. IsTrue (contains nat_cmp c.args.listed.now r)) c.args.revision g) c.rows.ensures.rows ((c.in_ok-found.ensures.implied g).0 (k, lt, get_or_default pairs k g d lt))) in
    record { named = subst (All P) (sym c.items.ensures.items) all }

pub returns : goal.returns
returns c =
    let world = c.args.rows.now in
    let A : ℕ → Type 0 = λ r. IsTrue (contains nat_cmp c.args.listed.now r) in
    let pairs = c.in_ok-found.found in
    let is : (g : Given) → Contains pairs g ↔ IsImplied world.rows A c.args.revision g =
    subst (λ (R : RowLists). (g : Given) → Contains pairs g ↔ IsImplied R A c.args.revision g) c.rows.ensures.rows c.in_ok-found.ensures.implied in
    record {
      first = first-implied world.rows world.names c.rows.ensures.numbered A c.args.revision pairs is c.in_ok-first_clash.field-0
          (subst (λ (xs : List Given). IsFirstClash world.rows world.names c.args.revision xs c.in_ok-first_clash.field-0) c.items.ensures.items c.in_ok-first_clash.ensures.first);
    }
