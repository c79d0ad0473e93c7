-- What the search found.
use Rattle.std.proofs.Common.{◌↔◌, List, IsTrue, sym, subst}
use Rattle.std.specs.Prelude.{Bool, is_ok}
use Rattle.std.specs.List.Sorted.{IsSorted}
use Rattle.osgi_space_rules.specs.computed.Growing.{HasEqual}
use Rattle.osgi_space_rules.proofs.Found.{searched}
use Rattle.osgi_space_rules.proofs.sorted.Sorted.has.Goals as goal

pub returns : goal.returns
returns g c =
    let cmp = g.T.Ord.cmp in
    let item = c.args.item.now in
    let items = c.self.inside.items.items in
    let sorted = subst (λ (xs : List g.row.T.Denot). IsSorted cmp xs) (sym c.deref.ensures.value) c.self.invariant in
    let found = searched g.met.T.Ord.total c.deref.result.now sorted item c.binary_search.result c.binary_search.ensures.bound c.binary_search.ensures.position in
    let here = subst (λ (xs : List g.row.T.Denot). IsTrue (is_ok c.binary_search.result) ↔ HasEqual cmp xs item) c.deref.ensures.value found in
    rw (← c.self.view_is) (record { has = subst (λ (b : Bool). IsTrue b ↔ HasEqual cmp items item) (sym c.is_ok.ensures.value) here })
