-- What stands behind the node before a row is the row's first item that is not out.
use Rattle.std.proofs.Common.{◌≡◌, ℕ, ◌+◌, ◌<◌, length, sym, ap, ◌∙◌, subst, arith}
use Rattle.osgi_links.specs.computed.Chain.{next_at, value_at}
use Rattle.osgi_links.specs.computed.Seen.{item_behind}
use Rattle.osgi_links.proofs.Taken.{found_first}
use Rattle.osgi_links.proofs.Sound.{first_in, head_fits, row_there}
use Rattle.osgi_links.proofs.rows.Rows.first.Goals as goal

pub overflow_add-self-inside : goal.overflow_add-self-inside
overflow_add-self-inside c =
    let i = c.self.inside in record { fits = omega (arith, row_there i.block.nodes.links i.items i.depth i.top c.self.invariant c.args.self.now c.self.view_is c.args.row c.requires.row, c.self.invariant.small) }

pub look-bound-requires-clause-inside : goal.look-bound-requires-clause-inside
look-bound-requires-clause-inside c =
    let i = c.self.inside in omega (arith, row_there i.block.nodes.links i.items i.depth i.top c.self.invariant c.args.self.now c.self.view_is c.args.row c.requires.row)

pub next_item-requires-clause-row : goal.next_item-requires-clause-row
next_item-requires-clause-row c =
    let i = c.self.inside in row_there i.block.nodes.links i.items i.depth i.top c.self.invariant c.args.self.now c.self.view_is c.args.row c.requires.row

pub next_item-requires-clause-node : goal.next_item-requires-clause-node
next_item-requires-clause-node c =
    let i = c.self.inside in let links = i.block.nodes.links in
    let r = row_there links i.items i.depth i.top c.self.invariant c.args.self.now c.self.view_is c.args.row c.requires.row in
    let is : value_at links (i.items + c.args.row) ≡ c.look-bound.result.value = ap (λ l. l.value) (sym c.look-bound.ensures.shown) in
    let P : ℕ → Type 0 = λ b. b + c.args.row < length links in
    subst P is (head_fits links i.items i.depth i.top c.self.invariant c.args.self.now c.self.view_is c.args.row r).0

pub next_item-requires-clause-behind : goal.next_item-requires-clause-behind
next_item-requires-clause-behind c =
    let i = c.self.inside in let links = i.block.nodes.links in
    let r = row_there links i.items i.depth i.top c.self.invariant c.args.self.now c.self.view_is c.args.row c.requires.row in
    let is : value_at links (i.items + c.args.row) ≡ c.look-bound.result.value = ap (λ l. l.value) (sym c.look-bound.ensures.shown) in
    let h = (head_fits links i.items i.depth i.top c.self.invariant c.args.self.now c.self.view_is c.args.row r).1 in
    let P : ℕ → Type 0 = λ b. c.args.row < next_at links (b + c.args.row) in
    subst P is (omega (arith, h))

pub returns-clause-first : goal.returns-clause-first
returns-clause-first c =
    let i = c.self.inside in let links = i.block.nodes.links in
    let is : c.look-bound.result.value ≡ value_at links (i.items + c.args.row) = ap (λ l. l.value) c.look-bound.ensures.shown in
    c.next_item.ensures.item ∙ ap (λ b. item_behind links i.items c.args.row (b + c.args.row)) is
    ∙ first_in links i.items i.depth i.top c.self.invariant c.args.self.now c.self.view_is c.args.row c.requires.row

pub returns-clause-item : goal.returns-clause-item
returns-clause-item c =
    let i = c.self.inside in
    found_first i.block.nodes.links i.items i.depth i.top c.self.invariant c.args.self.now c.self.view_is c.args.row c.next_item.result (returns-clause-first c)
