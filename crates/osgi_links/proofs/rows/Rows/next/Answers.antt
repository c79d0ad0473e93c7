-- What stands behind an item's node is the item after it in the row.
use Rattle.std.proofs.Common.{◌∙◌, arith}
use Rattle.osgi_links.proofs.Taken.{found_next}
use Rattle.osgi_links.proofs.Sound.{next_in, item_fits}
use Rattle.osgi_links.proofs.rows.Rows.next.Goals as goal

pub overflow_add-item : goal.overflow_add-item
overflow_add-item c =
    let i = c.self.inside in record { fits = omega (arith, (item_fits i.block.nodes.links i.items i.depth i.top c.self.invariant c.args.self.now c.self.view_is c.args.row c.args.item c.requires.item).1, c.self.invariant.small) }

pub overflow_add-item-2 : goal.overflow_add-item-2
overflow_add-item-2 c =
    let i = c.self.inside in record { fits = omega (arith, (item_fits i.block.nodes.links i.items i.depth i.top c.self.invariant c.args.self.now c.self.view_is c.args.row c.args.item c.requires.item).1, c.self.invariant.small) }

pub next_item-requires-clause-row : goal.next_item-requires-clause-row
next_item-requires-clause-row c =
    let i = c.self.inside in (item_fits i.block.nodes.links i.items i.depth i.top c.self.invariant c.args.self.now c.self.view_is c.args.row c.args.item c.requires.item).0

pub next_item-requires-clause-node : goal.next_item-requires-clause-node
next_item-requires-clause-node c =
    let i = c.self.inside in (item_fits i.block.nodes.links i.items i.depth i.top c.self.invariant c.args.self.now c.self.view_is c.args.row c.args.item c.requires.item).1

pub next_item-requires-clause-behind : goal.next_item-requires-clause-behind
next_item-requires-clause-behind c =
    let i = c.self.inside in omega (arith, (item_fits i.block.nodes.links i.items i.depth i.top c.self.invariant c.args.self.now c.self.view_is c.args.row c.args.item c.requires.item).2)

pub returns-clause-next : goal.returns-clause-next
returns-clause-next c =
    let i = c.self.inside in c.next_item.ensures.item ∙ next_in i.block.nodes.links i.items i.depth i.top c.self.invariant c.args.self.now c.self.view_is c.args.row c.args.item c.requires.item

pub returns-clause-item : goal.returns-clause-item
returns-clause-item c =
    let i = c.self.inside in
    found_next i.block.nodes.links i.items i.depth i.top c.self.invariant c.args.self.now c.self.view_is c.args.row c.args.item c.next_item.result (returns-clause-next c)
