-- The nodes stay sound, and are seen with the item on the stack.
use Rattle.std.proofs.Common.{◌+◌, List, [], ◌∷◌, sym, ap, ◌∙◌, subst, arith}
use Rattle.osgi_links.specs.Held.{Held, linked}
use Rattle.osgi_links.specs.computed.Chain.{Link}
use Rattle.osgi_links.specs.computed.Seen.{IsSound_at, seen_of, stack}
use Rattle.osgi_links.proofs.Sound.{item_fits, stands_in}
use Rattle.std.specs.Prelude.{slice_index_or}
use Rattle.osgi_links.proofs.Taken.{elsewhere, linked_taken, without_none}
use Rattle.osgi_links.proofs.Steps.{room_to_count, seen_taken, sound_taken}
use Rattle.osgi_links.proofs.rows.Rows.unlink.Goals as goal

pub overflow_add-node : goal.overflow_add-node
overflow_add-node c =
    let i = c.self.inside in record { fits = omega (arith, (item_fits i.block.nodes.links i.items i.depth i.top c.self.invariant c.args.self.now c.self.view_is c.args.row c.args.item c.requires.item).1, c.self.invariant.small) }

pub overflow_add-node-2 : goal.overflow_add-node-2
overflow_add-node-2 c =
    let i = c.self.inside in record { fits = omega (arith, (item_fits i.block.nodes.links i.items i.depth i.top c.self.invariant c.args.self.now c.self.view_is c.args.row c.args.item c.requires.item).1, c.self.invariant.small) }

pub set_linked-requires-clause-inside : goal.set_linked-requires-clause-inside
set_linked-requires-clause-inside c =
    let i = c.self.inside in (item_fits i.block.nodes.links i.items i.depth i.top c.self.invariant c.args.self.now c.self.view_is c.args.row c.args.item c.requires.item).1

pub overflow_add-self : goal.overflow_add-self
overflow_add-self c =
    let i = c.self.inside in let links = i.block.nodes.links in
    let s = stands_in links i.items i.depth i.top c.self.invariant c.args.self.now c.self.view_is c.args.row c.args.item c.requires.item in
    record { fits = room_to_count links i.items i.depth i.top c.self.invariant c.args.row c.args.item s }

pub invariant_of-self : goal.invariant_of-self
invariant_of-self c =
    let i = c.self.inside in let links = i.block.nodes.links in
    let s = stands_in links i.items i.depth i.top c.self.invariant c.args.self.now c.self.view_is c.args.row c.args.item c.requires.item in
    let P : List Link → Type 0 = λ ls. IsSound_at ls i.items (stack ls (i.depth + 1) (c.args.item + c.args.row + 1)) in
    subst P (sym c.set_linked.ensures.nodes.0) (sound_taken links i.items i.depth i.top c.self.invariant c.args.row c.args.item s)

pub returns-clause-removed : goal.returns-clause-removed
returns-clause-removed c =
    let i = c.self.inside in let links = i.block.nodes.links in
    let s = stands_in links i.items i.depth i.top c.self.invariant c.args.self.now c.self.view_is c.args.row c.args.item c.requires.item in
    let with_it : Held → Held = λ t. record t { removed = c.args.item ∷ t.removed } in
    ap (λ ls. seen_of ls i.items (i.depth + 1) (c.args.item + c.args.row + 1)) c.set_linked.ensures.nodes.0
    ∙ seen_taken links i.items i.depth i.top c.self.invariant c.args.row c.args.item s
    ∙ ap with_it c.self.view_is

pub returns-clause-out : goal.returns-clause-out
returns-clause-out c =
    let old = c.args.self.now in
    ap (λ t. linked t c.args.row) (returns-clause-removed c) ∙ linked_taken c.args.item old.removed (slice_index_or old.rows c.args.row [])

pub returns-clause-others : goal.returns-clause-others
returns-clause-others c r other =
    let i = c.self.inside in let links = i.block.nodes.links in let old = c.args.self.now in
    ap (λ t. linked t r) (returns-clause-removed c) ∙ linked_taken c.args.item old.removed (slice_index_or old.rows r [])
    ∙ without_none c.args.item (linked old r) (elsewhere links i.items i.depth i.top c.self.invariant old c.self.view_is c.args.row c.args.item r c.requires.item other)
