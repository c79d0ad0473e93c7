-- The nodes stay sound, and are seen with the stack's top gone.
use Rattle.std.proofs.Common.{◌≡◌, ℕ, ◌+◌, ◌-◌, ◌<◌, List, [], ◌∷◌, true, not, get_or, drop, length, sym, ap, ◌∙◌, subst, arith}
use Rattle.osgi_links.specs.declared.nodes.Shown.{Shown}
use Rattle.osgi_links.specs.Held.{Held, has, linked, without}
use Rattle.osgi_links.specs.computed.Chain.{Link, shown_at, row_at, with_linked, under_at}
use Rattle.osgi_links.specs.computed.Seen.{IsSound_at, seen_of, stack}
use Rattle.std.specs.Prelude.{filter, slice_index_or}
use Rattle.std.proofs.lemmas.List.{drop_more}
use Rattle.osgi_links.proofs.Taken.{linked_taken}
use Rattle.osgi_links.proofs.Steps.{back_fits, seen_back, some_out, sound_back}
use Rattle.osgi_links.proofs.rows.Rows.relink.Goals as goal

module _ (links : List Link) (items depth top : ℕ) (held : Held) (is : seen_of links items depth top ≡ held) (some : 0 < length held.removed)
    (sound : IsSound_at links items (stack links depth top)) where
  deep : depth ≡ depth - 1 + 1
  deep = some_out links items depth top held is some

  at_depth : IsSound_at links items (stack links (depth - 1 + 1) top)
  at_depth = let P : ℕ → Type 0 = λ d. IsSound_at links items (stack links d top) in subst P deep sound

  top_inside : top < length links
  top_inside = omega (arith, (back_fits links items (depth - 1) top at_depth).0)

  module _ (new : List Link) (link : Shown) (looked : link ≡ shown_at links top) (changes : new ≡ with_linked links top true link.under link.row) where
    new_is : new ≡ with_linked links top true (under_at links top) (row_at links top)
    new_is = changes ∙ ap (λ u. with_linked links top true u link.row) (ap (λ l. l.under) looked) ∙ ap (λ r. with_linked links top true (under_at links top) r) (ap (λ l. l.row) looked)

    sound_then : IsSound_at new items (stack new (depth - 1) link.under)
    sound_then =
        let P : List Link → Type 0 = λ ls. IsSound_at ls items (stack ls (depth - 1) link.under) in
        let Q : ℕ → Type 0 = λ u. IsSound_at (with_linked links top true (under_at links top) (row_at links top)) items (stack (with_linked links top true (under_at links top) (row_at links top)) (depth - 1) u) in
        subst P (sym new_is) (subst Q (sym (ap (λ l. l.under) looked)) (sound_back links items (depth - 1) top at_depth))

    seen_then : seen_of new items (depth - 1) link.under ≡ record held { removed = drop 1 held.removed }
    seen_then =
        let without : Held → Held = λ t. record t { removed = drop 1 t.removed } in
        ap (λ ls. seen_of ls items (depth - 1) link.under) new_is
        ∙ ap (λ u. seen_of (with_linked links top true (under_at links top) (row_at links top)) items (depth - 1) u) (ap (λ l. l.under) looked)
        ∙ seen_back links items (depth - 1) top at_depth
        ∙ sym (ap (λ d. without (seen_of links items d top)) deep)
        ∙ ap without is

pub look-under-requires-clause-inside : goal.look-under-requires-clause-inside
look-under-requires-clause-inside c =
    let i = c.self.inside in top_inside i.block.nodes.links i.items i.depth i.top c.args.self.now c.self.view_is c.requires.one_out c.self.invariant

pub set_linked-requires-clause-inside : goal.set_linked-requires-clause-inside
set_linked-requires-clause-inside c =
    let i = c.self.inside in top_inside i.block.nodes.links i.items i.depth i.top c.args.self.now c.self.view_is c.requires.one_out c.self.invariant

pub invariant_of-self : goal.invariant_of-self
invariant_of-self c =
    let i = c.self.inside in
    sound_then i.block.nodes.links i.items i.depth i.top c.args.self.now c.self.view_is c.requires.one_out c.self.invariant c.set_linked.new.self.links c.look-under.result c.look-under.ensures.shown c.set_linked.ensures.nodes.0

pub returns-clause-removed : goal.returns-clause-removed
returns-clause-removed c =
    let i = c.self.inside in
    seen_then i.block.nodes.links i.items i.depth i.top c.args.self.now c.self.view_is c.requires.one_out c.self.invariant c.set_linked.new.self.links c.look-under.result c.look-under.ensures.shown c.set_linked.ensures.nodes.0

pub returns-clause-undone : goal.returns-clause-undone
returns-clause-undone c r =
    let old = c.args.self.now in let row = slice_index_or old.rows r [] in
    let split : old.removed ≡ get_or old.removed 0 0 ∷ drop 1 old.removed = drop_more old.removed 0 0 c.requires.one_out in
    ap (λ out. filter (λ x. not (has out x)) row) split ∙ linked_taken (get_or old.removed 0 0) (drop 1 old.removed) row
    ∙ ap (λ t. without (get_or old.removed 0 0) (linked t r)) (sym (returns-clause-removed c))
