-- The nodes are sound at the start, and are seen as rows with no item out.
use Rattle.std.proofs.Common.{ℕ, ◌++◌, [], length, sym, ap, ◌∙◌, subst, arith}
use Rattle.osgi_links.specs.Held.{contents}
use Rattle.osgi_links.specs.computed.Straight.{bounds_from}
use Rattle.osgi_links.specs.computed.Seen.{IsSound_at, seen_of}
use Rattle.osgi_links.proofs.Items.{length-contents, length-item_numbers}
use Rattle.osgi_links.proofs.Steps.{seen_new, sound_new}
use Rattle.osgi_links.proofs.rows.Rows.new.Goals as goal

pub invariant_of-result : goal.invariant_of-result
invariant_of-result c =
    let lists = contents c.args.lists.now in let links = c.push_bounds.new.nodes.links in
    let values = c.push_bounds.ensures.values ∙ ap (λ vs. vs ++ bounds_from 0 lists) c.push_values-first.ensures.values in
    let P : ℕ → Type 0 = λ n. IsSound_at links n [] in
    subst P (sym c.in-Some.ensures.items) (sound_new links lists values c.push_bounds.ensures.whole
    (omega (arith, c.push_bounds.ensures.count, c.push_values-first.ensures.count.0, c.in-Some.ensures.items, c.in-Some.ensures.nodes, c.in-Some.ensures.fits)))

pub returns-clause-rows : goal.returns-clause-rows
returns-clause-rows c =
    let lists = contents c.args.lists.now in let links = c.push_bounds.new.nodes.links in
    let values = c.push_bounds.ensures.values ∙ ap (λ vs. vs ++ bounds_from 0 lists) c.push_values-first.ensures.values in
    ap (λ n. seen_of links n 0 0) c.in-Some.ensures.items ∙ seen_new links lists values c.push_bounds.ensures.whole

pub returns-clause-count : goal.returns-clause-count
returns-clause-count c = ap (λ t. length t.rows) (returns-clause-rows c) ∙ length-item_numbers 0 (contents c.args.lists.now) ∙ length-contents c.args.lists.now
