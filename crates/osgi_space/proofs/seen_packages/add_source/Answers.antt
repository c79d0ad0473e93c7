-- One source more under the name of its package.
use Rattle.std.proofs.Common.{◌≡◌, ℕ, List, cond, sym, rules}
use Rattle.std.specs.Prelude.{Some}
use Rattle.std.specs.BTreeMap.{get}
use Rattle.std.specs.Ordering.{eq_by_cmp}
use Rattle.osgi_base.specs.computed.Texts.{text_cmp}
use Rattle.osgi_space.proofs.SeenPackages.{adds-source, fills, has-none, has-some}
use Rattle.osgi_space.proofs.seen_packages.add_source.Goals as goal

pub returns-in-Some : goal.returns-in-Some
returns-in-Some c =
    let old = c.args.space.now in
    let set = c.insert.new.self in
    let new = c.get_mut.follows.lender set in
    let name = c.args.package.now in
    let source = c.args.source in
    let has = has-some old new name source set c.in-Some.sources.now (sym c.in-Some.ensures.value) c.in_ok-insert.ensures.updates in
    let puts = ((c.get_mut.follows.holds set).3 (search rules)).0 in
    record {
      filled = fills old new name source set has puts c.requires.filled;
      added = adds-source old new name source set has puts;
    }

pub returns : goal.returns
returns c =
    let old = c.args.space.now in
    let set = c.insert-2.new.self in
    let new = c.insert-3.new.self in
    let name = c.args.package.now in
    let source = c.args.source in
    let has = has-none old new name source set (sym c.in_default.ensures.value) c.new-sources.result c.new-sources.ensures.empty c.in_ok-insert-2.ensures.updates in
    let puts : (q : List ℕ) → get text_cmp new q ≡ cond (eq_by_cmp text_cmp name q) (Some set) (get text_cmp old q)
    = λ q. rw (← c.in_ok-copy.ensures.same, ← c.get_mut.follows.holds-at-none) (c.in_ok-insert-3.ensures.updates.0 q) in
    record {
      filled = fills old new name source set has puts c.requires.filled;
      added = adds-source old new name source set has puts;
    }
