-- What is found is reached, and when nothing is left to look at, all that is reached is found.
use Rattle.std.proofs.Common.{◌≡◌, ◌<◌, ◌≤◌, ◌∙◌, ap, arith, get_or, length, nat_eq}
use Rattle.std.proofs.lemmas.List.{get_or_default}
use Rattle.indexmap.specs.IndexSet.{insert_all}
use Rattle.osgi_loader.proofs.Reached.{worklist-done, worklist-init, worklist-step}
use Rattle.osgi_loader.proofs.reach.reached.Goals as goal

pub loop-next-init : goal.loop-next-init
loop-next-init c =
    worklist-init c.args.wirings.now.world c.args.starts.now c.add_all.new.found.keys
    (c.in_ok-add_all.ensures.added ∙ ap (λ ks. insert_all nat_eq ks c.args.starts.now) c.new-found.ensures.empty)

pub loop-next-preserved : goal.loop-next-preserved
loop-next-preserved c =
    let bundles = c.as_slice-bundles.result.now in
    let keys = c.loop-next.found.keys in
    let next = c.loop-next.next in
    let same : length bundles ≡ length keys = ap length c.as_slice-bundles.ensures.keys in
    let within : next < length keys = omega arith in
    let from = get_or bundles next 0 in
    worklist-step c.args.wirings.now.world c.args.starts.now keys c.add_reexported.new.found.keys next from within (ap (λ l. get_or l next 0) c.as_slice-bundles.ensures.keys ∙ get_or_default keys next 0 from within)
    c.in_ok-add_reexported.ensures.added c.loop-next.invariant

pub returns-then-next-bundles : goal.returns-then-next-bundles
returns-then-next-bundles c =
    let same : length c.as_slice-bundles.result.now ≡ length c.loop-next.found.keys = ap length c.as_slice-bundles.ensures.keys in
    let past : length c.loop-next.found.keys ≤ c.loop-next.next = omega arith in
    record { reached = worklist-done c.args.wirings.now.world c.args.starts.now c.loop-next.found.keys c.loop-next.next past c.loop-next.invariant }
