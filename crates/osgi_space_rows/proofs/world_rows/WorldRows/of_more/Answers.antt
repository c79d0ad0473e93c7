-- What the revisions say that are not among the first is added.
use Rattle.std.proofs.Common.{◌-◌, List, length, take, drop, sym, subst}
use Rattle.std.proofs.lemmas.List.{take_rest}
use Rattle.osgi_world.specs.declared.world.Known.{Known}
use Rattle.osgi_space_rows.specs.Worlds.{AddsKnown}
use Rattle.osgi_space_rows.specs.computed.Payloads.{Adds, KnownSays, OneSays}
use Rattle.osgi_space_rows.proofs.MoreKnown.{more-known}
use Rattle.osgi_space_rows.proofs.world_rows.WorldRows.of_more.Goals as goal

pub returns-clause-added : goal.returns-clause-added
returns-clause-added c = λ W all_known are.
    let K = c.args.known.now in
    let first = c.args.first in
    let old = c.args.named in
    let n = c.add_known.new.self in
    let more = take (length K - first) (drop first K) in
    let is = c.in_ok-index.ensures.known in
    let adds = subst (λ (S : List Known). Adds old n (OneSays (KnownSays S) more)) is c.in_ok-add_known.ensures.adds in
    subst (λ (S : List Known). AddsKnown (take first K) W old (record { known = S; names = n.names; rows = n.rows })) (sym is)
    (more-known K more first W old n c.requires.named all_known are (take_rest K first) adds)
