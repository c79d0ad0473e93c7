-- One requirement more.
use Rattle.std.proofs.Common.{◌≡◌, ◌<◌, ◌∷◌, [], ◌++◌, ◌∙◌, ap, sym, append_assoc, arith}
use Rattle.osgi_world.specs.Lookups.{requirement_count}
use Rattle.osgi_world.specs.declared.wiring.ReqRef.{ReqRef}
use Rattle.osgi_world.specs.declared.world.World.{World}
use Rattle.osgi_resolver_decisions.specs.computed.Asks.{asks_among, decisions_in}
use Rattle.osgi_resolver_decisions.proofs.Asking.{among-more}
use Rattle.osgi_resolver_decisions.proofs.asks.add_owner.Goals as goal

pub loop-index-preserved : goal.loop-index-preserved
loop-index-preserved c P in_it current =
    let n = c.loop-index.index in
    let owner = c.args.owner in
    let old = decisions_in c.args.asks.now.items in
    let w = ap (λ (W : World). requirement_count W.known owner) in_it.world in
    let all : c.requirement_count-index-end.result ≡ requirement_count P.world.known owner = cc in
    let within : n < requirement_count P.world.known owner = omega arith in
    let q : ReqRef = record { owner = owner; index = n } in
    let more = asks_among P c.args.host c.args.kind (q ∷ []) in
    c.in_ok-add_of_kind.ensures.added P in_it current within
    ∙ ap (λ l. l ++ more) (c.loop-index.invariant P in_it current)
    ∙ append_assoc old _ more
    ∙ ap (λ l. old ++ l) (sym (among-more P c.args.host c.args.kind owner n))
