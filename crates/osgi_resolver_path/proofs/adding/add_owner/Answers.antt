-- One requirement more, and all of them.
use Rattle.std.proofs.Common.{◌≡◌, ◌++◌, ◌∙◌, ◌<◌, ap, sym, append_assoc, arith, flat_map, map, ℕ}
use Rattle.osgi_world.specs.Lists.{below}
use Rattle.osgi_world.specs.Lookups.{requirement_count}
use Rattle.osgi_world.specs.Partial.{wires_for}
use Rattle.osgi_world.specs.declared.wiring.ReqRef.{ReqRef}
use Rattle.osgi_world.specs.declared.world.World.{World}
use Rattle.osgi_resolver_theory.proofs.States.{in-payload}
use Rattle.osgi_resolver_path.specs.computed.Views.{decided_in}
use Rattle.osgi_resolver_path.proofs.Payloads.{below-more}
use Rattle.osgi_resolver_path.proofs.adding.add_owner.Goals as goal

pub loop-index-preserved : goal.loop-index-preserved
loop-index-preserved c P course seen i o =
    let n = c.loop-index.index in
    let owner = c.args.owner in
    let h = c.args.host in
    let D = decided_in course in
    let w = ap (λ (W : World). requirement_count W.known owner) seen.ready.in_it.world in
    let known = ap (λ (W : World). W.known) c.offers.ensures.world in
    let all : c.requirement_count-index-end.result ≡ requirement_count P.world.known owner = cc in
    let within : n < requirement_count P.world.known owner = omega arith in
    let q : ReqRef = record { owner = owner; index = n } in
    c.in_ok-add_requirement.ensures.added P course seen i (in-payload P D h q o within)
    ∙ ap (λ l. l ++ wires_for P D h q) (c.loop-index.invariant P course seen i o)
    ∙ append_assoc c.args.wires.now _ (wires_for P D h q)
    ∙ ap (λ l. c.args.wires.now ++ l) (sym (below-more P D h owner n))

pub returns : goal.returns
returns c = record {
  added = λ P course seen i o.
      let owner = c.args.owner in
      let w = ap (λ (W : World). requirement_count W.known owner) seen.ready.in_it.world in
      let known = ap (λ (W : World). W.known) c.offers.ensures.world in
      let all : c.requirement_count-index-end.result ≡ requirement_count P.world.known owner = cc in
      let end : c.loop-index.index ≡ requirement_count P.world.known owner = omega arith in
      c.loop-index.invariant P course seen i o
      ∙ ap (λ (k : ℕ). c.args.wires.now ++ flat_map (wires_for P (decided_in course) c.args.host) (map (λ (i : ℕ). let q : ReqRef = record { owner = owner; index = i } in q) (below k))) end;
}
