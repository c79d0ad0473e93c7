-- Of the owners as they are then.
use Rattle.std.proofs.Common.{◌≡◌, IsTrue, List, ap, sym, subst, ◌∙◌}
use Rattle.std.specs.Prelude.{All}
use Rattle.osgi_base.specs.declared.ids.RevisionId.{RevisionId}
use Rattle.osgi_world.specs.Lookups.{is_current}
use Rattle.osgi_world.specs.declared.world.World.{World}
use Rattle.osgi_resolver_decisions.specs.computed.Asks.{asks_of, decisions_in}
use Rattle.osgi_resolver_decisions.specs.computed.Known.{IsProblemIn}
use Rattle.osgi_resolver_path.proofs.moves.asks_with.Goals as goal

pub returns-clause-asks : goal.returns-clause-asks
returns-clause-asks c P D in_it rows =
    let host = c.args.host in
    let is_problem : IsProblemIn c.learn_all.new.lists.offers P = record { world = in_it.world ∙ sym c.in_ok-learn_all.ensures.nothing_lost.offers; is = in_it.is } in
    let says : List RevisionId → Type 0 = λ owners. All (λ (o : RevisionId). IsTrue (is_current P.world.known o)) owners → decisions_in c.in_ok-asks.asks.items ≡ asks_of P host owners in
    let there = subst says (c.in_ok-owners.ensures.owners P D (subst (λ (W : World). IsProblemIn W P) (sym c.offers.ensures.world) in_it) rows) (subst says c.as_slice-2.ensures.value (c.in_ok-asks.ensures.asks P is_problem)) in
    λ current. ap decisions_in c.in_ok-of.ensures.list ∙ there current
