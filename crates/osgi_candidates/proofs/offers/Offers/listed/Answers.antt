-- The requirement is there, or there is none.
use Rattle.std.proofs.Common.{◌≡◌, List, ap, sym, ◌∙◌}
use Rattle.std.specs.Prelude.{Some}
use Rattle.osgi_candidates.specs.computed.Collecting.{Asks}
use Rattle.osgi_candidates.proofs.Collected.{listed_are}
use Rattle.osgi_candidates.proofs.Proposed.{has_requirement, no_candidates}
use Rattle.osgi_world.specs.Lookups.{requirement_at}
use Rattle.osgi_world.specs.declared.world.Known.{Known}
use Rattle.osgi_world.specs.declared.world.World.{World}
use Rattle.osgi_candidates.proofs.offers.Offers.listed.Goals as goal

pub returns-in_ok-in_order-in-Some : goal.returns-in_ok-in_order-in-Some
returns-in_ok-in_order-in-Some c =
    let known : c.self.inside.known ≡ c.args.self.now.known = c.self.invariant.0 ∙ ap (λ (w : World). w.known) c.self.view_is in
    let n = c.in-Some.requirement.now in
    let is : requirement_at c.args.self.now.known c.args.at ≡ Some n = ap (λ (K : List Known). requirement_at K c.args.at) (sym known) ∙ sym c.in-Some.ensures.requirement in
    record {
      exact = λ fit has.
          let asks : Asks c.args.self.now c.args.at n = record { requirement = is; plain = has_requirement c.args.self.now.known c.args.at has } in
          listed_are c.args.self.now c.args.at fit c.in_ok-found-in-Some.found c.in_ok-in_order-in-Some.field-0.items c.in_ok-in_order-in-Some.ensures.capabilities c.in_ok-in_order-in-Some.ensures.ordered (c.in_ok-found-in-Some.ensures.collected fit asks);
    }

pub returns-in-None : goal.returns-in-None
returns-in-None c =
    let known : c.self.inside.known ≡ c.args.self.now.known = c.self.invariant.0 ∙ ap (λ (w : World). w.known) c.self.view_is in
    record {
      exact = λ fit has. absurd (no_candidates c.args.self.now.known c.args.at (ap (λ (K : List Known). requirement_at K c.args.at) (sym known) ∙ sym c.in-None.ensures.requirement) has);
    }
