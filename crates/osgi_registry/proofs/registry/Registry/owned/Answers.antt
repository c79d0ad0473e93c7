-- They are the services of the rows that the owner has.
use Rattle.std.proofs.Common.{◌≡◌, ap, subst, ◌∙◌, map}
use Rattle.std.specs.Prelude.{filter, IfOk}
use Rattle.osgi_registry.proofs.Owned.{owned_services}
use Rattle.osgi_registry.specs.computed.Concerns.{live_among}
use Rattle.osgi_registry.specs.laws.Changing.{rows_rise}
use Rattle.osgi_registry.specs.Rows.{is_owned, services_in}
use Rattle.osgi_registry.proofs.registry.Registry.owned.Goals as goal

pub returns : goal.returns
returns c =
    let rows = c.args.self.now.rows in
    let are : live_among rows c.items-2.result.now ≡ services_in (filter (is_owned c.args.owner) rows)
    = ap (live_among rows) (c.items-2.ensures.items ∙ c.in_ok-ids.ensures.owned) ∙ owned_services c.args.owner rows (rows_rise c.args.self.now c.concerned.ensures.in_order) in
    record { services = subst (λ all. IfOk c.services_of.result (λ owned. map (λ s. s.now) owned.items ≡ all)) are c.services_of.ensures.services }
