-- The owner of the row that stands under the service's id.
use Rattle.std.proofs.Common.{◌≡◌, ap, sym, refl, ◌∙◌}
use Rattle.std.specs.Prelude.{None, Some, All, ◌==◌, true}
use Rattle.osgi_registry.proofs.Covered.{found_none}
use Rattle.osgi_registry.proofs.Entries.{row_absent, row_present}
use Rattle.osgi_registry.proofs.Keys.{found_by}
use Rattle.osgi_registry.proofs.Placed.{only_one}
use Rattle.osgi_registry.specs.Rows.{is_owned, is_service, row_at}
use Rattle.osgi_registry.proofs.registry.Registry.is_owned.Goals as goal

pub returns-in-Some-clause-owned : goal.returns-in-Some-clause-owned
returns-in-Some-clause-owned c =
    let some : row_at c.args.service c.args.self.now.rows ≡ Some c.in-Some.held.now = row_present _ c.args.service _ _ _ (ap (λ r. r.rows) c.self.view_is) c.self.invariant.rows.under (found_by c.args.service.0 _ _ c.in-Some.ensures.value) in
    rw some (ap (λ s. s.owner.0 == c.args.bundle.0) c.service.ensures.service)

pub returns-in-Some-clause-each : goal.returns-in-Some-clause-each
returns-in-Some-clause-each c =
    let only : All (λ r. is_service c.args.service r ≡ true → r ≡ c.in-Some.held.now) c.args.self.now.rows
    = rw (← c.self.view_is) (only_one c.self.inside.issued c.args.service c.in-Some.held.now c.self.inside.services.entries c.self.invariant.rows.under c.self.invariant.rows.rising (found_by c.args.service.0 _ _ c.in-Some.ensures.value)) in
    λ k d within here. ap (is_owned c.args.bundle) (only k d within here) ∙ sym (ap (λ s. s.owner.0 == c.args.bundle.0) c.service.ensures.service)

pub returns-in-None-clause-owned : goal.returns-in-None-clause-owned
returns-in-None-clause-owned c =
    let none : row_at c.args.service c.args.self.now.rows ≡ None = row_absent _ c.args.service _ _ (ap (λ r. r.rows) c.self.view_is) c.self.invariant.rows.under (found_by c.args.service.0 _ _ c.in-None.ensures.value) in
    rw none refl

pub returns-in-None-clause-each : goal.returns-in-None-clause-each
returns-in-None-clause-each c =
    let none : row_at c.args.service c.args.self.now.rows ≡ None = row_absent _ c.args.service _ _ (ap (λ r. r.rows) c.self.view_is) c.self.invariant.rows.under (found_by c.args.service.0 _ _ c.in-None.ensures.value) in
    λ k d within here. absurd (cc (found_none (is_service c.args.service) c.args.self.now.rows none k d within, here))
