-- The count of the row that stands under the service's id.
use Rattle.std.proofs.Common.{◌≡◌, ap, refl}
use Rattle.std.specs.Prelude.{None, Some}
use Rattle.osgi_registry.proofs.Entries.{row_absent, row_present}
use Rattle.osgi_registry.proofs.Keys.{found_by}
use Rattle.osgi_registry.specs.Rows.{row_at}
use Rattle.osgi_registry.proofs.registry.Registry.is_used.Goals as goal

pub returns-in-Some : goal.returns-in-Some
returns-in-Some c =
    let some : row_at c.args.service c.args.self.now.rows ≡ Some c.in-Some.held.now = row_present _ c.args.service _ _ _ (ap (λ r. r.rows) c.self.view_is) c.self.invariant.rows.under (found_by c.args.service.0 _ _ c.in-Some.ensures.value) in
    record { used = rw some c.is_used.ensures.used }

pub returns-in-None : goal.returns-in-None
returns-in-None c =
    let none : row_at c.args.service c.args.self.now.rows ≡ None = row_absent _ c.args.service _ _ (ap (λ r. r.rows) c.self.view_is) c.self.invariant.rows.under (found_by c.args.service.0 _ _ c.in-None.ensures.value) in
    record { used = rw none refl }
