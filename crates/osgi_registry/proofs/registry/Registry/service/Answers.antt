-- The service of the row that stands under the service's id.
use Rattle.std.proofs.Common.{◌≡◌, ap}
use Rattle.std.specs.Prelude.{None, Some}
use Rattle.std.specs.Option.{option_copied}
use Rattle.osgi_registry.proofs.Entries.{row_absent, row_present}
use Rattle.osgi_registry.proofs.Keys.{found_by}
use Rattle.osgi_registry.specs.Rows.{row_at}
use Rattle.osgi_registry.proofs.registry.Registry.service.Goals as goal

pub returns-in_err-held : goal.returns-in_err-held
returns-in_err-held c =
    let none : row_at c.args.service c.args.self.now.rows ≡ None = row_absent _ c.args.service _ _ (ap (λ r. r.rows) c.self.view_is) c.self.invariant.rows.under (found_by c.args.service.0 _ _ c.in_err-held.ensures.value) in
    record { service = rw none (ap option_copied c.from_residual.ensures) }

pub returns : goal.returns
returns c =
    let some : row_at c.args.service c.args.self.now.rows ≡ Some c.in_ok-held.held.now = row_present _ c.args.service _ _ _ (ap (λ r. r.rows) c.self.view_is) c.self.invariant.rows.under (found_by c.args.service.0 _ _ c.in_ok-held.ensures.value) in
    record { service = rw some (ap Some c.service.ensures.service) }
