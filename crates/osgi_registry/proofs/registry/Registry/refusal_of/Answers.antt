-- The refusal by the row that stands under the service's id.
use Rattle.std.proofs.Common.{◌≡◌, ap, refl}
use Rattle.std.specs.Prelude.{None, Some}
use Rattle.std.proofs.lemmas.Bool.{eq-eqb, ne_eqb}
use Rattle.osgi_registry.proofs.Entries.{row_absent, row_present}
use Rattle.osgi_registry.proofs.Keys.{found_by}
use Rattle.osgi_registry.specs.Rows.{row_at}
use Rattle.osgi_registry.proofs.registry.Registry.refusal_of.Goals as goal

pub returns-in_default : goal.returns-in_default
returns-in_default c =
    let none : row_at c.args.service c.args.self.now.rows ≡ None = row_absent _ c.args.service _ _ (ap (λ r. r.rows) c.self.view_is) c.self.invariant.rows.under (found_by c.args.service.0 _ _ c.in_default.ensures.value) in
    record { refusal = rw none refl }

pub returns-then-owner-other : goal.returns-then-owner-other
returns-then-owner-other c =
    let some : row_at c.args.service c.args.self.now.rows ≡ Some c.in-Some.held.now = row_present _ c.args.service _ _ _ (ap (λ r. r.rows) c.self.view_is) c.self.invariant.rows.under (found_by c.args.service.0 _ _ c.in-Some.ensures.value) in
    record { refusal = rw (some, ← c.service.ensures.service, eq-eqb _ _ c.if-owner-other.true) refl }

pub returns : goal.returns
returns c =
    let some : row_at c.args.service c.args.self.now.rows ≡ Some c.in-Some.held.now = row_present _ c.args.service _ _ _ (ap (λ r. r.rows) c.self.view_is) c.self.invariant.rows.under (found_by c.args.service.0 _ _ c.in-Some.ensures.value) in
    record { refusal = rw (some, ← c.service.ensures.service, ne_eqb _ _ c.if-owner-other.false) refl }
