-- A service with other properties, and none that is not live.
use Rattle.std.proofs.Common.{◌≡◌, ap, refl, nat_eq, arith}
use Rattle.std.specs.Prelude.{None, Some}
use Rattle.std.specs.Map.{lookup}
use Rattle.osgi_registry.proofs.Entries.{found_under, in_order, row_absent, row_present}
use Rattle.osgi_registry.proofs.Keys.{found_by}
use Rattle.osgi_registry.specs.Rows.{row_at}
use Rattle.osgi_registry.proofs.registry.Registry.make_modified.Goals as goal

pub returns-in_default-clause-made : goal.returns-in_default-clause-made
returns-in_default-clause-made c =
    let none : row_at c.args.service c.args.self.now.rows ≡ None = row_absent _ c.args.service _ _ (ap (λ r. r.rows) c.self.view_is) c.self.invariant.rows.under (found_by c.args.service.0 _ _ c.in_default.ensures.value) in
    rw none refl

pub returns-in_default-clause-in_order : goal.returns-in_default-clause-in_order
returns-in_default-clause-in_order c = rw (← c.self.view_is) (in_order _ _ c.self.invariant.rows)

pub modified-requires : goal.modified-requires
modified-requires c =
    let found : lookup (nat_eq c.args.service.0) c.self.inside.services.entries ≡ Some c.in-Some.held.now = found_by c.args.service.0 _ _ c.in-Some.ensures.value in
    let under = found_under _ _ _ _ c.self.invariant.rows.under found in
    let is = ap (λ s. s.service.0) c.service-now.ensures.service in
    omega (arith, under.key, under.below, is, c.self.invariant.rows.fits)

pub returns-clause-made : goal.returns-clause-made
returns-clause-made c =
    let some : row_at c.args.service c.args.self.now.rows ≡ Some c.in-Some.held.now = row_present _ c.args.service _ _ _ (ap (λ r. r.rows) c.self.view_is) c.self.invariant.rows.under (found_by c.args.service.0 _ _ c.in-Some.ensures.value) in
    rw (some, c.in_ok-made.ensures.modified, c.service-now.ensures.service, c.scope.ensures.scope) refl

pub returns-clause-in_order : goal.returns-clause-in_order
returns-clause-in_order c = rw (← c.self.view_is) (in_order _ _ c.self.invariant.rows)
