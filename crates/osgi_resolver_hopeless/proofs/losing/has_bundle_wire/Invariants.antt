-- None of the bundle wires so far goes to the bundle.
use Rattle.std.proofs.Common.{◌≡◌, Any, take}
use Rattle.osgi_space_rows.specs.declared.rows.Required.{Required}
use Rattle.osgi_resolver_hopeless.proofs.losing.has_bundle_wire.Given as goal

abbrev pub invariant-loop-row : goal.invariant-loop-row
invariant-loop-row l = ¬ Any (λ (row : Required). l.bundle ≡ row.provider) (take l.row-index l.row-items)
