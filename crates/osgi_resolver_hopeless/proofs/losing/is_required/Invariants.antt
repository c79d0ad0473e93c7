-- None of the holders so far has a bundle wire to the host.
use Rattle.std.proofs.Common.{ℕ, take}
use Rattle.osgi_space_rows.specs.Rows.{Requires}
use Rattle.osgi_world.specs.Lists.{In}
use Rattle.osgi_resolver_hopeless.proofs.losing.is_required.Given as goal

abbrev pub invariant-loop-holder : goal.invariant-loop-holder
invariant-loop-holder l = (n : ℕ) → In n (take l.holder-index l.holder-items) → ¬ Requires l.rows n l.host.0
