-- What the bundles so far give by themselves was added.
use Rattle.std.proofs.Common.{ℕ, take}
use Rattle.osgi_space_sources.specs.computed.Adds.{Adds}
use Rattle.osgi_space_sources.specs.computed.Givens.{IsDirect}
use Rattle.osgi_space_sources.specs.declared.given.Given.{Given}
use Rattle.osgi_space_sources.specs.laws.Adding.{Each}
use Rattle.osgi_space_sources.proofs.package_sources.add_given.Given as goal

abbrev pub invariant-loop-bundle : goal.invariant-loop-bundle
invariant-loop-bundle l = Adds (Each (λ (b : ℕ) (g : Given). IsDirect l.rows b l.«package» g) (take l.bundle-index l.bundle-items)) l.fn.givens.items l.givens.items
