-- What the bundles so far give was added.
use Rattle.std.proofs.Common.{ℕ, take}
use Rattle.osgi_space_sources.specs.computed.Adds.{Adds}
use Rattle.osgi_space_sources.specs.computed.Givens.{IsGivenBy}
use Rattle.osgi_space_sources.specs.declared.given.Given.{Given}
use Rattle.osgi_space_sources.specs.laws.Adding.{Each}
use Rattle.osgi_space_sources.proofs.space.add_reached.Given as goal

abbrev pub invariant-loop-bundle : goal.invariant-loop-bundle
invariant-loop-bundle l = Adds (Each (λ (b : ℕ) (g : Given). IsGivenBy l.rows l.revision b g) (take l.bundle-index l.bundle-items)) l.fn.givens.items l.givens.items
