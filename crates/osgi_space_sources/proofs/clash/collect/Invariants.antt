-- The pairs so far were added.
use Rattle.std.proofs.Common.{◌≡◌, take}
use Rattle.osgi_space_sources.specs.computed.Adds.{Adds}
use Rattle.osgi_space_sources.specs.declared.given.Given.{Given}
use Rattle.osgi_space_sources.specs.laws.Adding.{Each}
use Rattle.osgi_space_sources.proofs.clash.collect.Given as goal

abbrev pub invariant-loop-given : goal.invariant-loop-given
invariant-loop-given l = Adds (Each (λ (h g : Given). g ≡ h) (take l.given-index l.givens)) l.initial.found l.found
