-- Each of the inner ones so far is among the outer ones.
use Rattle.std.proofs.Common.{Any, Contains, take}
use Rattle.osgi_space_sources.specs.declared.given.Given.{Given}
use Rattle.osgi_space_sources.proofs.clash.lacks.Given as goal

abbrev pub invariant-loop-given : goal.invariant-loop-given
invariant-loop-given l = ¬ Any (λ (g : Given). ¬ Contains l.outer g) (take l.given-index l.inner)
