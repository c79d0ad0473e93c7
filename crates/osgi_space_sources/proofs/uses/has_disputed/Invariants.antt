-- None of the packages so far is disputed.
use Rattle.std.proofs.Common.{Any, take}
use Rattle.osgi_space_sources.specs.computed.Disputes.{IsDisputed}
use Rattle.osgi_space_sources.specs.declared.given.Given.{Given}
use Rattle.osgi_space_sources.proofs.uses.has_disputed.Given as goal

abbrev pub invariant-loop-given : goal.invariant-loop-given
invariant-loop-given l = ¬ Any (λ (g : Given). IsDisputed l.disputed g.package) (take l.given-index l.givens)
