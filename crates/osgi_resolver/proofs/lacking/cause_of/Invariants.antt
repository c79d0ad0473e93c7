-- None of those so far is lacking.
use Rattle.std.proofs.Common.{◌<◌}
use Rattle.osgi_resolver_path.specs.Standing.{At}
use Rattle.osgi_world.specs.Candidates.{IsLacking}
use Rattle.osgi_world.specs.declared.wiring.ReqRef.{ReqRef}
use Rattle.osgi_resolver.proofs.lacking.cause_of.Given as goal

abbrev pub invariant-loop-index : goal.invariant-loop-index
invariant-loop-index l = At l.path (λ P _. (q : ReqRef) → q.index < l.index → ¬ IsLacking P q)
