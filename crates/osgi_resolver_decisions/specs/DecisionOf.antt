-- The decision, as definitions have it, that a decision of the code is.
use Rattle.osgi_world.specs.Decisions as decisions
use Rattle.osgi_world.specs.Decisions.{attaching, choose, pick}
use Rattle.osgi_resolver_decisions.specs.declared.decision_ref.DecisionRef.{DecisionRef}
use Rattle.osgi_resolver_decisions.specs.declared.decision_ref.DecisionRef.TheVariants.{Attach, Choose, Pick}

abbrev pub decision_of : DecisionRef → decisions.Decision
decision_of (Attach host fragment) = attaching host fragment
decision_of (Choose host requirement) = choose host requirement
decision_of (Pick host requirement capability) = pick host requirement capability
