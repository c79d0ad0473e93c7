-- What the values of decisions add, as the code has it.
use Rattle.std.specs.Prelude.{List, [], ◌∷◌, Option, None, Some}
use Rattle.osgi_world.specs.Candidates.{CanBeAsked}
use Rattle.osgi_world.specs.Decisions as steps
use Rattle.osgi_world.specs.Decisions.{attached, wired}
use Rattle.osgi_world.specs.declared.problem.Problem.{Problem}
use Rattle.osgi_world.specs.declared.wiring.ReqRef.{ReqRef}
use Rattle.osgi_resolver_decisions.specs.computed.Known.{Knows}
use Rattle.osgi_resolver_decisions.specs.declared.decision_ref.DecisionRef.{DecisionRef}
use Rattle.osgi_resolver_decisions.specs.declared.decision_ref.DecisionRef.TheVariants.{Attach, Choose, Pick}
use Rattle.osgi_resolver_decisions.specs.declared.lists.Lists.{Lists}
use Rattle.osgi_resolver_path.specs.declared.step.Step.{Step}
use Rattle.osgi_resolver_path.specs.declared.step.Step.TheVariants.{Attached, Wired}

abbrev pub step_in : Step → steps.Step
step_in (Attached host fragment) = attached host fragment
step_in (Wired revision wire) = wired revision wire

abbrev pub steps_in : Option Step → List steps.Step
steps_in None = []
steps_in (Some step) = step_in step ∷ []

-- the candidates of what is decided are known
pub record IsAsked (lists : Lists) (P : Problem) (q : ReqRef) : Type 0 where
  pub knows : Knows lists q.owner
  pub has : CanBeAsked P.world.known q

abbrev pub IsListed : Lists → Problem → DecisionRef → Type 0
IsListed lists P (Attach host fragment) = Unit {0}
IsListed lists P (Choose host requirement) = IsAsked lists P requirement
IsListed lists P (Pick host requirement capability) = Unit {0}
