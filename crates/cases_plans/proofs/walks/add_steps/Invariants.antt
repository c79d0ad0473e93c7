-- The plan waits for what comes of the step.
use Rattle.osgi_lifecycle.specs.Pendings.{Awaits, pending_of}
use Rattle.cases_plans.proofs.walks.add_steps.Given as goal

abbrev pub invariant-loop-answer : goal.invariant-loop-answer
invariant-loop-answer l = Awaits l.step (pending_of l.plan)
