-- The loop that calls: the pass stays the same one.
use Rattle.osgi_hall.specs.Passes.{IsSamePass}
use Rattle.cases_hall.proofs.crowd.call_often.Given as goal

abbrev pub invariant-loop-command : goal.invariant-loop-command
invariant-loop-command g l = IsSamePass l.initial.pass l.pass
