-- What is left now was left at the start; each step is lighter.
use Rattle.std.proofs.Common.{List, reverse}
use Rattle.osgi_session.specs.Runs.{Call}
use Rattle.osgi_session.specs.Scripts.{sections_of}
use Rattle.osgi_runner.specs.computed.Stacks.{AllFit, CanStep}
use Rattle.osgi_runner.specs.computed.States.{After, frames_of}
use Rattle.osgi_runner.specs.computed.Weights.{state_weight}
use Rattle.std.proofs.Common.{◌≡◌}
use Rattle.osgi_runner.proofs.frames.Step.advance.Given as goal

abbrev pub invariant-loop-step : goal.invariant-loop-step
invariant-loop-step g l = record {
  number : g.C.Caller.number l.caller ≡ g.C.Caller.number l.initial.caller;
  limit : g.C.Caller.limit l.caller ≡ g.C.Caller.limit l.initial.caller;
  made : g.C.Caller.made l.caller ≡ g.C.Caller.made l.initial.caller;
  goes : g.C.Caller.goes_on l.initial.caller l.caller;
  fit : AllFit (reverse l.stack.items);
  can : CanStep l.step (reverse l.stack.items);
  left : (calls : List Call) → After (sections_of l.scripts) l.step (frames_of l.stack.items) calls → After (sections_of l.scripts) l.initial.step (frames_of l.initial.stack.items) calls;
}

abbrev pub decreases-loop-step : goal.decreases-loop-step
decreases-loop-step g l = state_weight l.step l.stack.items
