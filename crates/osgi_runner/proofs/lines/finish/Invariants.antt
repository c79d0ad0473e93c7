-- With the calls so far, what is left is a run of the whole.
use Rattle.std.proofs.Common.{◌≡◌, ◌-◌, List, length, reverse}
use Rattle.osgi_session.specs.Runs.{Call}
use Rattle.osgi_session.specs.Scripts.{sections_of}
use Rattle.osgi_runner.proofs.Loops.{IsOnTheWay}
use Rattle.osgi_runner.specs.computed.Stacks.{AllFit, CanStep}
use Rattle.osgi_runner.specs.computed.States.{After, frames_of}
use Rattle.osgi_runner.proofs.lines.finish.Given as goal

abbrev pub invariant-loop-op : goal.invariant-loop-op
invariant-loop-op g l = record {
  number : g.C.Caller.number l.caller ≡ g.C.Caller.number l.initial.caller;
  limit : g.C.Caller.limit l.caller ≡ g.C.Caller.limit l.initial.caller;
  goes : g.C.Caller.goes_on l.initial.caller l.caller;
  fit : AllFit (reverse l.stack.items);
  can : CanStep l.step (reverse l.stack.items);
  way : IsOnTheWay (λ (calls : List Call). After (sections_of l.scripts) l.initial.step (frames_of l.initial.stack.items) calls) (record { caller = g.C.Caller.number l.initial.caller; command = l.number })
      (g.C.Caller.made l.initial.caller) (g.C.Caller.made l.caller) (λ (calls : List Call). After (sections_of l.scripts) l.step (frames_of l.stack.items) calls);
}

abbrev pub decreases-loop-op : goal.decreases-loop-op
decreases-loop-op g l = g.C.Caller.limit l.caller - length (g.C.Caller.made l.caller)
