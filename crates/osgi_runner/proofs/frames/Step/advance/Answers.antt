-- Where memory ran out, something was left to call.
use Rattle.std.proofs.Common.{[], ap, map, refl, rules, subst, sym, reverse}
use Rattle.osgi_runner.proofs.Unfinished.{go-unfinished, on-err}
use Rattle.osgi_runner.specs.computed.Stacks.{CanStep}
use Rattle.osgi_runner.specs.computed.States.{After, frame_of, frames_of, IsUnfinished}
use Rattle.osgi_runner.specs.declared.frames.Step.{Step}
use Rattle.osgi_session.specs.Scripts.{sections_of}
use Rattle.osgi_runner.proofs.frames.Step.advance.Goals as goal

pub returns-in-Over-clause-on : goal.returns-in-Over-clause-on
returns-in-Over-clause-on g c =
    let can = subst (λ (s : Step). CanStep s (reverse c.loop-step.stack.items)) c.in-Over.is c.loop-step.invariant.can in
    c.loop-step.invariant.left [] (subst (λ (s : Step). After (sections_of c.args.scripts.now) s (frames_of c.loop-step.stack.items) []) (sym c.in-Over.is) (ap (map frame_of) can, refl))

pub returns-in_err-step-in-Go-clause-unfinished : goal.returns-in_err-step-in-Go-clause-unfinished
returns-in_err-step-in-Go-clause-unfinished g c =
    let can = subst (λ (s : Step). CanStep s (reverse c.loop-step.stack.items)) c.in-Go.is c.loop-step.invariant.can in
    let u = go-unfinished (sections_of c.args.scripts.now) c.in-Go.now (reverse c.loop-step.stack.items) c.loop-step.invariant.fit can c.in_err-step-in-Go.ensures.some in
    let is : IsUnfinished (sections_of c.args.scripts.now) c.args.self (frames_of c.args.stack.now.items) = (
      u.0,
      u.1,
      c.loop-step.invariant.left u.0 (subst (λ (s : Step). After (sections_of c.args.scripts.now) s (frames_of c.loop-step.stack.items) u.0) (sym c.in-Go.is) u.2),
    ) in
    on-err c.from_residual.result is

pub loop-step-init : goal.loop-step-init
loop-step-init g c = record {
  number = refl;
  limit = refl;
  made = refl;
  goes = g.met.C.Caller.stays c.args.caller.now;
  fit = c.requires.fit;
  can = c.requires.can;
  left = λ calls after. after;
}

pub loop-step-preserved : goal.loop-step-preserved
loop-step-preserved g c = record {
  number = search rules;
  limit = search rules;
  made = search rules;
  goes = g.met.C.Caller.goes_further c.args.caller.now c.loop-step.caller c.go_on.new.caller c.loop-step.invariant.goes c.go_on.ensures.goes;
  fit = search rules;
  can = search rules;
  left = search rules;
}
