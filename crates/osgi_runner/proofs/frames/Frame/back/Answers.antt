-- A plan goes on after the drain or the section that was begun in it.
use Rattle.std.proofs.Common.{subst, sym, ◌∷◌, reverse}
use Rattle.osgi_lifecycle.specs.Pendings.{pending_of}
use Rattle.osgi_runner.proofs.Following.{comes-drained, comes-ran, end-failed, ran-lighter}
use Rattle.osgi_runner.specs.computed.Stacks.{Fits}
use Rattle.osgi_runner.specs.computed.States.{end_of, frame_of, frames_of}
use Rattle.osgi_runner.specs.computed.Weights.{stack_weight}
use Rattle.osgi_runner.specs.declared.frames.Frame.{Frame}
use Rattle.osgi_runs.specs.Courses.{Left}
use Rattle.osgi_runner.proofs.frames.Frame.back.Goals as goal

pub returns-in-Drained-clause-on : goal.returns-in-Drained-clause-on
returns-in-Drained-clause-on c = λ script calls h.
    let fits = subst (λ (f : Frame). Fits f (reverse c.args.stack.now.items)) c.in-Drained.is c.requires.fits in
    subst (λ (f : Frame). Left script (frame_of f ∷ frames_of c.args.stack.now.items) (end_of c.args.outcome) calls) (sym c.in-Drained.is)
    (comes-drained script (frames_of c.args.stack.now.items) calls (pending_of c.in-Drained.plan) (end_of c.args.outcome) fits.0 (c.follow.ensures.on script calls h))

pub returns-in-Ran-clause-lighter : goal.returns-in-Ran-clause-lighter
returns-in-Ran-clause-lighter c =
    let fits = subst (λ (f : Frame). Fits f (reverse c.args.stack.now.items)) c.in-Ran.is c.requires.fits in
    ran-lighter c.follow-in-Ran.result c.follow-in-Ran.new.stack.items c.args.self c.in-Ran.plan c.args.outcome.failed (stack_weight c.args.stack.now.items) c.in-Ran.is fits.0 c.follow-in-Ran.ensures.lighter

pub returns-in-Ran-clause-on : goal.returns-in-Ran-clause-on
returns-in-Ran-clause-on c = λ script calls h.
    let fits = subst (λ (f : Frame). Fits f (reverse c.args.stack.now.items)) c.in-Ran.is c.requires.fits in
    subst (λ (f : Frame). Left script (frame_of f ∷ frames_of c.args.stack.now.items) (end_of c.args.outcome) calls) (sym c.in-Ran.is)
    (comes-ran script (frames_of c.args.stack.now.items) calls (pending_of c.in-Ran.plan) (end_of c.args.outcome) c.args.outcome.failed fits.0 (end-failed c.args.outcome.failed c.args.outcome.bound)
    (c.follow-in-Ran.ensures.on script calls h))
