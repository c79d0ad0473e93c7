-- What is left of the first step is a run of the command.
use Rattle.std.proofs.Common.{List}
use Rattle.std.proofs.lemmas.Result.{on_err_weaker}
use Rattle.osgi_runner.proofs.Loops.{at-first, cut, cut-so, ends-so, tag_of}
use Rattle.osgi_runner.proofs.Unfinished.{if-ok, on-err, some-run}
use Rattle.osgi_runner.specs.computed.Ends.{Ends}
use Rattle.osgi_runner.specs.computed.States.{After, frames_of}
use Rattle.osgi_runner.specs.declared.lines.Ended.{Ended}
use Rattle.osgi_session.specs.Runs.{Call, Follows}
use Rattle.osgi_session.specs.Scripts.{sections_of}
use Rattle.osgi_runner.proofs.lines.run.Goals as goal

pub returns-in_err-step-clause-wanting : goal.returns-in_err-step-clause-wanting
returns-in_err-step-clause-wanting g c = on-err c.from_residual.result
    (cut (at-first (Follows (sections_of c.args.scripts.now) c.args.command.now) (tag_of (g.C.Caller.number c.args.caller.now) c.args.number) (g.C.Caller.made c.args.caller.now))
    (some-run (sections_of c.args.scripts.now) c.args.command.now))

pub returns-clause-ended : goal.returns-clause-ended
returns-clause-ended g c =
    let IsLeft : List Call → Type 0 = λ (calls : List Call). After (sections_of c.args.scripts.now) c.in_ok-step.step (frames_of c.first.new.stack.items) calls in
    let IsRun : List Call → Type 0 = Follows (sections_of c.args.scripts.now) c.args.command.now in
    let tag = tag_of (g.C.Caller.number c.args.caller.now) c.args.number in
    if-ok (λ (how : Ended). Ends IsLeft how tag (g.C.Caller.full c.finish.new.caller) (g.C.Caller.made c.args.caller.now) (g.C.Caller.made c.finish.new.caller))
    (λ (how : Ended). Ends IsRun how tag (g.C.Caller.full c.finish.new.caller) (g.C.Caller.made c.args.caller.now) (g.C.Caller.made c.finish.new.caller)) c.finish.result
    (λ how m. ends-so IsLeft IsRun tag (g.C.Caller.full c.finish.new.caller) (g.C.Caller.made c.args.caller.now) (g.C.Caller.made c.finish.new.caller) how (λ calls x. c.in_ok-step.ensures.follows (sections_of c.args.scripts.now) calls x) m)
    c.finish.ensures.ended

pub returns-clause-wanting : goal.returns-clause-wanting
returns-clause-wanting g c =
    let IsLeft : List Call → Type 0 = λ (calls : List Call). After (sections_of c.args.scripts.now) c.in_ok-step.step (frames_of c.first.new.stack.items) calls in
    on_err_weaker c.finish.result
    (λ m. cut-so IsLeft (Follows (sections_of c.args.scripts.now) c.args.command.now) (tag_of (g.C.Caller.number c.args.caller.now) c.args.number) (g.C.Caller.made c.args.caller.now) (g.C.Caller.made c.finish.new.caller)
    (λ calls x. c.in_ok-step.ensures.follows (sections_of c.args.scripts.now) calls x) m) c.finish.ensures.wanting
