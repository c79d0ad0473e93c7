-- The calls of the command are the entries of the line.
use Rattle.std.proofs.lemmas.Result.{on_err_weaker}
use Rattle.osgi_runner.proofs.Loops.{cut-of, done-of, short-of, tag_of}
use Rattle.osgi_runner.proofs.Unfinished.{if-ok}
use Rattle.osgi_runner.specs.Calls.{Adds, IsCutShort}
use Rattle.osgi_runner.specs.computed.Ends.{Ends}
use Rattle.osgi_runner.specs.declared.lines.Ended.{Ended}
use Rattle.osgi_runner.specs.declared.lines.Ended.TheVariants as ended
use Rattle.osgi_session.specs.Runs.{Follows}
use Rattle.osgi_session.specs.Scripts.{sections_of}
use Rattle.osgi_session.specs.Sessions.{IsRunOf}
use Rattle.std.proofs.Common.{◌≡◌}
use Rattle.osgi_runner.proofs.lines.run_line.Goals as goal

pub returns-clause-done : goal.returns-clause-done
returns-clause-done g c =
    let script = sections_of c.args.scripts.now in
    let caller = g.C.Caller.number c.args.caller.now in
    let before = g.C.Caller.made c.args.caller.now in
    let after = g.C.Caller.made c.run.new.caller in
    let full = g.C.Caller.full c.run.new.caller in
    if-ok (λ (how : Ended). Ends (Follows script c.in-Run.command) how (tag_of caller c.args.line.now.number) full before after)
    (λ (how : Ended). how ≡ ended.Done → Adds (IsRunOf script caller c.args.line.now) before after) c.run.result
    (λ how m. done-of script caller full before after c.args.line.now c.in-Run.command c.in-Run.is how m) c.run.ensures.ended

pub returns-clause-cut : goal.returns-clause-cut
returns-clause-cut g c =
    let script = sections_of c.args.scripts.now in
    let caller = g.C.Caller.number c.args.caller.now in
    let before = g.C.Caller.made c.args.caller.now in
    let after = g.C.Caller.made c.run.new.caller in
    let full = g.C.Caller.full c.run.new.caller in
    if-ok (λ (how : Ended). Ends (Follows script c.in-Run.command) how (tag_of caller c.args.line.now.number) full before after)
    (λ (how : Ended). how ≡ ended.Cut → IsCutShort script caller c.args.line.now full before after) c.run.result
    (λ how m. short-of script caller full before after c.args.line.now c.in-Run.command c.in-Run.is how m) c.run.ensures.ended

pub returns-clause-wanting : goal.returns-clause-wanting
returns-clause-wanting g c =
    on_err_weaker c.run.result
    (λ m. cut-of (sections_of c.args.scripts.now) (g.C.Caller.number c.args.caller.now) (g.C.Caller.made c.args.caller.now) (g.C.Caller.made c.run.new.caller) c.args.line.now c.in-Run.command c.in-Run.is m) c.run.ensures.wanting
