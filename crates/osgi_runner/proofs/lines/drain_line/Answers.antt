-- What is left of a drain that was not begun is a drain, and its calls are the entries of the line.
use Rattle.std.proofs.Common.{◌≡◌}
use Rattle.std.proofs.lemmas.Result.{on_err_weaker}
use Rattle.osgi_runner.proofs.Draining.{drain-done, drain-short, drain-starved, IsAhead}
use Rattle.osgi_runner.proofs.Loops.{tag_of}
use Rattle.osgi_runner.proofs.Unfinished.{if-ok}
use Rattle.osgi_runner.specs.Calls.{Adds, IsDrainCutShort, IsDrainOf}
use Rattle.osgi_runner.specs.computed.Ends.{Ends}
use Rattle.osgi_runner.specs.declared.lines.Ended.{Ended}
use Rattle.osgi_runner.specs.declared.lines.Ended.TheVariants as ended
use Rattle.osgi_session.specs.Scripts.{sections_of}
use Rattle.osgi_runner.proofs.lines.drain_line.Goals as goal

pub returns-clause-done : goal.returns-clause-done
returns-clause-done g c =
    let script = sections_of c.args.scripts.now in
    let caller = g.C.Caller.number c.args.caller.now in
    let before = g.C.Caller.made c.args.caller.now in
    let after = g.C.Caller.made c.finish.new.caller in
    let full = g.C.Caller.full c.finish.new.caller in
    let stack = c.new-stack.result.items in
    if-ok (λ (how : Ended). Ends (IsAhead script stack) how (tag_of caller c.args.line.now.number) full before after)
    (λ (how : Ended). how ≡ ended.Done → Adds (IsDrainOf script caller c.args.line.now) before after) c.finish.result
    (λ how m. drain-done script caller full before after c.args.line.now stack how c.new-stack.ensures.items m) c.finish.ensures.ended

pub returns-clause-cut : goal.returns-clause-cut
returns-clause-cut g c =
    let script = sections_of c.args.scripts.now in
    let caller = g.C.Caller.number c.args.caller.now in
    let before = g.C.Caller.made c.args.caller.now in
    let after = g.C.Caller.made c.finish.new.caller in
    let full = g.C.Caller.full c.finish.new.caller in
    let stack = c.new-stack.result.items in
    if-ok (λ (how : Ended). Ends (IsAhead script stack) how (tag_of caller c.args.line.now.number) full before after)
    (λ (how : Ended). how ≡ ended.Cut → IsDrainCutShort script caller c.args.line.now full before after) c.finish.result
    (λ how m. drain-short script caller full before after c.args.line.now stack how c.new-stack.ensures.items m) c.finish.ensures.ended

pub returns-clause-wanting : goal.returns-clause-wanting
returns-clause-wanting g c =
    on_err_weaker c.finish.result
    (λ m. drain-starved (sections_of c.args.scripts.now) (g.C.Caller.number c.args.caller.now) (g.C.Caller.made c.args.caller.now) (g.C.Caller.made c.finish.new.caller) c.args.line.now
    c.new-stack.result.items c.new-stack.ensures.items m) c.finish.ensures.wanting
