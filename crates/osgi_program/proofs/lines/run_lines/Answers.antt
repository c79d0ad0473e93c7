-- The history that the hall gives back is the calls of caller 0, which the lines made.
use Rattle.std.proofs.Common.{ap, ◌∙◌}
use Rattle.osgi_hall.specs.Passes.{HallView, PassView}
use Rattle.osgi_ops.specs.declared.op.Op.{Op}
use Rattle.osgi_ops.specs.declared.reply.Reply.{Reply}
use Rattle.osgi_program.proofs.Closing.{ran_all}
use Rattle.osgi_session.specs.Scripts.{sections_of}
use Rattle.osgi_program.proofs.lines.run_lines.Goals as goal

pub returns-clause-lines : goal.returns-clause-lines
returns-clause-lines g c =
    let first = c.in_ok-hall.pass in
    let after = c.run_each-ran.new.pass in
    let new = c.in_ok-hall.ensures.pass in
    let limit = ap (λ (h : HallView _). (g.M.Framework.runs_under h.setting).bounds.entries) c.new-2.ensures.hall ∙ ap (λ z. (g.M.Framework.runs_under z).bounds.entries) c.in_ok-hall.ensures.setting in
    ran_all c.run_each-ran.result (sections_of c.args.scripts.now) _ _ c.args.lines.now first after (g.M.Machine.entries c.in-Ok.field-0.machine)
    (ap (λ (p : PassView Op Reply _). p.own) new) (ap (λ (p : PassView Op Reply _). p.caller) new) (ap (λ (p : PassView Op Reply _). p.ended) new) c.run_each-ran.ensures.grown c.in-Ok.ensures.callers c.in-Ok.ensures.legal.own_calls
    c.in-Ok.ensures.history limit (rw (c.new-2.ensures.scripts) at c.run_each-ran.ensures.lines)
