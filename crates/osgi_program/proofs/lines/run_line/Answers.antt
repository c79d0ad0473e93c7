-- What the runner adds is added to the calls of caller 0.
use Rattle.std.proofs.Common.{◌≡◌, ℕ, false, inr, subst}
use Rattle.osgi_runner.specs.Calls.{Adds, IsCutShort}
use Rattle.osgi_runner.specs.Passes.{calls_of, has_seen}
use Rattle.osgi_session.specs.Scripts.{sections_of}
use Rattle.osgi_session.specs.Sessions.{IsCutRunOf, IsRunOf}
use Rattle.osgi_program.proofs.lines.run_line.Goals as goal

pub returns-in-Ok-Done-clause-line : goal.returns-in-Ok-Done-clause-line
returns-in-Ok-Done-clause-line g c =
    inr (subst (λ (k : ℕ). Adds (IsRunOf (sections_of c.args.runner.now.scripts.now) k c.args.line.now) (calls_of c.args.pass.now) (calls_of c.command.new.pass)) c.requires.first (c.in-Ok-Done.ensures.done c.in-Ok-Done.field-0-is))

pub returns-in-Ok-Cut-clause-line : goal.returns-in-Ok-Cut-clause-line
returns-in-Ok-Cut-clause-line g c =
    inr
    (subst (λ (k : ℕ). IsCutShort (sections_of c.args.runner.now.scripts.now) k c.args.line.now (has_seen (g.M.Framework.runs_under c.args.runner.now.hall.now.setting).bounds.entries c.command.new.pass) (calls_of c.args.pass.now) (calls_of c.command.new.pass)) c.requires.first
    (c.in-Ok-Cut.ensures.cut c.in-Ok-Cut.field-0-is))

pub returns-in-Err-clause-line : goal.returns-in-Err-clause-line
returns-in-Err-clause-line g c =
    inr (subst (λ (k : ℕ). Adds (IsCutRunOf (sections_of c.args.runner.now.scripts.now) k c.args.line.now false) (calls_of c.args.pass.now) (calls_of c.command.new.pass)) c.requires.first c.in-Err.ensures.wanting)
