-- The jobs end, or go on with a section.
use Rattle.std.proofs.Common.{sym, subst, ◌∙◌, refl}
use Rattle.osgi_runner.proofs.Following.{by-job, jobs-over, pushed}
use Rattle.osgi_runner.specs.computed.States.{frames_of, RestBy}
use Rattle.osgi_runner.specs.declared.frames.Frame.TheVariants as frame
use Rattle.osgi_runs.proofs.Courses.{jobs-ended}
use Rattle.osgi_runner.proofs.replies.taken.Goals as goal

pub returns-then-not-is_job-clause-on : goal.returns-then-not-is_job-clause-on
returns-then-not-is_job-clause-on c = λ script calls l. jobs-ended c.args.reply (jobs-over c.args.reply (sym c.is_job.ensures.job ∙ c.if-not-is_job.true)) l

pub returns-clause-on : goal.returns-clause-on
returns-clause-on c = λ script calls h.
    by-job script (frames_of c.args.stack.now.items) calls c.args.reply (sym c.is_job.ensures.job ∙ c.if-not-is_job.false)
    (subst (λ l. RestBy script c.args.reply l calls)
    (pushed c.args.stack.now.items c.args.stack.now.items c.push_reserved.new.self.items frame.Job refl c.push_reserved.ensures.items) h)
