-- The job is ended, or the operation is not the end of the innermost bracket of its caller.
use Rattle.std.proofs.Common.{sym, ◌∙◌}
use Rattle.osgi_reply_jobs.proofs.Jobs.{ended_job, ended_none}
use Rattle.osgi_reply_jobs.proofs.queueing.end_job.Goals as goal

pub returns-then-not-is_end : goal.returns-then-not-is_end
returns-then-not-is_end c = record { replied = λ entries. ended_none c.args.tables.now c.args.tag entries (sym c.is_end.ensures.end ∙ c.if-not-is_end.true) }

pub returns : goal.returns
returns c = record { replied = λ entries. ended_job c.args.tables.now c.args.tag entries c.pop.new.self (sym c.is_end.ensures.end ∙ c.if-not-is_end.false) c.pop.ensures.closed }
