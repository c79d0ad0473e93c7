-- Too many are queued, or the job is queued.
use Rattle.std.proofs.lemmas.Bool.Decides.{not_from_Decides}
use Rattle.osgi_reply_jobs.proofs.Jobs.{decided_full, decided_queued}
use Rattle.osgi_reply_jobs.proofs.queueing.queue_job.Goals as goal

pub returns-then-is_full : goal.returns-then-is_full
returns-then-is_full c = record { decided = decided_full c.args.tables.now c.args.owner c.args.name.now c.requires.asker (c.is_full.ensures.full.0 c.if-is_full.true) }

pub returns : goal.returns
returns c = record {
  decided = decided_queued c.args.tables.now c.args.owner c.args.name.now c.requires.asker (not_from_Decides c.is_full.result c.is_full.ensures.full c.if-is_full.false) c.in_ok-name.name c.in_ok-name.ensures.same;
}
