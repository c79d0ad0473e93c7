-- None is queued; or there are too many brackets; else the oldest is taken.
use Rattle.std.proofs.Common.{sym}
use Rattle.std.proofs.lemmas.Bool.Decides.{not_from_Decides}
use Rattle.osgi_jobs.specs.Queue.{queued_of}
use Rattle.osgi_reply_jobs.proofs.Jobs.{decided_deep, decided_none, decided_taken}
use Rattle.osgi_reply_jobs.proofs.queueing.take_job.Goals as goal

pub returns-in_default : goal.returns-in_default
returns-in_default c = record { decided = decided_none c.args.tables.now c.args.tag (sym c.in_default.ensures.oldest) }

pub returns-then-is_full : goal.returns-then-is_full
returns-then-is_full c = record { decided = decided_deep c.args.tables.now c.args.tag (queued_of c.in-Some.oldest.now) (sym c.in-Some.ensures.oldest) (c.is_full.ensures.full.0 c.if-is_full.true) }

pub returns : goal.returns
returns c = record {
  decided = decided_taken c.args.tables.now c.args.tag (queued_of c.in-Some.oldest.now) (sym c.in-Some.ensures.oldest) (not_from_Decides c.is_full.result c.is_full.ensures.full c.if-is_full.false) c.depot_row-row.result c.in_ok-name.name c.depot_row-row.ensures.row c.in_ok-name.ensures.same;
}
