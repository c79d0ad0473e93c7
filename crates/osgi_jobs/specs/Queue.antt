-- The jobs that are queued, and which histories they stand for.
use Rattle.std.specs.Prelude.{◌≡◌, List, [], ◌∷◌, Option, None, Some}
use Rattle.osgi_jobs.specs.declared.job.QueuedJob.{QueuedJob}
use Rattle.osgi_ops.specs.Jobs.{jobs, Queued}
use Rattle.osgi_ops.specs.declared.entry.Entry.{Entry}

-- the job as the history has it
abbrev pub queued_of : QueuedJob → Queued
queued_of job = record { owner = job.owner; name = job.name }

abbrev pub oldest_in : List Queued → Option Queued
oldest_in [] = None
oldest_in (oldest ∷ rest) = Some oldest

-- they are those that are queued in the history
abbrev pub StandsFor : List Entry → List Queued → Type 0
StandsFor history queued = queued ≡ jobs history
