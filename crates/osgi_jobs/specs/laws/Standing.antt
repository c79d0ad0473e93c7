-- The jobs that are queued after one more entry.
use Rattle.std.proofs.Common.{◌≡◌, List, [], ◌∷◌, ◌++◌, ap, sym, ◌∙◌}
use Rattle.std.specs.Prelude.{Option, None}
use Rattle.osgi_jobs.specs.Queue.{StandsFor}
use Rattle.osgi_ops.specs.Jobs.{JobChange, jobs, Queued, queued_by, with_jobs}
use Rattle.osgi_ops.specs.declared.entry.Entry.{Entry}
use Rattle.osgi_ops.specs.laws.Along.{carry-last}

jobs-last : (history : List Entry) (e : Entry) → jobs (history ++ e ∷ []) ≡ with_jobs (queued_by e.op e.reply) (jobs history)
jobs-last history e = carry-last (λ (before : List Queued) (x : Entry). with_jobs (queued_by x.op x.reply) before) [] history e

-- they change as the entry says
pub stands-after : (history : List Entry) (e : Entry) (queued : List Queued) (change : Option JobChange) → queued_by e.op e.reply ≡ change → StandsFor history queued → StandsFor (history ++ e ∷ []) (with_jobs change queued)
stands-after history e queued change says stands = ap (with_jobs change) stands ∙ ap (λ c. with_jobs c (jobs history)) (sym says) ∙ sym (jobs-last history e)

-- where it says nothing they stay
pub stands-quiet : (history : List Entry) (e : Entry) (queued : List Queued) → queued_by e.op e.reply ≡ None → StandsFor history queued → StandsFor (history ++ e ∷ []) queued
stands-quiet history e queued says stands = stands-after history e queued None says stands
