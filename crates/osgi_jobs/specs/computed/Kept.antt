-- Which of the jobs that stand in the queue are queued, and what is true of the fields between calls.
use Rattle.std.specs.Prelude.{ℕ, ◌≡◌, ◌==◌, ◌≤◌, ◌+◌, ◌-◌, if◌then◌else◌, List, [], ◌∷◌, length}
use Rattle.std.specs.Option.{option_map_or}
use Rattle.osgi_base.specs.NumberMaps.{value_at}
use Rattle.osgi_base.specs.declared.number_map.NumberMap.{NumberMap}
use Rattle.osgi_jobs.specs.declared.counts.BundleCount.{BundleCount}
use Rattle.osgi_jobs.specs.declared.job.QueuedJob.{QueuedJob}

-- what is counted of each bundle, by the number of its id
abbrev pub Counts : Type 0
Counts = ℕ → BundleCount

abbrev pub counted_in : NumberMap BundleCount → Counts
counted_in map number = option_map_or (λ (count : BundleCount). count) (value_at map number) (record { standing = 0; cleaned = 0 })

-- how many are of the bundle
abbrev pub count_of : ℕ → List QueuedJob → ℕ
count_of number [] = 0
count_of number (job ∷ rest) = if number == job.owner.0 then count_of number rest + 1 else count_of number rest

-- the bundle has one less that was cleaned
abbrev pub with_less : ℕ → (ℕ → ℕ) → ℕ → ℕ
with_less number cleaned n = if number == n then cleaned n - 1 else cleaned n

-- without so many of each bundle, its first ones
abbrev pub without_cleaned : (ℕ → ℕ) → List QueuedJob → List QueuedJob
without_cleaned cleaned [] = []
without_cleaned cleaned (job ∷ rest) =
    if cleaned job.owner.0 == 0 then job ∷ without_cleaned cleaned rest else without_cleaned (with_less job.owner.0 cleaned) rest

-- those that are queued
abbrev pub queued_in : Counts → List QueuedJob → List QueuedJob
queued_in counts standing = without_cleaned (λ n. (counts n).cleaned) standing

-- of each bundle it is counted how many stand there, and of these some were cleaned
pub record AreCounted (counts : Counts) (standing : List QueuedJob) : Type 0 where
  pub all : (n : ℕ) → (counts n).standing ≡ count_of n standing
  pub some : (n : ℕ) → (counts n).cleaned ≤ (counts n).standing

-- the one at the front, if there is one, is queued
abbrev pub IsFrontQueued : Counts → List QueuedJob → Type 0
IsFrontQueued counts [] = Unit {0}
IsFrontQueued counts (job ∷ rest) = (counts job.owner.0).cleaned ≡ 0

-- all that is true of the fields
pub record IsKept (counts : Counts) (standing : List QueuedJob) (queued : ℕ) : Type 0 where
  pub counted : AreCounted counts standing
  pub number : queued ≡ length (queued_in counts standing)
  pub front : IsFrontQueued counts standing
