-- Lemmas on jobs.
mod Jobs
