-- Lemmas on what stands in the queue.
mod Counting
mod Standings
