-- Lemmas on what is kept of a caller.
mod Kept
