-- Lemmas on what may be resolved.
mod Resolvable
