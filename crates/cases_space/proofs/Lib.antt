-- A lemma on steps.
mod Undoing
