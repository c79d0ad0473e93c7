-- Lemmas on the index of the known revisions.
pub mod Pushed
pub mod Searched
