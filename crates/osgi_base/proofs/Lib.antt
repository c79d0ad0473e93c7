-- A lemma on places with a value or none.
pub mod Places
