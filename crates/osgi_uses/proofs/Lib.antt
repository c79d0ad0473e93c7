-- Lemmas on rows along a trail, and on what is found in them.
pub mod Trails
pub mod Clashing
