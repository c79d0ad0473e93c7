-- Lemmas on the locations that are named, and on rows and their scripts.
pub mod Keeping
pub mod Named
pub mod Pushed
