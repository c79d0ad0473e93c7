-- Lemmas on listeners and hands.
pub mod Hands
mod Listeners
