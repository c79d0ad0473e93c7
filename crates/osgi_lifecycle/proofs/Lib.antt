-- Lemmas on plans.
pub mod Asking
pub mod Awaiting
pub mod Beginning
pub mod Going
