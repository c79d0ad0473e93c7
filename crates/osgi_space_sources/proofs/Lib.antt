-- Lemmas on rows, on what is found by steps, and on sources that differ.
pub mod Lengths
pub mod Rows
mod Givers
pub mod Agreeing
mod Clashing
mod Worklist
mod Alone
mod Carried
mod Using
mod Whole
mod Tracing
mod Leading
