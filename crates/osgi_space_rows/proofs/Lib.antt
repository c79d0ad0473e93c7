-- Lemmas on values by numbers, on names, on rows, and on what rows say of wirings.
pub mod Written
pub mod Places
pub mod Numbered
pub mod NameOf
pub mod Stepped
pub mod StepRows
pub mod Payload
pub mod KnownRows
pub mod MoreKnown
pub mod WireRows
pub mod Growth
