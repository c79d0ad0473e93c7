-- Lemmas on the reader of filters, from bytes to whole texts, on the places where it stops, on printing, and on matching.
pub mod NameSteps
pub mod Operands
pub mod Prints
pub mod Stopping
pub mod Places
pub mod Between
pub mod Dots
pub mod NameLookups
