-- Lemmas on the clauses of package headers.
pub mod Answering
pub mod ExportReading
pub mod ImportReading
pub mod Reading
pub mod Valued
