-- Lemmas on scripts.
pub mod FilterEnds
pub mod HeadReading
pub mod LineReading
pub mod ScriptReading
pub mod Sections
pub mod StatementReading
