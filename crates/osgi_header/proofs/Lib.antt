-- Lemmas on headers and their values.
pub mod Answering
pub mod Closing
pub mod Fronts
pub mod Gathering
pub mod Grouping
pub mod HeaderReading
pub mod LineReading
pub mod NameReading
pub mod PartReading
pub mod Repeating
pub mod Scanning
pub mod Splitting
pub mod Trimming
pub mod Values
