-- What the words of a line say, and what they are read as.
pub mod laws
pub mod LineReader
pub mod Lines
pub mod LineWords
pub mod Properties
pub mod PropertyReader
pub mod Splitting
pub mod WordReader
pub mod Words
