-- Laws of ranges of versions.
pub mod Ranges
