-- Lemmas on the grammar of the console's lines and its reader.
pub mod ArgumentReading
pub mod Contents
pub mod Filters
pub mod FirstWords
pub mod Lanes
pub mod Locations
pub mod Verbs
