-- Lemmas on the one match of all operations.
pub mod BundlesListed
pub mod Matching
pub mod TextsWritten
