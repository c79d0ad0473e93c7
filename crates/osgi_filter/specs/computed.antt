-- What private functions and proofs cite. No public promise cites these.
pub mod Between
pub mod Folded
pub mod Given
pub mod NameOrder
pub mod Ordered
pub mod Reader
pub mod Spelled
pub mod Wanted
