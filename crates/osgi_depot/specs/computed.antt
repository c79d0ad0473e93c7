-- What the depot's private functions answer. No public promise speaks of it.
pub mod Keeping
pub mod Locations
pub mod Rows
