-- What private functions and proofs cite. No public promise cites these.
pub mod Concerns
pub mod Finding
pub mod Kept
pub mod LivePlaces
pub mod LiveSlots
