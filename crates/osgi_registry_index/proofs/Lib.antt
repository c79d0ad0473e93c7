-- Lemmas on what the registry keeps of services.
pub mod Belongs
pub mod Counting
pub mod Exact
pub mod Forgotten
pub mod Holds
pub mod Pushes
pub mod Slotted
pub mod Twins
