-- What the registry keeps of services beside their rows, as contracts see it.
pub mod Belonging
pub mod Counts
pub mod Places
pub mod Slots
pub mod computed
