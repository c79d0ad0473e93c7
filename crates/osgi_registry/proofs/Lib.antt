-- Lemmas on the registry.
pub mod Changed
pub mod Covered
pub mod Current
pub mod Entries
pub mod Found
pub mod Keys
pub mod LetGo
pub mod Objects
pub mod Owned
pub mod Placed
pub mod Ranked
