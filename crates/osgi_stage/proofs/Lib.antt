-- What holds of legal histories while some operations have not come.
pub mod Current
pub mod Drops
pub mod Early
pub mod Ends
pub mod Facts
pub mod Fresh
pub mod Handings
pub mod Loads
pub mod Opened
pub mod Rows
pub mod Running
pub mod Singletons
pub mod Stage
pub mod StateReadings
pub mod States
pub mod ToldOnce
pub mod Windows
