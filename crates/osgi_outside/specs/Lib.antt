-- The definitions of this crate.
pub mod Causes
pub mod Ends
pub mod Inputs
pub mod Scripted
pub mod Shelves
