-- What the code computes of class spaces, over rows.
pub mod Spaces
pub mod Firsts
pub mod NamedPairs
pub mod ByName
