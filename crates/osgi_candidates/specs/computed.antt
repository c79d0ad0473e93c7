-- What private functions and proofs cite, and what `Covers` is made of.
pub mod Texts
pub mod Names
pub mod Holding
pub mod InUses
pub mod Fitting
pub mod Ranking
pub mod Collecting
pub mod Fragments
pub mod Choices
pub mod Halfway
