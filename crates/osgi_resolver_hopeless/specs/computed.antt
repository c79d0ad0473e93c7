-- What private functions and proofs cite. No public promise cites these.
pub mod Stuck
pub mod Providers
pub mod Rivals
pub mod Open
pub mod Through
pub mod Clashing
pub mod Leading
pub mod Losing
pub mod Reasons
pub mod Onward
