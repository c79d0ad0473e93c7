-- What the code computes, for the contracts of private functions.
pub mod HavingText
pub mod Satisfied
