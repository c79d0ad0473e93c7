-- What the resolver's proof says of words, of one decision more, and of the problem of a world.
pub mod States
pub mod Cuts
pub mod Facts
pub mod Search
pub mod Checks
pub mod Steps
pub mod Queue
pub mod Reasons
pub mod OnwardFacts
pub mod WorldProblems
