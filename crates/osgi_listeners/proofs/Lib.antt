-- Lemmas on rows and on tournaments.
pub mod Nodes
pub mod Changes
pub mod ByKind
pub mod Loops
pub mod Orders
pub mod Handing
pub mod Posting
pub mod Delivering
pub mod Counting
pub mod InOrder
pub mod Standing
