-- Lemmas on the nodes in memory, on their chain, and on the items of rows.
pub mod Items
pub mod Linking
pub mod Links
pub mod Memory
pub mod Numbers
pub mod Pairs
pub mod Shared
pub mod Sound
pub mod Steps
pub mod Taken
pub mod Values
pub mod Walk
