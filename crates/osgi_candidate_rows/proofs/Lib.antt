-- Lemmas on the numbers of items, on how candidates are found, and on rows of which some items are out.
pub mod Numbers
pub mod Indexed
pub mod Noted
pub mod Going
pub mod Taken
