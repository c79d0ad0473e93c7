-- Lemmas on sights.
pub mod Rising
pub mod Merging
pub mod Answers
pub mod Told
pub mod Onward
