-- Lemmas on runs of lines and on the top call.
pub mod Closing
pub mod Ends
pub mod Limits
pub mod Runs
pub mod WordLaws
