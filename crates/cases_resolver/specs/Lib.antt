-- What the slow search answers.
pub mod FirstWords
