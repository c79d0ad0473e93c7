-- What a resolve answers.
pub mod Answers
pub mod computed
