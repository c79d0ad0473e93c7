-- What an index of offers covers, and what the code computes of candidates.
pub mod Following
pub mod computed
