-- What only proofs and private functions use.
pub mod Gone
pub mod Index
pub mod Numbers
