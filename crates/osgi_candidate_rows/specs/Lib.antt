-- The candidates of a problem in rows; and what only proofs and private functions use.
pub mod Listed
pub mod computed
