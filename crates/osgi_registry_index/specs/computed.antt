-- What private functions and proofs cite. No promise of another crate cites these.
pub mod Uses
