-- Lemmas on the clauses of headers.
pub mod ByClause
pub mod LoneWalks
pub mod Made
pub mod Names
pub mod PackageWalks
pub mod PlainLens
pub mod Walks
