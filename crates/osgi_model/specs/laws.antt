-- Laws of the definitions, for the proofs of other crates, with what they rest on. No promise cites them.
pub mod Decided
pub mod ElementTexts
pub mod TypeNames
pub mod Longs
pub mod Made
pub mod Numerals
pub mod Standing
pub mod Trimming
pub mod ValueTexts
pub mod VersionTexts
