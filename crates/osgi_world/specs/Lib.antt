-- The system bundle; and the rules of the module layer: satisfaction, wirings, sources, consistency, and what a resolve decides.
pub mod System
pub mod SharedRanges
pub mod Lists
pub mod Satisfaction
pub mod Lookups
pub mod Payloads
pub mod Wirings
pub mod Sources
pub mod Consistency
pub mod Candidates
pub mod Decisions
pub mod DueDecisions
pub mod Partial
pub mod ChoiceWords
pub mod Hopeless
pub mod Effort
pub mod laws
