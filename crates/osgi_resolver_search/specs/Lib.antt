-- How a search ends, what it may pass over, and which words it asks of.
pub mod Before
pub mod Outcomes
pub mod Passing
