-- The tables, the histories that they stand for, and what operations do to them.
pub mod Asked
pub mod Changes
pub mod Replied
