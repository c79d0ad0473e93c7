-- Lemmas on machines that read byte by byte, on versions and on ranges.
pub mod Faults
pub mod PrintReads
pub mod RangeAlive
pub mod RangeCut
pub mod RangeReader
pub mod RangeRuns
pub mod RangeSeen
pub mod RangeStrict
pub mod Unique
