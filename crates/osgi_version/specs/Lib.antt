-- The grammars of versions and ranges with their values and faults, and the machines that read them.
pub mod Bytes
pub mod Comparing
pub mod Faults
pub mod FaultPlaces
pub mod RangeValues
pub mod Ranges
pub mod VersionValues
pub mod Versions
pub mod laws
pub mod VersionReading
pub mod computed
