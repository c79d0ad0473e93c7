-- What the clauses of Import-Package and Export-Package mean.
pub mod computed
pub mod Exports
pub mod Faults
pub mod Imports
pub mod Only
pub mod Packages
pub mod laws
pub mod Parameters
