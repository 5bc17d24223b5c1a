pub mod Factors
pub mod OneRate
pub mod Rows
pub mod Changed
mod MadeChanges
pub mod NamedFaults
mod Views
