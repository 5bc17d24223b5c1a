pub mod ChangeFaults
pub mod DriftChanges
pub mod Drifts
pub mod NamedFaults
pub mod Parts
