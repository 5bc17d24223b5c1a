pub mod DriftRows
pub mod Faults
pub mod ChangeFaults
pub mod Changes
