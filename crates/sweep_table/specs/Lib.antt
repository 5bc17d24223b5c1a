pub mod LookParts
pub mod Faults
pub mod Changes
pub mod Covered
pub mod Forms
pub mod Rates
