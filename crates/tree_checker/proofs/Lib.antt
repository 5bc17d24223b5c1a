pub mod Paths
pub mod Rates
pub mod Reason
pub mod Records
pub mod Steps
