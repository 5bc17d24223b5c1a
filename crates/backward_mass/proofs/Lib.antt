pub mod Meeting
pub mod Examples
pub mod RowSteps
pub mod Tables
