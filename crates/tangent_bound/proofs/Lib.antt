pub mod Covered
pub mod Sizes
pub mod Found
pub mod RowSteps
pub mod WholePath
pub mod Continued
pub mod OneRate
