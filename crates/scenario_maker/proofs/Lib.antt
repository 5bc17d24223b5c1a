pub mod Draws
pub mod Counts
pub mod ByTest
pub mod Cells
pub mod Problems
pub mod Listed
pub mod Prefixes
pub mod Worked
