pub mod Recursion
pub mod TwoLooks
pub mod Fitting
pub mod Walking
pub mod Weights
pub mod TwosTable
pub mod PathSums
pub mod OwnCells
