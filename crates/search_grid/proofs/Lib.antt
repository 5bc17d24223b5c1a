pub mod Grids
pub mod MoveRows
pub mod NamedFaults
pub mod Beside
