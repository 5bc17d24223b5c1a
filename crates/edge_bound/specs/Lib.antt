pub mod Found
pub mod Units
pub mod After
pub mod Moves
pub mod Edges
pub mod Worked
