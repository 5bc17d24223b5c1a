pub mod Counts
pub mod Balance
pub mod Steps
pub mod Champion
pub mod Laws
