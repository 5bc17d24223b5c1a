pub mod Sums
pub mod Near
pub mod Tables
pub mod Rows
pub mod Laws
pub mod Worked
