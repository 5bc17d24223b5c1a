pub mod Laws
pub mod Pairs
pub mod Product
pub mod Refusals
pub mod Rows
pub mod Worked
