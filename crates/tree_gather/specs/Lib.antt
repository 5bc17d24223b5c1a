pub mod Hauls
pub mod Gathered
pub mod Laws
