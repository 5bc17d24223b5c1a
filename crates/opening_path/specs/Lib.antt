pub mod Greedy
pub mod Laws
