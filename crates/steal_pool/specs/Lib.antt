pub mod Rule
pub mod Kits
pub mod Thefts
pub mod Pools
pub mod News
