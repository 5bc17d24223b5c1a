pub mod Hauls
pub mod Joined
pub mod Left
pub mod Sorted
