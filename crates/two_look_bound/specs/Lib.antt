pub mod Pairs
pub mod Taken
pub mod Rooms
pub mod Setting
