pub mod Room
pub mod Gains
