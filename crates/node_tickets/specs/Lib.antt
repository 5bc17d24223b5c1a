pub mod Rule
pub mod Draws
pub mod Seats
