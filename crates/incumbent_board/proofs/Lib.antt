mod Packing
mod Views
mod Histories
mod Steps
mod Passes
mod Shown
mod Offering
pub mod Ends
pub mod SameSeats
