pub mod Numbers
pub mod Steps
pub mod Tallies
pub mod Closing
pub mod Kept
