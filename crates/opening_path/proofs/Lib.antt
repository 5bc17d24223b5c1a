pub mod FirstLeast
pub mod GreedySteps
pub mod Openings
pub mod OneOpening
