pub mod Rewards
pub mod Means
