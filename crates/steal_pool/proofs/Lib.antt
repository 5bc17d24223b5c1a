pub mod Balance
pub mod Left
pub mod Places
pub mod KitSteps
pub mod Passes
pub mod NewKits
pub mod Settled
pub mod Wholes
