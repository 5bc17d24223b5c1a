pub mod Whys
pub mod Rate
pub mod Reasons
pub mod GapReasons
pub mod Records
pub mod Tables
pub mod Progress
pub mod Laws
