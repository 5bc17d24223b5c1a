pub mod Target
pub mod Stands
pub mod Carried
pub mod Laws
pub mod Worked
pub mod Searchers
pub mod Periods
pub mod Differing
