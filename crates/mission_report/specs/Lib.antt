pub mod Account
pub mod Report
pub mod Map
pub mod Json
pub mod Laws
pub mod Worked
pub mod Course
