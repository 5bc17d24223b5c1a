pub mod Generator
pub mod Made
pub mod Laws
pub mod Worked
