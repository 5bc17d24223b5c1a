pub mod Masses
pub mod Table
pub mod Laws
pub mod Worked
