pub mod Decimal
pub mod Width
pub mod Appending
pub mod Percent
