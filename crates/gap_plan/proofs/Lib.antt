pub mod Listed
pub mod Numbered
pub mod Reordered
pub mod Made
pub mod SameGaps
