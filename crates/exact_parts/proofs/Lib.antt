pub mod PlainDigits
pub mod Canonical
pub mod Widths
pub mod Decimals
pub mod AppendLemmas
pub mod Beginnings
pub mod Percents
