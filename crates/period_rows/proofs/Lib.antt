pub mod ChangeFaults
pub mod FoundRows
pub mod RowOrder
pub mod SameRows
