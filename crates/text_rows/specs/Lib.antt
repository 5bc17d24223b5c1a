pub mod RowFields
pub mod Fields
pub mod Kinds
pub mod Lines
pub mod Rows
pub mod LineMachine
pub mod WholeLines
