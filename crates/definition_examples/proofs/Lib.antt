pub mod Rows
pub mod Refusals
