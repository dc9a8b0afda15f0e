pub mod Paths
pub mod Calls
pub mod Known
pub mod Turns
pub mod Rows
pub mod Columns
