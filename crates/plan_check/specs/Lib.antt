pub mod Loops
pub mod Checks
