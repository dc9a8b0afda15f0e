pub mod Runs
pub mod Unsigned
