pub mod Runs
pub mod Names
pub mod Operators
