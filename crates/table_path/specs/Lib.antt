pub mod Words
pub mod Outcomes
