pub mod Ints
pub mod Parts
pub mod Numbers
pub mod Outcomes
