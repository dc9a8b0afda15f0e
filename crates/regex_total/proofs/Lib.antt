pub mod Count
pub mod Parts
pub mod Steps
pub mod Lengths
