pub mod Puts
pub mod Letters
pub mod Keys
pub mod Indices
pub mod Steps
pub mod Parts
pub mod Climbs
pub mod Answers
