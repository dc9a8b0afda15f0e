pub mod Small
pub mod Spelling
pub mod Selection
pub mod Levels
pub mod StandIns
pub mod Written
pub mod Reached
pub mod Asked
