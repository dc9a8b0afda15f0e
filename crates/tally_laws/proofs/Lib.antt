pub mod Meets
pub mod Taken
